use Rattle.std.proofs.Common.{ap, subst, ◌∙◌, ◌≡◌, length, map, take, Some, Vec}
use Rattle.std.specs.declared.alloc.Global.{Global}
use Rattle.string_interner.proofs.Lemmas.Backend.Numbering.{numbered}
use Rattle.string_interner.proofs.Lemmas.Interner.InternsEach.{front-named, slice-done, slice-failed}
use Rattle.string_interner.proofs.interner.StringInterner.intern_block.Goals as goal
use Rattle.string_interner.proofs.interner.StringInterner.intern_block.Goals.{in-Ok, in-Err}

pub push_numbers-requires-clause-named : goal.push_numbers-requires-clause-named
push_numbers-requires-clause-named g c =
    let front = c.in-Ok.ensures.interns in
    let named = front-named g.B.Store.numbering g.I.TextIndex.rule g.met.I.TextIndex.rule_laws (numbered g.B.Store.numbering g.met.B.Store.symbols g.met.B.Symbol.Symbol.numbered) c.args.texts.now _ _ _ _ _ front in
    (front.symbols, subst (λ of. map of (take (length c.args.texts.now) c.intern_front-ended.new.numbers) ≡ map Some front.symbols) g.met.B.Store.symbols.0 named)

pub push_numbers-requires-in-Err-clause-named : goal.push_numbers-requires-in-Err-clause-named
push_numbers-requires-in-Err-clause-named g c =
    let front = c.in-Err.ensures.interns.1 in
    let named = front-named g.B.Store.numbering g.I.TextIndex.rule g.met.I.TextIndex.rule_laws (numbered g.B.Store.numbering g.met.B.Store.symbols g.met.B.Symbol.Symbol.numbered) c.args.texts.now _ _ _ _ _ front in
    (front.symbols, subst (λ of. map of (take c.in-Err.stopped.done c.intern_front-ended.new.numbers) ≡ map Some front.symbols) g.met.B.Store.symbols.0 named)

pub returns-clause-interns : goal.returns-clause-interns
returns-clause-interns g c =
    let is_numbered = numbered g.B.Store.numbering g.met.B.Store.symbols g.met.B.Symbol.Symbol.numbered in
    elim c.match-ended.branch [
      | in-Ok w ↦
          let front = w.in-Ok.ensures.interns in
          let named = front-named g.B.Store.numbering g.I.TextIndex.rule g.met.I.TextIndex.rule_laws is_numbered c.args.texts.now _ _ _ _ _ front in
          let named_so = subst (λ of. map of (take (length c.args.texts.now) c.intern_front-ended.new.numbers) ≡ map Some front.symbols) g.met.B.Store.symbols.0 named in
          rw (← c.self.view_is) (slice-done g.B.Store.numbering g.I.TextIndex.rule g.met.I.TextIndex.rule_laws c.args.texts.now _ _ _ _ c.args.symbols.now c.match-ended.symbols c.match-ended.result front w.result-is
          (ap (λ (v : Vec _ Global). v.items) w.symbols-is ∙ w.push_numbers.ensures.pushed front.symbols named_so))
      | in-Err w ↦
          let slice = w.in-Err.ensures.interns in
          let named = front-named g.B.Store.numbering g.I.TextIndex.rule g.met.I.TextIndex.rule_laws is_numbered c.args.texts.now _ _ _ _ _ slice.1 in
          let named_so = subst (λ of. map of (take w.in-Err.stopped.done c.intern_front-ended.new.numbers) ≡ map Some slice.1.symbols) g.met.B.Store.symbols.0 named in
          rw (← c.self.view_is) (slice-failed g.B.Store.numbering g.I.TextIndex.rule g.met.I.TextIndex.rule_laws c.args.texts.now _ _ _ _ c.args.symbols.now c.match-ended.symbols w.in-Err.stopped c.match-ended.result slice w.result-is
          (ap (λ (v : Vec _ Global). v.items) w.symbols-is ∙ w.push_numbers-in-Err.ensures.pushed slice.1.symbols named_so))
    ]
