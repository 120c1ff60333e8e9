use Rattle.std.proofs.Common.{◌≡◌, length, refl, sym, ap, subst, ◌∙◌, arith}
use Rattle.string_interner.proofs.Lemmas.Backend.Numbering.{numbered, injective}
use Rattle.string_interner.proofs.Lemmas.Table.Removes.{Lacks, Lacks-start, Lacks-has, Lacks-more, Lacks-end}
use Rattle.string_interner.proofs.dedup.table.Table.remove_last.Goals as goal

pub loop-entry-init : goal.loop-entry-init
loop-entry-init g c = record {
  at = c.place_of-at.ensures;
  lacks = Lacks-start g.L.Layout.layout g.met.L.Layout.layout_laws g.B.Store.numbering (numbered g.B.Store.numbering g.met.B.Store.symbols g.met.S.Symbol.numbered) (injective g.B.Store.numbering g.met.B.Store.symbols g.met.S.Symbol.injective) g.met.B.Store.grows
      (g.H.TextHasher.code c.args.hasher.now) (g.B.Store.texts c.args.backend.now) c.args.len c.requires.within c.args.self.now.slots c.requires.whole;
  count = refl;
  slots = refl;
}

pub entry_at-symbol-requires : goal.entry_at-symbol-requires
entry_at-symbol-requires g c = (c.loop-entry._entry, record { within = (let a = c.loop-entry-test.true in let b = c.count-entry-end.ensures.value in omega arith); begins = sym c.loop-entry.invariant.at })

pub remove-requires-clause-fits : goal.remove-requires-clause-fits
remove-requires-clause-fits g c = c.loop-entry.invariant.lacks.fits

pub remove-requires-clause-there : goal.remove-requires-clause-there
remove-requires-clause-there g c =
    let a = c.loop-entry-test.true in let b = c.count-entry-end.ensures.value in let d = c.loop-entry.auto._entry in
    Lacks-has g.L.Layout.layout g.met.L.Layout.layout_laws g.B.Store.numbering (numbered g.B.Store.numbering g.met.B.Store.symbols g.met.S.Symbol.numbered) (injective g.B.Store.numbering g.met.B.Store.symbols g.met.S.Symbol.injective) g.met.B.Store.grows
    (g.H.TextHasher.code c.args.hasher.now) (g.B.Store.texts c.args.backend.now) c.args.len c.requires.within c.loop-entry.self.slots c.loop-entry._entry (omega arith) (omega arith) c.loop-entry.invariant.lacks c.entry_at-symbol.result.0
    (ap g.B.Store.numbering.symbol_of (sym c.loop-entry.invariant.at) ∙ c.entry_at-symbol.ensures.symbol)

pub loop-entry-preserved : goal.loop-entry-preserved
loop-entry-preserved g c =
    let inv = c.loop-entry.invariant in
    let a = c.loop-entry-test.true in let b = c.count-entry-end.ensures.value in let d = c.loop-entry.auto._entry in
    let e = c.remove.ensures.removes.count in let f = inv.count in
    record {
      at = c.entry_at-symbol.ensures.next c.loop-entry._entry (record { within = omega arith; begins = sym inv.at });
      lacks = Lacks-more g.L.Layout.layout g.met.L.Layout.layout_laws g.B.Store.numbering (numbered g.B.Store.numbering g.met.B.Store.symbols g.met.S.Symbol.numbered) (injective g.B.Store.numbering g.met.B.Store.symbols g.met.S.Symbol.injective) g.met.B.Store.grows
          (g.H.TextHasher.code c.args.hasher.now) (g.B.Store.texts c.args.backend.now) c.args.len c.requires.within c.loop-entry.self.slots c.loop-entry._entry (omega arith) (omega arith) inv.lacks c.entry_at-symbol.result.0
          (ap g.B.Store.numbering.symbol_of (sym inv.at) ∙ c.entry_at-symbol.ensures.symbol) c.remove.new.self.slots c.remove.ensures.removes.fits c.remove.ensures.removes.pair;
      count = omega arith;
      slots = c.remove.ensures.removes.slots ∙ inv.slots;
    }

pub returns-clause-whole : goal.returns-clause-whole
returns-clause-whole g c =
    let a = c.loop-entry-test.false in let b = c.count-entry-end.ensures.value in let d = c.loop-entry.auto._entry-end in
    let end : c.loop-entry._entry ≡ length (g.B.Store.texts c.args.backend.now) = omega arith in
    Lacks-end g.L.Layout.layout g.met.L.Layout.layout_laws g.B.Store.numbering (numbered g.B.Store.numbering g.met.B.Store.symbols g.met.S.Symbol.numbered) (injective g.B.Store.numbering g.met.B.Store.symbols g.met.S.Symbol.injective) g.met.B.Store.grows
    (g.H.TextHasher.code c.args.hasher.now) (g.B.Store.texts c.args.backend.now) c.args.len c.requires.within c.loop-entry.self.slots
    (subst (Lacks g.L.Layout.layout g.B.Store.numbering (g.H.TextHasher.code c.args.hasher.now) (g.B.Store.texts c.args.backend.now) c.args.len c.loop-entry.self.slots) end c.loop-entry.invariant.lacks)

pub returns-clause-count : goal.returns-clause-count
returns-clause-count g c =
    let a = c.loop-entry-test.false in let b = c.count-entry-end.ensures.value in let d = c.loop-entry.auto._entry-end in let f = c.loop-entry.invariant.count in omega arith
