use Rattle.std.proofs.Common.{refl, rules, arith, [], ◌∷◌, vec_capacity}
use Rattle.string_interner.specs.InternAll.{Lists}
use Rattle.string_interner.specs.declared.backend.InternError.TheVariants.{Memory}
use Rattle.string_interner.proofs.Lemmas.Interner.InternsEach.{each-none, each-more, each-refused, each-full}
use Rattle.string_interner.proofs.interner.StringInterner.intern_next.Goals as goal

pub returns-in_err-reserve-clause-interns : goal.returns-in_err-reserve-clause-interns
returns-in_err-reserve-clause-interns g c = each-full g.B.Store.numbering g.I.TextIndex.rule g.met.I.TextIndex.rule_laws (Lists (c.args.text ∷ [])) [] c.args.text _ _ c.args.symbols.now c.reserve.new.self c.args.symbols.now.items (vec_capacity c.args.symbols.now) (Memory c.in_err-reserve.field-0.0) c.from_residual.result
    ([], refl) (search rules) tt (each-none g.B.Store.numbering g.I.TextIndex.rule g.met.I.TextIndex.rule_laws _ _ c.len.ensures.holds.loaded) (search rules) (omega arith) (search rules)

pub returns-in_err-symbol-clause-interns : goal.returns-in_err-symbol-clause-interns
returns-in_err-symbol-clause-interns g c = each-refused g.B.Store.numbering g.I.TextIndex.rule g.met.I.TextIndex.rule_laws (Lists (c.args.text ∷ [])) [] c.args.text _ _ _ c.args.symbols.now c.reserve.new.self c.args.symbols.now.items c.in_err-symbol.field-0.0 c.from_residual-in_err-symbol.result
    ([], refl) (search rules) (each-none g.B.Store.numbering g.I.TextIndex.rule g.met.I.TextIndex.rule_laws _ _ c.len.ensures.holds.loaded) c.in_err-symbol.ensures (search rules)

pub returns-clause-interns : goal.returns-clause-interns
returns-clause-interns g c = (
  c.args.text ∷ [],
  _,
  each-more g.B.Store.numbering g.I.TextIndex.rule g.met.I.TextIndex.rule_laws _ _ [] _ _ _ _ c.args.text _ c.len.ensures.holds.loaded c.len-2.ensures.holds.loaded
      (each-none g.B.Store.numbering g.I.TextIndex.rule g.met.I.TextIndex.rule_laws _ _ c.len.ensures.holds.loaded) c.in_ok-symbol.ensures (search rules),
  (refl, refl),
)
