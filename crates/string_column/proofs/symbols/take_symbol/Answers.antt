use Rattle.std.proofs.Common.{◌≡◌, ◌<◌, rules, arith, ◌∷◌, ◌++◌, [], Some, subst}
use Rattle.std.specs.Prelude.{slice_get}
use Rattle.string_column.proofs.Lemmas.AreNumbered.{slice_get-push, last-greatest, none-listed}
use Rattle.string_column.proofs.symbols.take_symbol.Goals.{in_default-via-in-Some+else-to_usize, in_default-via-in_default}
use Rattle.string_column.proofs.symbols.take_symbol.Goals as goal

pub returns-in_ok-push-in_default-clause-listed : goal.returns-in_ok-push-in_default-clause-listed
returns-in_ok-push-in_default-clause-listed g c = λ listed. elim c.in_default.branch [
  | in_default-via-in-Some+else-to_usize w ↦ (let most = last-greatest g.S.Symbol.number c.args.symbols.now.items c.args.symbol w.in-Some.last.now listed.0 c.requires.ascend listed.1 (search rules) in
      let less : g.S.Symbol.number w.in-Some.last.now < g.S.Symbol.number c.args.symbol = search rules in absurd (omega (arith, most, less)))
  | in_default-via-in_default w ↦ absurd (none-listed c.args.symbols.now.items c.args.symbol listed.0 listed.1 (search rules))
]

pub returns-in_ok-push-in_default-clause-index : goal.returns-in_ok-push-in_default-clause-index
returns-in_ok-push-in_default-clause-index g c =
    rw c.in_ok-push-in_default.ensures.items (subst (λ i. slice_get (c.args.symbols.now.items ++ c.args.symbol ∷ []) i ≡ Some c.args.symbol) (search rules) (slice_get-push c.args.symbols.now.items c.args.symbol))
