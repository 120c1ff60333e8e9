use Rattle.std.proofs.Common.{◌≡◌, length, drop, ap, arith, rules}
use Rattle.std.proofs.lemmas.List.{length-drop}
use Rattle.dictcol.proofs.HeldRows.{rows-long}
use Rattle.dictcol.proofs.plain.held.HeldRows.len.Goals as goal

pub returns : goal.returns
returns c =
    let inside = c.self.inside in
    let long = rows-long inside.dictionary.items inside.bounds.items (drop 128 inside.numbers.items) _ c.self.invariant.1 in
    let same : c.len.result ≡ length inside.numbers.items = search rules in
    let rows : _ ≡ c.args.self.now.0 = ap (λ v. v.0) c.self.view_is in
    omega (arith, long, same, length-drop 128 inside.numbers.items, c.self.invariant.0, ap length rows)
