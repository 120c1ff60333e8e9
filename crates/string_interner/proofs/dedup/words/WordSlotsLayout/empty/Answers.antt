use Rattle.std.proofs.Common.{◌≡◌, rules, replicate}
use Rattle.string_interner.proofs.Lemmas.WordSlots.{symbols-zeros}
use Rattle.string_interner.proofs.dedup.words.WordSlotsLayout.empty.Goals as goal

pub returns : goal.returns
returns g c =
    let z : c.in_ok-zeros.field-0 ≡ replicate c.args.count 0 = search rules in
    rw z (symbols-zeros g.S.Symbol.symbol_of c.args.count)
