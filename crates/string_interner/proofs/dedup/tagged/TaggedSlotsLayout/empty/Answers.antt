use Rattle.std.proofs.Common.{◌≡◌, ◌+◌, rules, [], replicate, arith, length}
use Rattle.string_interner.proofs.Lemmas.TaggedSlots.IsTagged.{IsTagged-zeroes}
use Rattle.string_interner.proofs.Lemmas.TaggedSlots.SymbolsIn.{symbols_in-none}
use Rattle.string_interner.proofs.dedup.tagged.TaggedSlotsLayout.empty.Goals as goal

pub returns : goal.returns
returns g c =
    let z : c.in_ok-with_capacity.field-0.items ≡ [] = search rules in
    rw z (symbols_in-none c.args.count)

pub invariant_of-result : goal.invariant_of-result
invariant_of-result g c =
    let b : c.in_ok-from_elem.field-0.items ≡ replicate (c.args.count + 16) 0 = search rules in
    let z : length c.in_ok-with_capacity.field-0.items ≡ 0 = search rules in
    rw b (IsTagged-zeroes c.args.count (c.args.count + 16) c.in_ok-with_capacity.field-0.items _ (λ some. omega arith) (λ some. absurd (omega arith)) (omega (arith, c.in_ok-with_capacity.ensures.capacity)))
