use Rattle.std.proofs.Common.{rules, ◌≡◌, ◌-◌, ◌^◌, None, inl, inr, refl, replicate}
use Rattle.string_interner.proofs.Lemmas.Index.Stored.{made, made-stored}
use Rattle.string_interner.proofs.dedup.slots.SlotsLayout.empty.Goals as goal
use Rattle.string_interner.proofs.dedup.slots.SlotsLayout.empty.Goals.{then-has_numbers, else-has_numbers, then-has_narrow_numbers, else-has_narrow_numbers}

pub invariant_of-result : goal.invariant_of-result
invariant_of-result g c =
    let numbers : c.in_ok-from_elem.field-0.items ≡ replicate c.if-has_numbers.numbers (2 ^ 32 - 1) = search rules in
    let others : c.in_ok-from_elem-2.field-0.items ≡ replicate c.if-has_narrow_numbers.others None = search rules in
    rw (numbers, others) (made-stored g.S.Symbol.symbol_of c.args.count _ _
    (λ free. elim c.if-has_numbers.branch [ then-has_numbers w ↦ search rules | else-has_numbers w ↦ search rules ])
    (λ some. elim c.if-has_numbers.branch [ then-has_numbers w ↦ search rules | else-has_numbers w ↦ search rules ])
    (elim c.if-has_narrow_numbers.branch [ then-has_narrow_numbers w ↦ inr (w.others-is, w.if-has_narrow_numbers.ensures refl) | else-has_narrow_numbers w ↦ inl w.others-is ]))

pub returns : goal.returns
returns g c =
    let numbers : c.in_ok-from_elem.field-0.items ≡ replicate c.if-has_numbers.numbers (2 ^ 32 - 1) = search rules in
    let others : c.in_ok-from_elem-2.field-0.items ≡ replicate c.if-has_narrow_numbers.others None = search rules in
    rw (numbers, others) (made g.S.Symbol.symbol_of c.args.count _ _
    (λ free. elim c.if-has_numbers.branch [ then-has_numbers w ↦ search rules | else-has_numbers w ↦ search rules ])
    (λ some. elim c.if-has_numbers.branch [ then-has_numbers w ↦ search rules | else-has_numbers w ↦ search rules ])
    (elim c.if-has_narrow_numbers.branch [ then-has_narrow_numbers w ↦ inr (w.others-is, w.if-has_narrow_numbers.ensures refl) | else-has_narrow_numbers w ↦ inl w.others-is ]))
