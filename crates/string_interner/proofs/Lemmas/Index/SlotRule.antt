-- Slot counts as entries come one by one, under any rule that keeps its laws.
use Rattle.std.proofs.Common.{◌≡◌, ℕ, ◌+◌, ◌≤◌, ◌⊎◌, inl, inr, arith, refl, sym, subst, ◌∙◌, Result, Ok, Err}
use Rattle.std.specs.Prelude.{OnOk, OnErr}
use Rattle.string_interner.specs.SlotRule.{SlotRule, IsLeastSlotCount, GrowsIfFull, GrowsFor, IsSlotRule}

-- the slots stay as they are
pub GrowsIfFull-same : (rule : SlotRule) (len count : ℕ) → GrowsIfFull rule len count count
GrowsIfFull-same rule len count = record { allowed = λ h. refl; grown = inl refl }

module _ (rule : SlotRule) (laws : IsSlotRule rule) where
  one_fewer : (slots len : ℕ) → rule.holds slots (len + 1) → rule.holds slots len
  one_fewer slots len room = laws.fewer slots (len + 1) len room (omega arith)

  -- room for one more entry was asked for
  pub GrowsIfFull-reserved : {T E : Type 0} (len old new : ℕ) (outcome : Result T E) → (rule.holds old (len + 1) → new ≡ old)
      → (¬ rule.holds old (len + 1) → OnOk outcome (rule.grows_to old new)) → OnErr outcome (new ≡ old) → GrowsIfFull rule len old new
  GrowsIfFull-reserved len old new (Err e) had_room grown err = record { allowed = λ h. err; grown = inl err }
  GrowsIfFull-reserved len old new (Ok done) had_room grown err = record {
    allowed = had_room;
    grown = elim (laws.decided old (len + 1)) as (λ _. (new ≡ old) ⊎ rule.grows_to old new) [ inl room ↦ inl (had_room room) | inr is_full ↦ inr (grown is_full) ];
  }

  -- slots that had room for one more entry than the list got have it still
  pub GrowsFor-room : (len old new : ℕ) → GrowsFor rule len old new → rule.holds old (len + 1) → rule.holds new (len + 1)
  GrowsFor-room len old new h room = subst (λ n. rule.holds n (len + 1)) (sym (h.allowed (one_fewer old len room))) room

  -- the least count that has room for one more entry too
  least-same : (len count : ℕ) → IsLeastSlotCount rule len count → rule.holds count (len + 1) → IsLeastSlotCount rule (len + 1) count
  least-same len count h load = record { allowed = h.allowed; room = load; least = λ m allowed room. h.least m allowed (one_fewer m len room) }

  -- a count that grows where it is full, and then has room, grows to the least that has
  least-full : (len old new : ℕ) → rule.allowed old → ¬ rule.holds old (len + 1) → GrowsIfFull rule len old new → rule.holds new (len + 1) → IsLeastSlotCount rule (len + 1) new
  least-full len old new s is_full grows load = of grows.grown
    where
      of : (new ≡ old) ⊎ rule.grows_to old new → IsLeastSlotCount rule (len + 1) new
      of (inl e) = absurd (is_full (subst (λ n. rule.holds n (len + 1)) e load))
      of (inr g) = laws.grown old new (len + 1) s is_full g load

  -- the least count stays the least as one more entry comes
  pub least-grown : (len old new : ℕ) → IsLeastSlotCount rule len old → GrowsIfFull rule len old new → rule.holds new (len + 1) → IsLeastSlotCount rule (len + 1) new
  least-grown len old new h grows load =
      elim (laws.decided old (len + 1)) as (λ _. IsLeastSlotCount rule (len + 1) new) [
        | inl room ↦ subst (IsLeastSlotCount rule (len + 1)) (sym (grows.allowed room)) (least-same len old h room)
        | inr is_full ↦ least-full len old new h.allowed is_full grows load
      ]

  -- slots that grew for a list, and then for a longer one, grew for the longer one
  pub GrowsFor-joined : (len more old mid new : ℕ) → len ≤ more → GrowsFor rule len old mid → GrowsFor rule more mid new → GrowsFor rule more old new
  GrowsFor-joined len more old mid new less before after = record {
    allowed = λ room. let e = before.allowed (laws.fewer old more len room less) in after.allowed (subst (λ n. rule.holds n more) (sym e) room) ∙ e;
    least = λ none. elim (laws.decided mid more) as (λ _. IsLeastSlotCount rule more new) [
      | inl room ↦
          (let h = before.least (λ r. none (subst (λ n. rule.holds n more) (before.allowed r) room)) in
          subst (IsLeastSlotCount rule more) (sym (after.allowed room)) (record { allowed = h.allowed; room = room; least = λ m allowed fits. h.least m allowed (laws.fewer m more len fits less) }))
      | inr is_full ↦ after.least is_full
    ];
  }

  -- slots that grew for a list grow for one more entry
  pub grown-more : (len old mid new : ℕ) → rule.allowed mid → GrowsFor rule len old mid → GrowsIfFull rule len mid new → rule.holds new (len + 1) → GrowsFor rule (len + 1) old new
  grown-more len old mid new s h grows load = record {
    allowed = λ room. let e = h.allowed (one_fewer old len room) in grows.allowed (subst (λ n. rule.holds n (len + 1)) (sym e) room) ∙ e;
    least = λ none. elim (laws.decided mid (len + 1)) as (λ _. IsLeastSlotCount rule (len + 1) new) [
      | inl room ↦ least-grown len mid new (h.least (λ r. none (subst (λ n. rule.holds n (len + 1)) (h.allowed r) room))) grows load
      | inr is_full ↦ least-full len mid new s is_full grows load
    ];
  }
