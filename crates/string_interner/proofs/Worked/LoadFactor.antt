-- The least slots for a capacity, of which three quarters or seven eighths may be filled.
use Rattle.std.proofs.Common.{ℕ, ◌-◌, ◌*◌, ◌^◌, refl, inl, inr, arith}
use Rattle.std.proofs.lemmas.Nat.{pow_pos}
use Rattle.string_interner.specs.LoadFactor.{IsLoadFactor, IsWithinThreeQuarters, three_quarters, rule_by, seven_eighths}
use Rattle.string_interner.specs.LoadFactorLaws.{IsSlotCount-grown, above, grown-le, three_quarters-load, rule_by-laws, seven_eighths-load}
use Rattle.string_interner.specs.SlotRule.{IsLeastSlotCount}

module _ (holds : ℕ → ℕ → Type 0) (load : IsLoadFactor holds) where
  eight : (capacity : ℕ) → ¬ holds 0 capacity → holds 8 capacity → IsLeastSlotCount (rule_by holds) capacity 8
  eight capacity some few = record { allowed = inr (0, refl); room = few; least = λ m allowed room. grown-le 0 8 m (inl refl) (inl (refl, refl)) allowed (above holds load 0 m capacity some room) }

  doubled : (capacity k : ℕ) → ¬ holds (8 * 2 ^ k) capacity → holds (2 * (8 * 2 ^ k)) capacity → IsLeastSlotCount (rule_by holds) capacity (2 * (8 * 2 ^ k))
  doubled capacity k more room =
      let some = pow_pos k in
      record {
        allowed = IsSlotCount-grown (8 * 2 ^ k) (2 * (8 * 2 ^ k)) (inr (k, refl)) (inr (omega arith, refl));
        room = room;
        least = λ m allowed enough. grown-le (8 * 2 ^ k) (2 * (8 * 2 ^ k)) m (inr (k, refl)) (inr (omega arith, refl)) allowed (above holds load (8 * 2 ^ k) m capacity more enough);
      }

-- Three quarters.

pub slots-for-none : IsLeastSlotCount three_quarters 0 0
slots-for-none = (rule_by-laws _ three_quarters-load).none

pub slots-for-one : IsLeastSlotCount three_quarters 1 8
slots-for-one = eight _ three_quarters-load 1 (λ h. omega arith) (omega arith)

pub slots-for-six : IsLeastSlotCount three_quarters 6 8
slots-for-six = eight _ three_quarters-load 6 (λ h. omega arith) (omega arith)

pub slots-for-seven : IsLeastSlotCount three_quarters 7 16
slots-for-seven = doubled _ three_quarters-load 7 0 (λ h. omega arith) (omega arith)

pub slots-for-twelve : IsLeastSlotCount three_quarters 12 16
slots-for-twelve = doubled _ three_quarters-load 12 0 (λ h. omega arith) (omega arith)

pub slots-for-thirteen : IsLeastSlotCount three_quarters 13 32
slots-for-thirteen = doubled _ three_quarters-load 13 1 (λ h. omega arith) (omega arith)

pub slots-for-twenty-four : IsLeastSlotCount three_quarters 24 32
slots-for-twenty-four = doubled _ three_quarters-load 24 1 (λ h. omega arith) (omega arith)

pub slots-for-twenty-five : IsLeastSlotCount three_quarters 25 64
slots-for-twenty-five = doubled _ three_quarters-load 25 2 (λ h. omega arith) (omega arith)

pub slots-for-forty-eight : IsLeastSlotCount three_quarters 48 64
slots-for-forty-eight = doubled _ three_quarters-load 48 2 (λ h. omega arith) (omega arith)

pub slots-for-forty-nine : IsLeastSlotCount three_quarters 49 128
slots-for-forty-nine = doubled _ three_quarters-load 49 3 (λ h. omega arith) (omega arith)

-- No slot count that fits 64 bits holds 2^63 entries, or the greatest number of 64 bits.
pub no-slots-for-half-of-all : ¬ IsWithinThreeQuarters (2 ^ 63) (2 ^ 63)
no-slots-for-half-of-all holds = absurd (omega arith)

pub no-slots-for-all : ¬ IsWithinThreeQuarters (2 ^ 63) (2 ^ 64 - 1)
no-slots-for-all holds = absurd (omega arith)

-- Seven eighths.

pub fuller-slots-for-none : IsLeastSlotCount seven_eighths 0 0
fuller-slots-for-none = (rule_by-laws _ seven_eighths-load).none

pub fuller-slots-for-one : IsLeastSlotCount seven_eighths 1 8
fuller-slots-for-one = eight _ seven_eighths-load 1 (λ h. omega arith) (omega arith)

pub fuller-slots-for-seven : IsLeastSlotCount seven_eighths 7 8
fuller-slots-for-seven = eight _ seven_eighths-load 7 (λ h. omega arith) (omega arith)

pub fuller-slots-for-eight : IsLeastSlotCount seven_eighths 8 16
fuller-slots-for-eight = doubled _ seven_eighths-load 8 0 (λ h. omega arith) (omega arith)

pub fuller-slots-for-fourteen : IsLeastSlotCount seven_eighths 14 16
fuller-slots-for-fourteen = doubled _ seven_eighths-load 14 0 (λ h. omega arith) (omega arith)

pub fuller-slots-for-fifteen : IsLeastSlotCount seven_eighths 15 32
fuller-slots-for-fifteen = doubled _ seven_eighths-load 15 1 (λ h. omega arith) (omega arith)

pub fuller-slots-for-a-hundred : IsLeastSlotCount seven_eighths 100 128
fuller-slots-for-a-hundred = doubled _ seven_eighths-load 100 3 (λ h. omega arith) (omega arith)
