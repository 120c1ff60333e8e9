-- The laws of the two load factors, and of the rule that any load factor gives.
-- Cited by `Table` and by its layouts.
use Rattle.std.proofs.Common.{◌≡◌, ℕ, suc, ◌+◌, ◌*◌, ◌^◌, ◌<◌, ◌≤◌, ◌⊎◌, inl, inr, arith, refl}
use Rattle.std.proofs.Math.Nat.{pow-succ'}
use Rattle.std.proofs.Math.Pow.{pow_mono}
use Rattle.std.proofs.lemmas.Bool.{cases_lt}
use Rattle.string_interner.specs.SlotRule.{IsSlotRule}
use Rattle.string_interner.specs.LoadFactor.{GrowsTo, IsLoadFactor, IsSlotCount, IsWithinThreeQuarters, IsWithinSevenEighths, rule_by}

pub IsSlotCount-grown : (count more : ℕ) → IsSlotCount count → GrowsTo count more → IsSlotCount more
IsSlotCount-grown count more s (inl a) = inr (0, a.1)
IsSlotCount-grown count more (inl z) (inr b) = let l = b.0 in absurd (omega arith)
IsSlotCount-grown count more (inr p) (inr b) =
    let d = b.1 in let e = p.1 in let h : 2 ^ suc p.0 ≡ 2 * 2 ^ p.0 = pow-succ' 2 p.0 in inr (suc p.0, omega arith)

-- an allowed count above another is at least twice it
above_doubled : (k m : ℕ) → IsSlotCount m → 8 * 2 ^ k < m → 2 * (8 * 2 ^ k) ≤ m
above_doubled k m (inl z) l = omega arith
above_doubled k m (inr p) l =
    let e = p.1 in
    elim (cases_lt k p.0) as (λ _. 2 * (8 * 2 ^ k) ≤ m) [
      | inl h ↦ (let a : 2 ^ suc k ≤ 2 ^ p.0 = pow_mono (omega arith) in let b : 2 ^ suc k ≡ 2 * 2 ^ k = pow-succ' 2 k in omega arith)
      | inr h ↦ (let a : 2 ^ p.0 ≤ 2 ^ k = pow_mono h in omega arith)
    ]

eight_or_more : (m : ℕ) → IsSlotCount m → 0 < m → 8 ≤ m
eight_or_more m (inl z) some = absurd (omega arith)
eight_or_more m (inr p) some = let e = p.1 in let a : 2 ^ 0 ≤ 2 ^ p.0 = pow_mono {i = 0} (omega arith) in omega arith

-- no allowed slot count is above another and below what that grows to
pub grown-le : (old new m : ℕ) → IsSlotCount old → GrowsTo old new → IsSlotCount m → old < m → new ≤ m
grown-le old new m s (inl a) t l = let z = a.0 in let n = a.1 in let b = eight_or_more m t (omega arith) in omega arith
grown-le old new m (inl z) (inr b) t l = let some = b.0 in absurd (omega arith)
grown-le old new m (inr p) (inr b) t l = let e = p.1 in let n = b.1 in let h = above_doubled p.0 m t (omega arith) in omega arith

-- a slot count that fits a `usize` is at most 2 ^ 63
pub count_small : (count : ℕ) → IsSlotCount count → count < 2 ^ 64 → count ≤ 2 ^ 63
count_small count (inl z) l = omega arith
count_small count (inr p) l =
    let e = p.1 in
    elim (cases_lt p.0 61) as (λ _. count ≤ 2 ^ 63) [
      | inl h ↦ (let b : p.0 ≤ 60 = omega arith in let a : 2 ^ p.0 ≤ 2 ^ 60 = pow_mono {j = 60} b in omega arith)
      | inr h ↦ (let a : 2 ^ 61 ≤ 2 ^ p.0 = pow_mono {i = 61} h in omega arith)
    ]

pub three_quarters-load : IsLoadFactor IsWithinThreeQuarters
three_quarters-load = record {
  decided = λ slots entries. elim (cases_lt (3 * slots) (4 * entries)) as (λ _. IsWithinThreeQuarters slots entries ⊎ ¬ IsWithinThreeQuarters slots entries)
      [ inl less ↦ inr (λ room. omega arith) | inr room ↦ inl room ];
  fewer = λ slots entries fewer room less. omega arith;
  wider = λ slots more entries room less. omega arith;
  doubled = λ slots some others a b. omega arith;
  within = λ slots entries room. elim (cases_lt entries slots) as (λ _. (entries < slots) ⊎ ((slots ≡ 0) × (entries ≡ 0)))
      [ inl l ↦ inl l | inr l ↦ inr (omega arith, omega arith) ];
  half = λ slots entries none. elim (cases_lt slots (2 * entries)) as (λ _. slots < 2 * entries) [ inl l ↦ l | inr l ↦ absurd (none (omega arith)) ];
}

pub seven_eighths-load : IsLoadFactor IsWithinSevenEighths
seven_eighths-load = record {
  decided = λ slots entries. elim (cases_lt (7 * slots) (8 * entries)) as (λ _. IsWithinSevenEighths slots entries ⊎ ¬ IsWithinSevenEighths slots entries)
      [ inl less ↦ inr (λ room. omega arith) | inr room ↦ inl room ];
  fewer = λ slots entries fewer room less. omega arith;
  wider = λ slots more entries room less. omega arith;
  doubled = λ slots some others a b. omega arith;
  within = λ slots entries room. elim (cases_lt entries slots) as (λ _. (entries < slots) ⊎ ((slots ≡ 0) × (entries ≡ 0)))
      [ inl l ↦ inl l | inr l ↦ inr (omega arith, omega arith) ];
  half = λ slots entries none. elim (cases_lt slots (2 * entries)) as (λ _. slots < 2 * entries) [ inl l ↦ l | inr l ↦ absurd (none (omega arith)) ];
}

module _ (holds : ℕ → ℕ → Type 0) (laws : IsLoadFactor holds) where
  -- what holds more entries than others do has more slots
  pub above : (slots m entries : ℕ) → ¬ holds slots entries → holds m entries → slots < m
  above slots m entries is_full room =
      elim (cases_lt slots m) as (λ _. slots < m) [ inl l ↦ l | inr l ↦ absurd (is_full (laws.wider m slots entries room l)) ]

  pub entries-le : (slots entries : ℕ) → holds slots entries → entries ≤ slots
  entries-le slots entries h = elim (laws.within slots entries h) as (λ _. entries ≤ slots) [ inl l ↦ omega arith | inr e ↦ (let a = e.1 in omega arith) ]

  -- grown slots have room for one more entry
  pub room-grown : (slots more entries : ℕ) → holds slots entries → GrowsTo slots more → holds more (entries + 1)
  room-grown slots more entries h g =
      elim (laws.decided more (entries + 1)) as (λ _. holds more (entries + 1)) [
        | inl room ↦ room
        | inr none ↦ absurd (let l = laws.half more (entries + 1) none in short g (laws.within slots entries h) l)
      ]
    where
      short : GrowsTo slots more → (entries < slots) ⊎ ((slots ≡ 0) × (entries ≡ 0)) → more < 2 * (entries + 1) → ⊥
      short (inl a) (inl w) l = let z = a.0 in omega arith
      short (inl a) (inr w) l = let z = a.1 in let y = w.1 in omega arith
      short (inr b) (inl w) l = let z = b.1 in omega arith
      short (inr b) (inr w) l = let z = b.0 in let y = w.0 in omega arith

  pub rule_by-laws : IsSlotRule (rule_by holds)
  rule_by-laws = record {
    decided = laws.decided;
    fewer = laws.fewer;
    none = record { allowed = inl refl; room = elim (laws.decided 0 0) as (λ _. holds 0 0) [ inl room ↦ room | inr none ↦ absurd (let l = laws.half 0 0 none in omega arith) ]; least = λ m allowed room. omega arith };
    grown = λ slots more entries allowed is_full grows load. record {
      allowed = IsSlotCount-grown slots more allowed grows;
      room = load;
      least = λ m other room. grown-le slots more m allowed grows other (above slots m entries is_full room);
    };
  }
