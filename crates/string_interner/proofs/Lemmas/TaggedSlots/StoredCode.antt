-- Where a stored code leads.
use Rattle.std.proofs.Common.{◌≡◌, ℕ, suc, ◌+◌, ◌-◌, ◌*◌, ◌/◌, ◌%◌, ◌^◌, ◌<◌, ◌≤◌, sym, ap, subst, ◌∙◌, inl, inr, arith}
use Rattle.std.proofs.lemmas.Bool.{cases_lt}
use Rattle.std.proofs.lemmas.Nat.{mod-pow-add, mod-mul-add, pow_pos}
use Rattle.std.proofs.Math.Nat.{mod-eq_of_lt, pow-succ'}
use Rattle.std.proofs.Math.Pow.{pow_mono}
use Rattle.string_interner.specs.LoadFactor.{IsSlotCount}
use Rattle.string_interner.specs.Tagged.{stored_code}

-- among at most 2 ^ 32 slots it leads to the home of its code
pub stored_code-home : (n count : ℕ) → 0 < count → IsSlotCount count → count ≤ 2 ^ 32 → stored_code n % count ≡ n % count
stored_code-home n count some (inl z) le = absurd (omega arith)
stored_code-home n count some (inr e) le =
    let a : 2 ^ suc e.0 ≡ 2 * 2 ^ e.0 = pow-succ' 2 e.0 in let b : 2 ^ suc (suc e.0) ≡ 2 * 2 ^ suc e.0 = pow-succ' 2 (suc e.0) in
    let d : 2 ^ suc (suc (suc e.0)) ≡ 2 * 2 ^ suc (suc e.0) = pow-succ' 2 (suc (suc e.0)) in
    let f = e.1 in let p : count ≡ 2 ^ suc (suc (suc e.0)) = omega arith in
    let m : suc (suc (suc e.0)) ≤ 32 = elim (cases_lt 32 (suc (suc (suc e.0)))) as (λ _. suc (suc (suc e.0)) ≤ 32) [
      | inl h ↦ absurd (let g : 2 ^ 33 ≤ 2 ^ suc (suc (suc e.0)) = pow_mono {i = 33} h in omega arith)
      | inr h ↦ h
    ] in
    by_power (suc (suc (suc e.0))) (32 - suc (suc (suc e.0))) (omega arith) p
  where
    by_power : (k j : ℕ) → j + k ≡ 32 → count ≡ 2 ^ k → stored_code n % count ≡ n % count
    by_power k j e p =
        let small : n % 2 ^ k < 2 ^ k = (let h = pow_pos k in omega arith) in
        let whole : n % 2 ^ 32 ≡ (n / 2 ^ k % 2 ^ j) * 2 ^ k + n % 2 ^ k = subst (λ (m : ℕ). n % 2 ^ m ≡ (n / 2 ^ k % 2 ^ j) * 2 ^ k + n % 2 ^ k) e (mod-pow-add n j k) in
        subst (λ (c : ℕ). n % 2 ^ 32 % c ≡ n % c) (sym p) (ap (λ x. x % 2 ^ k) whole ∙ mod-mul-add (n / 2 ^ k % 2 ^ j) (2 ^ k) (n % 2 ^ k) small)

-- what is stored of it is itself
pub stored_code-again : (n : ℕ) → stored_code (stored_code n) ≡ stored_code n
stored_code-again n = mod-eq_of_lt (omega arith)
