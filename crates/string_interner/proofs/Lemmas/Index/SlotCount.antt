-- The arithmetic of slot counts.
use Rattle.std.proofs.Common.{◌≡◌, ℕ, suc, ◌-◌, ◌*◌, ◌^◌, ◌<◌, ◌%◌, bit_and, inl, inr, arith}
use Rattle.std.proofs.Math.Nat.{pow-succ'}
use Rattle.std.proofs.lemmas.Nat.{and_mask}
use Rattle.string_interner.specs.LoadFactor.{GrowsTo, IsSlotCount}

pub masked : (n count : ℕ) → 0 < count → IsSlotCount count → bit_and n (count - 1) ≡ n % count
masked n count h (inl e) = absurd (omega arith)
masked n count h (inr e) =
    let a : 2 ^ suc e.0 ≡ 2 * 2 ^ e.0 = pow-succ' 2 e.0 in let b : 2 ^ suc (suc e.0) ≡ 2 * 2 ^ suc e.0 = pow-succ' 2 (suc e.0) in
    let d : 2 ^ suc (suc (suc e.0)) ≡ 2 * 2 ^ suc (suc e.0) = pow-succ' 2 (suc (suc e.0)) in
    let f = e.1 in let p : count ≡ 2 ^ suc (suc (suc e.0)) = omega arith in
    rw p (and_mask n (suc (suc (suc e.0))))

-- a count of slots grows to more
pub GrowsTo-more : (count more : ℕ) → GrowsTo count more → count < more
GrowsTo-more count more (inl a) = let x = a.0 in let y = a.1 in omega arith
GrowsTo-more count more (inr a) = let x = a.0 in let y = a.1 in omega arith
