-- The laws of symbols, said of the numbering that has them.
use Rattle.std.proofs.Common.{◌≡◌, ℕ, ◌<◌, Bool, Option, Some}
use Rattle.std.specs.Prelude.{◌^◌, ◌↔◌, IsTrue}
use Rattle.string_interner.specs.Numbering.{Numbering}

module _ {S : Type 0} {symbol_of : ℕ → Option S} {number : S → ℕ} (numbering : Numbering S)
    (same : (numbering.symbol_of ≡ symbol_of) × (numbering.number ≡ number)) where
  -- a symbol with a number has that number
  pub numbered : ((i : ℕ) (s : S) → symbol_of i ≡ Some s → (number s ≡ i) × (i < 2 ^ 64))
      → (i : ℕ) (s : S) → numbering.symbol_of i ≡ Some s → (numbering.number s ≡ i) × (i < 2 ^ 64)
  numbered law = rw (same.0, same.1) law

  -- symbols with one number are one
  pub injective : ((a b : S) → number a ≡ number b → a ≡ b) → (a b : S) → numbering.number a ≡ numbering.number b → a ≡ b
  injective law = rw same.1 law

  -- equal symbols are those with one number
  pub by_number : (eq : S → S → Bool) → ((a b : S) → IsTrue (eq a b) ↔ (number a ≡ number b)) → (a b : S) → IsTrue (eq a b) ↔ (numbering.number a ≡ numbering.number b)
  by_number eq law = rw same.1 law
