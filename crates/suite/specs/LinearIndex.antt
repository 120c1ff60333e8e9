-- An index that is a list of symbols, searched from its front.
-- Cited by the index type `LinearIndex` of the scenarios; no contract of the library speaks of it.
use Rattle.std.specs.Prelude.{◌≡◌, ℕ, ◌+◌, ◌≤◌, List, Contains, Option, Some, IsSome, ⊤}
use Rattle.std.proofs.Common.{◌⊎◌, inl, inr, arith}
use Rattle.std.proofs.lemmas.Bool.{cases_lt}
use Rattle.string_interner.specs.Text.{Text}
use Rattle.string_interner.specs.SlotRule.{SlotRule, IsSlotRule, IsLeastSlotCount}

-- what contracts see of it: the symbols, and how many of them there is room for
pub record LinearContents (S : Type 0) : Type 0 where
  pub symbols : List S
  pub slots : ℕ

-- Each entry has its symbol in the list, and each symbol is an entry's. Below, `entry` gives the text of the entry that
-- has a symbol, if one has.
pub record IsListed {S : Type 0} (entry : S → Option Text) (symbols : List S) : Type 0 where
  pub whole : (symbol : S) (text : Text) → entry symbol ≡ Some text → Contains symbols symbol
  pub entries : (symbol : S) → Contains symbols symbol → IsSome (entry symbol)

-- any count of slots, all of which may be filled, and one more where there is no room
abbrev pub one_by_one : SlotRule
one_by_one = record { allowed = λ _. ⊤; holds = λ slots entries. entries ≤ slots; grows_to = λ slots more. more ≡ slots + 1 }

pub one_by_one-laws : IsSlotRule one_by_one
one_by_one-laws = record {
  decided = λ slots entries. elim (cases_lt slots entries) as (λ _. (entries ≤ slots) ⊎ ¬ (entries ≤ slots)) [
    | inl less ↦ inr (λ room. omega arith)
    | inr room ↦ inl room
  ];
  fewer = λ slots entries fewer room less. omega arith;
  none = record { allowed = tt; room = omega arith; least = λ m allowed room. omega arith };
  grown = λ slots more entries allowed is_full grows load. elim (cases_lt slots entries) as (λ _. IsLeastSlotCount one_by_one entries more) [
    | inl less ↦ record { allowed = tt; room = load; least = λ m other room. omega arith }
    | inr room ↦ absurd (is_full room)
  ];
}
