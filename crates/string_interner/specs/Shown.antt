-- What a thread may see of the words of a table while another one adds to it.
-- Cited by the functions of `dedup::shown`. Below, `text_of` gives the text of a number, if it has one, and `is_sure` says whether a
-- reader is sure that the number has it by now.
use Rattle.std.specs.Prelude.{ℕ, ◌-◌, ◌^◌, List, length, Contains, Option, Some}
use Rattle.string_interner.specs.Text.{Text}
use Rattle.string_interner.specs.Symbol.{number_below}
use Rattle.string_interner.specs.LoadFactor.{IsWithinThreeQuarters}
use Rattle.string_interner.specs.Layout.{FitsCode}
use Rattle.string_interner.specs.Slots.{symbols}
use Rattle.string_interner.specs.Tagged.{TaggedContents, symbols_in}
use Rattle.string_interner.specs.Words.{slots_of, word_layout}

-- the slots of words whose symbols are the numbers below 2^32 - 1
abbrev pub number_slots : List ℕ → TaggedContents ℕ
number_slots words = slots_of (number_below (2 ^ 32 - 1)) words

-- the number in each slot, if any
abbrev pub numbers_in : List ℕ → List (Option ℕ)
numbers_in words = symbols_in (number_slots words)

-- These are the words of a table, under a hasher that gives this text this code.
pub record IsShown (text_of : ℕ → Option Text) (words : List ℕ) (code : ℕ) (text : Text) : Type 0 where
  pub fits : FitsCode word_layout text_of (number_slots words) code text
  pub load : IsWithinThreeQuarters (length (numbers_in words)) (length (symbols (numbers_in words)))

-- a reader is sure of the text of each number in the words
abbrev pub AreSure : (ℕ → Type 0) → List ℕ → Type 0
AreSure is_sure words = (number : ℕ) → Contains (numbers_in words) (Some number) → is_sure number
