-- Slots of one word each: 32 bits of a code, and below them the number of a symbol plus one.
-- Cited by `WordSlots`, and by what reads words while others write them.
use Rattle.std.specs.Prelude.{ℕ, zero, suc, ◌/◌, ◌%◌, ◌^◌, List, map, Option, Some, None}
use Rattle.string_interner.specs.LoadFactor.{IsWithinThreeQuarters}
use Rattle.string_interner.specs.Layout.{SlotLayout}
use Rattle.string_interner.specs.Tagged.{FitsTagged, TaggedContents, code_at, stored_code, symbols_in}
use Rattle.string_interner.specs.declared.dedup.tagged.CodedSymbol.{CodedSymbol}

module _ {S : Type 0} (symbol_of : ℕ → Option S) where
  -- the symbol that the low 32 bits of a word name: that of the number one less, and none for 0
  abbrev pub symbol_named : ℕ → Option S
  symbol_named zero = None
  symbol_named (suc number) = symbol_of number

  -- a symbol and a code
  abbrev pub with_code : ℕ → Option S → Option (CodedSymbol S)
  with_code code None = None
  with_code code (Some symbol) = Some (record { symbol = symbol; code = code })

  -- what is in a slot with this word
  abbrev pub slot_of : ℕ → Option (CodedSymbol S)
  slot_of word = with_code (word / 2 ^ 32) (symbol_named (word % 2 ^ 32))

  -- the slots of a list of words, whatever they are
  abbrev pub slots_of : List ℕ → TaggedContents S
  slots_of words = map slot_of words

-- symbols with their codes, at most three quarters of the slots
abbrev pub word_layout : {S : Type 0} → SlotLayout S (TaggedContents S)
word_layout = record {
  slots = symbols_in;
  stored = code_at;
  stores = stored_code;
  holds = IsWithinThreeQuarters;
  fits = λ entry code x. FitsTagged entry code x;
}
