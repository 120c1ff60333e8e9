-- Interning a part of a text that is there.
-- Cited by `StringInterner::get_or_intern_part`.
use Rattle.std.specs.Prelude.{◌≡◌, ℕ, ◌⊎◌, List, length, Option, Some, None, MatchOption, Result, Ok, Err}
use Rattle.std.specs.Borrow.{Bor}
use Rattle.std.specs.Option.{unwrap_or}
use Rattle.std.specs.Str.Pattern.{GetsRange}
use Rattle.string_interner.specs.Text.{Text, first}
use Rattle.string_interner.specs.Numbering.{Numbering}
use Rattle.string_interner.specs.Interner.{InternerContents, InternsInto}
use Rattle.string_interner.specs.Extend.{IsMemory}
use Rattle.string_interner.specs.SlotRule.{SlotRule}
use Rattle.string_interner.specs.declared.backend.InternError.{InternError}

module _ {S : Type 0} (numbering : Numbering S) where
  -- what `str::get` gives of the text at the symbol, from byte `start` to before byte `end`, or to its end
  abbrev pub GetsPart : List Text → S → ℕ → Option ℕ → Option (Bor Text) → Type 0
  GetsPart texts symbol start end part = MatchOption (numbering.read texts (numbering.number symbol)) (part ≡ None) (λ text. GetsRange text start (unwrap_or end (length text)) part)

  module _ (rule : SlotRule) (old : InternerContents) where
    -- a part is interned as a text is, or memory is refused for the copy of a new one
    abbrev pub InternsCopy : Text → Result (Option S) InternError → InternerContents → Type 0
    InternsCopy part (Ok None) new = ⊥
    InternsCopy part (Ok (Some symbol)) new = InternsInto numbering rule old part (Ok symbol) new
    InternsCopy part (Err error) new = ((first old.texts part ≡ None) × IsMemory error × (new ≡ old)) ⊎ InternsInto numbering rule old part (Err error) new

    -- If there is such a part, it is interned; if not, nothing changes.
    abbrev pub InternsPart : S → ℕ → Option ℕ → Result (Option S) InternError → InternerContents → Type 0
    InternsPart symbol start end outcome new = (part : Option (Bor Text)) × GetsPart old.texts symbol start end part
        × MatchOption part ((outcome ≡ Ok None) × (new ≡ old)) (λ it. InternsCopy it.now outcome new)
