-- The text of the entry that has a symbol.
-- Cited by `Table` and its layouts, which ask a backend for the texts of symbols.
use Rattle.std.specs.Prelude.{ℕ, List, [], ◌∷◌, ◌++◌, Option, Some, None, if◌then◌else◌, ◌==◌}
use Rattle.string_interner.specs.Text.{Text}
use Rattle.string_interner.specs.Numbering.{Numbering}

-- The text whose entry begins at the place `at`, among those ahead, which come after those behind.
abbrev pub text_ahead : (List Text → ℕ) → List Text → List Text → ℕ → Option Text
text_ahead place behind [] at = None
text_ahead place behind (text ∷ ahead) at =
    if place behind == at then Some text else text_ahead place (behind ++ text ∷ []) ahead at

-- the text of the entry that begins at the symbol's number, if one does
abbrev pub entry_text : {S : Type 0} → Numbering S → List Text → S → Option Text
entry_text numbering texts symbol = text_ahead numbering.place [] texts (numbering.number symbol)
