-- Interning a part of a text that is there.
-- Cited by `AnyInterner::get_or_intern_part`, and by its export.
use Rattle.std.specs.Prelude.{◌≡◌, ℕ, ◌≤◌, ◌⊎◌, List, length, slice_range, Some, None, Result, Err}
use Rattle.string_interner.specs.Text.{Text}
use Rattle.handles.specs.Any.{text_at}
use Rattle.handles.specs.Calls.{InternsBytes}
use Rattle.handles.specs.declared.any.AnyInterner.{AnyInterner}
use Rattle.handles.specs.declared.status.Status.{Status}
use Rattle.handles.specs.declared.status.Status.TheVariants.{NoMemory, Nothing, BadEnds}

-- a text is read at the symbol, and these are the bytes between two places in it
abbrev pub HasPart : ℕ → ℕ → ℕ → AnyInterner → List ℕ → Type 0
HasPart symbol from to any part = (text : Text) × (text_at any symbol ≡ Some text) × (from ≤ to) × (to ≤ length text) × (part ≡ slice_range text from to)

-- A part is interned as its bytes are; or no text is read at the symbol, or these are no places in it, or memory is refused
-- for the copy of the part, and nothing changes.
abbrev pub InternsPart : ℕ → ℕ → ℕ → AnyInterner → Result ℕ Status → AnyInterner → Type 0
InternsPart symbol from to old (Err Nothing) new = (text_at old symbol ≡ None) × (new ≡ old)
InternsPart symbol from to old (Err BadEnds) new = (text : Text) × (text_at old symbol ≡ Some text) × ¬ ((from ≤ to) × (to ≤ length text)) × (new ≡ old)
InternsPart symbol from to old (Err NoMemory) new = (part : List ℕ) × HasPart symbol from to old part × ((new ≡ old) ⊎ InternsBytes part old (Err NoMemory) new)
InternsPart symbol from to old outcome new = (part : List ℕ) × HasPart symbol from to old part × InternsBytes part old outcome new
