-- Calls on an interner of one kind.
-- Cited by `resolve_in_string`, `get_in_string`, `intern_in_string` and those of the other kinds, and by their exports.
use Rattle.std.specs.Prelude.{◌≡◌, ◌⊎◌, ℕ, Result, Err}
use Rattle.string_interner.specs.Text.{Text}
use Rattle.handles.specs.Any.{kind_of}
use Rattle.handles.specs.Calls.{FindsText, InternsText, ResolvesSymbol}
use Rattle.handles.specs.declared.any.AnyInterner.{AnyInterner}
use Rattle.handles.specs.declared.kind.Kind.{Kind}
use Rattle.handles.specs.declared.text.Text.{Text as LentText}
use Rattle.handles.specs.declared.status.Status.{Status}
use Rattle.handles.specs.declared.status.Status.TheVariants.{BadKind}

-- An interner of this kind is asked; or it has another kind, which is told.
abbrev pub AsksKind : {T : Type 0} → Kind → (AnyInterner → Result T Status → Type 0) → AnyInterner → Result T Status → Type 0
AsksKind kind asks any outcome = ((kind_of any ≡ kind) × asks any outcome) ⊎ (¬ (kind_of any ≡ kind) × (outcome ≡ Err BadKind))

-- A symbol is resolved by an interner of this kind.
abbrev pub ResolvesIn : Kind → ℕ → AnyInterner → Result LentText Status → Type 0
ResolvesIn kind symbol = AsksKind kind (ResolvesSymbol symbol)

-- A text is looked for in an interner of this kind.
abbrev pub FindsIn : Kind → Text → AnyInterner → Result ℕ Status → Type 0
FindsIn kind text = AsksKind kind (FindsText text)

-- A text is interned by an interner of this kind; or it has another kind, which is told, and stays as it is.
abbrev pub InternsIn : Kind → Text → AnyInterner → Result ℕ Status → AnyInterner → Type 0
InternsIn kind text old outcome new = ((kind_of old ≡ kind) × InternsText text old outcome new) ⊎ (¬ (kind_of old ≡ kind) × (outcome ≡ Err BadKind) × (new ≡ old))
