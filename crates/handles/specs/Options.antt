-- What the options that an interner is made with choose.
-- Cited by `Options`, by the calls that make a handle, and by their exports.
use Rattle.std.specs.Prelude.{◌≡◌, Option, Some, None, Result, Err, ◌⊎◌}
use Rattle.string_interner.specs.Text.{Text}
use Rattle.handles.specs.Hasher.{HasHasherCode, chosen_code, code_by}
use Rattle.handles.specs.declared.any.AnyInterner.{AnyInterner}
use Rattle.handles.specs.declared.hasher.ChosenHasher.{ChosenHasher}
use Rattle.handles.specs.declared.hasher.HasherKind.{HasherKind}
use Rattle.handles.specs.declared.options.Options.{Options}
use Rattle.handles.specs.declared.status.Status.{Status}
use Rattle.handles.specs.declared.status.Status.TheVariants.{BadHasher}

-- Options choose a hasher by its code and give it their keys, or no hasher has the code.
abbrev pub ChoosesHasher : Options → Option ChosenHasher → Type 0
ChoosesHasher options (Some hasher) = (kind : HasherKind) × HasHasherCode options.hasher (Some kind)
    × ((text : Text) → chosen_code hasher text ≡ code_by kind options.key0 options.key1 text)
ChoosesHasher options None = HasHasherCode options.hasher None

-- An interner is made with options: no hasher has their code, or one has it and what is made is as this says. Contracts see no
-- hasher of an interner, so this does not say that the interner has the one that the options choose.
abbrev pub MakesBy : Options → (Result AnyInterner Status → Type 0) → Result AnyInterner Status → Type 0
MakesBy options making made = (HasHasherCode options.hasher None × (made ≡ Err BadHasher))
    ⊎ ((kind : HasherKind) × HasHasherCode options.hasher (Some kind) × making made)
