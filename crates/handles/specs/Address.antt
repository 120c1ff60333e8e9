-- What the address of a handle leads to.
-- Cited by the models of `Slot` and of `Returned`.
use Rattle.std.specs.Prelude.{Option, Some, None}
use mir.Syntax.{Ty}
use base.Fml.{Fml, ftrue}
use denote.RattleType.{RattleType}
use denote.RawPtr.{Ptr}
use Rattle.std.specs.Box.Ownership.{box_owns}
use Rattle.handles.specs.contracts.handle.Handle as handle

-- a handle, as the logic knows its type
abbrev pub Behind : RattleType
Behind = handle.the_row

-- An address leads to a box with this value, or to nothing that is known.
abbrev pub leads : (Ty → Ptr → Fml) → (R : RattleType) → Ptr → Option R.Denot → Fml
leads frees R at (Some value) = box_owns frees R at value
leads frees R at None = ftrue
