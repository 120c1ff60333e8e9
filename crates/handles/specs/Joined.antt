-- The texts of an interner of the kind `String`, as it stores them.
-- Cited by `AnyInterner::joined`, and by its export.
use Rattle.std.specs.Prelude.{◌++◌, Result, Ok, Err}
use Rattle.string_interner.specs.StringBackend.{IsCut}
use Rattle.handles.specs.Any.{texts_in}
use Rattle.handles.specs.OneKind.{AsksKind}
use Rattle.handles.specs.declared.any.AnyInterner.{AnyInterner}
use Rattle.handles.specs.declared.kind.Kind.TheVariants as kind
use Rattle.handles.specs.declared.status.Status.{Status}
use Rattle.handles.specs.declared.text.Joined.{Joined}

-- The bytes are all texts, one after another, and the ends are theirs: first those of four bytes, and then those of eight.
abbrev pub LendsJoined : AnyInterner → Result Joined Status → Type 0
LendsJoined any (Ok lent) = IsCut lent.bytes.now (lent.ends.now ++ lent.long_ends.now) (texts_in any)
LendsJoined any (Err _) = ⊥

-- They are lent by an interner of the kind `String`; or it has another kind, which is told.
abbrev pub LendsJoinedIn : AnyInterner → Result Joined Status → Type 0
LendsJoinedIn = AsksKind kind.String LendsJoined
