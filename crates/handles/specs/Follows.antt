-- What a handle holds once what it lent comes back.
-- Cited by `Handle::interner` and `Handle::read`.
use Rattle.std.specs.Prelude.{◌≡◌, ⊤}
use mathlib.Core.Option.{none}
use base.Fml.{Fml}
use denote.Ref.{MutBor}
use denote.Follow.{follows, follows_so}
use Rattle.handles.specs.Owns.{Inner}
use Rattle.handles.specs.declared.any.AnyInterner.{AnyInterner}
use Rattle.handles.specs.declared.handle.Handle.{Handle}
use Rattle.handles.specs.contracts.handle.Handle.{the_row as handle-row}

-- a handle after its interner was written
abbrev pub with_value : Handle → AnyInterner → Handle
with_value h value = record { at = h.at; alloc = h.alloc; value = value }

-- once the borrow of the interner ends, the handle holds the last value that was written through it
abbrev pub handle_follows : MutBor Handle → MutBor AnyInterner → Fml
handle_follows handle interner = follows handle-row Inner handle.ghost_name interner.ghost_name (with_value handle.now)

-- once the borrow of what was lent ends, the handle holds what it held
abbrev pub IsKept : MutBor Handle → Fml
IsKept handle = follows_so handle-row handle-row handle.ghost_name none (λ _ _. ⊤) (λ last. last.value ≡ handle.now.value)
