use Rattle.std.proofs.Common.{◌≡◌, ◌+◌, length, take, drop}
use Rattle.handles.specs.Any.{any_of}
use Rattle.handles.specs.Entries.{AreRead, IsCursor, ListsPiece}
use Rattle.handles.proofs.any.entries.entries_in.Given as goal

-- the entries so far are listed, and the cursor is behind them, if it was a cursor
abbrev pub invariant-loop-index : goal.invariant-loop-index
invariant-loop-index g l = record {
  room : length l.room ≡ length l.fn.room;
  rest : drop l.index l.room ≡ drop l.index l.fn.room;
  cursor : l.cursor.index ≡ l.fn.cursor.index + l.index;
  read : AreRead (any_of l.kind l.interner) (take l.index l.room);
  piece : IsCursor (any_of l.kind l.interner) l.fn.cursor → ListsPiece (any_of l.kind l.interner) l.fn.cursor l.index l.room l.cursor;
}
