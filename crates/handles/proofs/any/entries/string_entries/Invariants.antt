use Rattle.std.proofs.Common.{◌≡◌, ◌+◌, length, take, drop}
use Rattle.string_interner.specs.StringBackend.{start_at}
use Rattle.handles.specs.Any.{any_of}
use Rattle.handles.specs.Entries.{AreRead, IsCursor, ListsPiece}
use Rattle.handles.specs.declared.kind.Kind.TheVariants.{String}
use Rattle.handles.proofs.any.entries.string_entries.Given as goal

-- the entries so far are listed, the next text begins at `start`, and a cursor that is moved so far is behind them, if it was one
abbrev pub invariant-loop-index : goal.invariant-loop-index
invariant-loop-index l = record {
  room : length l.room ≡ length l.fn.room;
  rest : drop l.index l.room ≡ drop l.index l.fn.room;
  start : l.start ≡ start_at l.narrow (l.place + l.index);
  read : AreRead (any_of String l.interner) (take l.index l.room);
  piece : IsCursor (any_of String l.interner) l.fn.cursor
      → ListsPiece (any_of String l.interner) l.fn.cursor l.index l.room (record { index = l.fn.cursor.index + l.index; place = l.place + l.index });
}
