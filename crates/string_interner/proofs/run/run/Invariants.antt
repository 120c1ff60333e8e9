use Rattle.std.proofs.Common.{◌≡◌, ◌≤◌, [], length, take, vec_len, vec_capacity}
use Rattle.string_interner.specs.Run.{KeepsUnlessNew, Run}
use Rattle.string_interner.proofs.run.run.Given as goal

-- The commands so far have had these replies, and there is room for all.
abbrev pub invariant-loop-command : goal.invariant-loop-command
invariant-loop-command g l = record {
  ran : Run g.B.Store.numbering l.fn.interner.texts [] (take l.command-index l.commands) l.replies.items l.interner.texts;
  count : vec_len l.replies ≡ l.command-index;
  room : length l.commands ≤ vec_capacity l.replies;
  quiet : KeepsUnlessNew l.fn.interner l.commands l.interner;
}
