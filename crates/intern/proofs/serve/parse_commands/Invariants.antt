use Rattle.std.proofs.Common.{◌≡◌, ◌≤◌, length, map, vec_len, vec_capacity}
use Rattle.std.specs.List.{AllWithin, AllZip}
use Rattle.intern.specs.Line.{States}
use Rattle.intern.specs.Lines.{IsStated, lines_of}
use Rattle.intern.proofs.serve.parse_commands.Given as goal

-- the commands so far are what the lines so far state, none of which is bad, and there is room for all
abbrev pub invariant-loop-line : goal.invariant-loop-line
invariant-loop-line l = record {
  stated : AllZip States l.commands.items (map (λ x. x.now) l.yielded);
  count : vec_len l.commands ≡ length l.yielded;
  room : length (lines_of l.text) ≤ vec_capacity l.commands;
  good : AllWithin IsStated (lines_of l.text) 0 (length l.yielded);
}
