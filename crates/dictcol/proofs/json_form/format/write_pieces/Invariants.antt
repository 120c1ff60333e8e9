use Rattle.std.proofs.Common.{◌≡◌, ◌≤◌, ◌+◌, ◌^◌, ◌++◌, List, ℕ, length}
use Rattle.json.specs.Print.{escape}
use Rattle.dictcol.specs.Writes.{Puts}
use Rattle.dictcol.proofs.json_form.format.write_pieces.Given as goal

-- what stands for the bytes before the rest was appended
abbrev pub invariant-loop-rest : goal.invariant-loop-rest
invariant-loop-rest g l = record {
  so_far : (front : List ℕ) × (l.fn.bytes ≡ front ++ l.rest) × Puts (g.W.Write.contents l.fn.output) l.fn.block (g.W.Write.contents l.output) l.block (escape front);
  room : length l.block ≤ 2 ^ 16 + 64;
}

abbrev pub decreases-loop-rest : goal.decreases-loop-rest
decreases-loop-rest g l = length l.rest
