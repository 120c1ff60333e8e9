use Rattle.std.proofs.Common.{◌≡◌, ◌≤◌, ◌+◌, ◌*◌, ◌++◌, length, take}
use Rattle.json.specs.Print.{escape}
use Rattle.dictcol.proofs.json_form.format.put_escaped.Given as goal

-- what stands for the bytes so far was appended
abbrev pub invariant-loop-byte : goal.invariant-loop-byte
invariant-loop-byte l = record {
  so_far : l.block ≡ l.fn.block ++ escape (take l.byte-index l.bytes);
  few : length l.block ≤ length l.fn.block + 6 * l.byte-index;
}
