use Rattle.json.specs.Written.{PlainBetween}
use Rattle.dictcol.proofs.json_form.escapes.is_plain_alone.Given as goal

-- the bytes so far are plain
abbrev pub invariant-loop-byte : goal.invariant-loop-byte
invariant-loop-byte l = PlainBetween l.bytes 0 l.byte-index
