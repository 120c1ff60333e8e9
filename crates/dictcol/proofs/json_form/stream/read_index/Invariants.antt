use Rattle.std.proofs.Common.{◌≡◌, take}
use Rattle.std.specs.Str.Parse.{AllDigits, digits_value}
use Rattle.dictcol.proofs.json_form.stream.read_index.Given as goal

-- the bytes so far are digits, and the index is what they write
abbrev pub invariant-loop-byte : goal.invariant-loop-byte
invariant-loop-byte l = record {
  digits : AllDigits 10 (take l.byte-index l.bytes);
  value : l.index ≡ digits_value 10 (take l.byte-index l.bytes);
}
