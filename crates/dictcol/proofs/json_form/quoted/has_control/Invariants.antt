use Rattle.std.proofs.Common.{◌≡◌, nat_lt, take}
use Rattle.std.specs.List.{list_any}
use Rattle.dictcol.proofs.json_form.quoted.has_control.Given as goal

-- the least is below a space if a byte so far is
abbrev pub invariant-loop-byte : goal.invariant-loop-byte
invariant-loop-byte l = nat_lt l.least 32 ≡ list_any (λ byte. nat_lt byte 32) (take l.byte-index l.bytes)
