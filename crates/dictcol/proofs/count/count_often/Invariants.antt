use Rattle.std.proofs.Common.{◌≡◌, take}
use Rattle.std.specs.Prelude.{nat_le}
use Rattle.std.specs.List.{count_by}
use Rattle.dictcol.proofs.count.count_often.Given as goal

-- those so far were counted
abbrev pub invariant-loop-count : goal.invariant-loop-count
invariant-loop-count l = l.often ≡ count_by (nat_le l.at_least) (take l.count-index l.counts)
