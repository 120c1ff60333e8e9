use Rattle.std.proofs.Common.{◌≡◌, take}
use Rattle.string_interner.proofs.number_list.NumberList.is_equal_by_index.Given as goal

-- the numbers so far are the same
abbrev pub invariant-loop-i : goal.invariant-loop-i
invariant-loop-i l = take l.i l.self.items ≡ take l.i l.other.items
