use Rattle.std.proofs.Common.{◌≡◌, None, map, take}
use Rattle.std.specs.Prelude.{slice_index_or}
use Rattle.dictcol.proofs.plain.find.Sought.list_numbers.Given as goal

-- the numbers of the texts so far are listed
abbrev pub invariant-loop-code : goal.invariant-loop-code
invariant-loop-code g l = l.numbers.items ≡ map (λ code. slice_index_or l.self.numbers.items code None) (take l.code-index l.self.codes.items)
