use Rattle.std.proofs.Common.{◌<◌, take}
use Rattle.std.specs.Prelude.{All}
use Rattle.dictcol.proofs.plain.excerpt.Excerpt.find_outside.Given as goal

-- the numbers so far are those of lines
abbrev pub invariant-loop-row : goal.invariant-loop-row
invariant-loop-row l = All (λ code. code < l.self.total) (take l.row l.self.codes.items)
