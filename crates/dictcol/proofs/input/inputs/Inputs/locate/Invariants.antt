use Rattle.std.proofs.Common.{◌≤◌, ◌-◌, All, drop}
use Rattle.dictcol.proofs.input.inputs.Inputs.locate.Given as goal

-- the later files begin behind the line
abbrev pub invariant-loop-later : goal.invariant-loop-later
invariant-loop-later l = All (λ begin. l.line ≤ begin.lines) (drop (l.count - l.later) l.self.begins.items)
