-- The exit status of each fault, and which faults a step returns. `Fault::status` and the steps of `serve` cite it.
use Rattle.std.specs.Prelude.{◌≡◌, ℕ, ◌⊎◌, List, All}
use Rattle.intern.specs.Lines.{IsFirstBadLine, IsStated}
use Rattle.intern.specs.declared.fault.Fault.{Fault}
use Rattle.intern.specs.declared.fault.Fault.TheVariants.{Usage, Input, BadLine, Memory, Output}

-- 2 if the arguments or lines are wrong, 1 if the system failed
abbrev pub status_of : Fault → ℕ
status_of Usage = 2
status_of Input = 1
status_of (BadLine _) = 2
status_of Memory = 1
status_of Output = 1

-- the faults of reading the input
abbrev pub IsReadFault : Fault → Type 0
IsReadFault fault = (fault ≡ Input) ⊎ (fault ≡ Memory)

-- the faults of parsing the lines: the first bad line, and `Memory` only if no line is bad
abbrev pub IsLineFault : List (List ℕ) → Fault → Type 0
IsLineFault lines (BadLine n) = IsFirstBadLine lines n
IsLineFault lines Memory = All IsStated lines
IsLineFault lines _ = ⊥
