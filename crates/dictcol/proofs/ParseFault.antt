-- The faults of reading a text as a file.
use Rattle.std.proofs.Common.{inl, inr}
use Rattle.std.specs.Prelude.{◌⊎◌}
use Rattle.dictcol.specs.declared.fault.Fault.{Fault}
use Rattle.dictcol.specs.Fault.{IsTakeFault}
use Rattle.dictcol.proofs.TooMany.{take-weaker}

-- the reasons have others behind them
pub parse-weaker : {Crowded Crowded' Damaged Damaged' : Type 0} (fault : Fault) → (Crowded → Crowded') → (Damaged → Damaged') → IsTakeFault Crowded fault ⊎ Damaged → IsTakeFault Crowded' fault ⊎ Damaged'
parse-weaker fault crowded damaged (inl taking) = inl (take-weaker fault crowded taking)
parse-weaker fault crowded damaged (inr damage) = inr (damaged damage)
