use Rattle.std.proofs.Common.{inl, inr, refl, arith}
use Rattle.string_interner.proofs.dedup.probe.slot_after.Goals as goal

pub returns-then-at-count : goal.returns-then-at-count
returns-then-at-count c = record { within = omega arith; one_on = inl refl }

pub returns-else-at-count : goal.returns-else-at-count
returns-else-at-count c = record { within = omega arith; one_on = inr (refl, omega arith) }
