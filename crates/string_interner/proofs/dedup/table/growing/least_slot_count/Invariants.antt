use Rattle.std.proofs.Common.{ℕ, ◌≡◌, ◌<◌, ◌≤◌, ◌*◌, ◌-◌, ◌^◌}
use Rattle.string_interner.specs.LoadFactor.{IsSlotCount}
use Rattle.string_interner.proofs.dedup.table.growing.least_slot_count.Given as goal

abbrev pub invariant-loop-count : goal.invariant-loop-count
invariant-loop-count g l = record {
  some : 0 < l.capacity;
  small : l.count < 2 ^ 64;
  allowed : (k : ℕ) × (l.count ≡ 8 * 2 ^ k);
  least : (m : ℕ) → IsSlotCount m → g.L.Layout.layout.holds m l.capacity → l.count ≤ m;
}

abbrev pub decreases-loop-count : goal.decreases-loop-count
decreases-loop-count g l = 2 * l.capacity - l.count
