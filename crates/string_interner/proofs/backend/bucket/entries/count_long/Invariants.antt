use Rattle.std.proofs.Common.{◌≡◌, ◌≤◌, take}
use Rattle.string_interner.specs.BucketEntries.{long_count}
use Rattle.string_interner.proofs.backend.bucket.entries.count_long.Given as goal

-- how many long ones there are so far
abbrev pub invariant-loop-entry : goal.invariant-loop-entry
invariant-loop-entry l = (l.count ≡ long_count (take l.entry-index l.packed)) × (l.count ≤ l.entry-index)
