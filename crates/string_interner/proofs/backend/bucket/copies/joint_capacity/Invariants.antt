use Rattle.std.proofs.Common.{◌≡◌, ◌+◌, ◌<◌, ◌^◌, take}
use Rattle.string_interner.specs.BucketBackend.{byte_count}
use Rattle.string_interner.proofs.backend.bucket.copies.joint_capacity.Given as goal

-- the sum so far, which fits
abbrev pub invariant-loop-bucket : goal.invariant-loop-bucket
invariant-loop-bucket l = (l.capacity ≡ l.head.capacity + byte_count (take l.bucket-index l.full)) × (l.capacity < 2 ^ 64)
