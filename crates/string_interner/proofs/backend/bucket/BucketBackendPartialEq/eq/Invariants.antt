use Rattle.std.proofs.Common.{◌≡◌, take}
use Rattle.string_interner.proofs.backend.bucket.BucketBackendPartialEq.eq.Given as goal

-- the texts so far are the same
abbrev pub invariant-loop-i : goal.invariant-loop-i
invariant-loop-i g l = take l.i l.self.texts ≡ take l.i l.other.texts
