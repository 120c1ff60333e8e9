use Rattle.std.proofs.Common.{◌≡◌, take}
use Rattle.string_interner.specs.BufferBackend.{place_of}
use Rattle.string_interner.proofs.backend.buffer.BufferBackend.place_at.Given as goal

-- the entries so far were walked over
abbrev pub invariant-loop-entry : goal.invariant-loop-entry
invariant-loop-entry g l = l.at ≡ place_of (take l._entry l.self.texts)
