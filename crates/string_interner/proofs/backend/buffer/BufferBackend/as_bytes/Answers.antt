use Rattle.std.proofs.Common.{length, ap, ◌∙◌}
use Rattle.string_interner.specs.Backend.{Contents}
use Rattle.string_interner.specs.BufferBackend.{place_of}
use Rattle.string_interner.specs.BufferLaws.{length-bytes_of}
use Rattle.string_interner.proofs.backend.buffer.BufferBackend.as_bytes.Goals as goal

pub returns-clause-len : goal.returns-clause-len
returns-clause-len g c = ap length (c.deref.ensures.value ∙ c.self.invariant.bytes_are) ∙ length-bytes_of _ ∙ ap (λ (b : Contents). place_of b.texts) c.self.view_is
