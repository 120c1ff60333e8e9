use Rattle.std.proofs.Common.{length, ap, sym, ◌∙◌}
use Rattle.string_interner.specs.Backend.{Contents}
use Rattle.string_interner.proofs.Lemmas.BufferBackend.Bytes.{length-front_texts}
use Rattle.string_interner.proofs.backend.buffer.BufferBackendBackend.count.Goals as goal

pub returns-clause-value : goal.returns-clause-value
returns-clause-value g c = sym (length-front_texts c.self.inside.count c.self.inside.bytes.items) ∙ ap (λ (b : Contents). length b.texts) c.self.view_is
