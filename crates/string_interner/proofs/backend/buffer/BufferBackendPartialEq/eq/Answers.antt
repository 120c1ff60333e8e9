use Rattle.string_interner.proofs.Lemmas.Texts.Equal.{texts_eq-Decides}
use Rattle.string_interner.proofs.Lemmas.BufferBackend.Bytes.{bytes_of-eq}
use Rattle.string_interner.proofs.backend.buffer.BufferBackendPartialEq.eq.Goals as goal

pub returns-clause-value : goal.returns-clause-value
returns-clause-value g c = rw (c.eq.ensures, c.as_bytes.ensures.spelled, c.as_bytes-2.ensures.spelled) (bytes_of-eq c.args.self.now.texts c.args.other.now.texts)

pub returns-clause-lists : goal.returns-clause-lists
returns-clause-lists g c = rw (returns-clause-value g c) (texts_eq-Decides c.args.self.now.texts c.args.other.now.texts)
