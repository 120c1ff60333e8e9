use Rattle.std.proofs.Common.{ap}
use Rattle.string_interner.specs.BufferBackend.{bytes_of}
use Rattle.string_interner.specs.BufferLaws.{digits-least_count}
use Rattle.string_interner.proofs.Lemmas.BufferBackend.Bytes.{bytes_of-apart, entry_of-apart}
use Rattle.string_interner.proofs.backend.buffer.spelling_law.Goals as goal

pub returns-clause-entries : goal.returns-clause-entries
returns-clause-entries c = λ t u x y e. (entry_of-apart t u x y e).0

pub returns-clause-bytes : goal.returns-clause-bytes
returns-clause-bytes c = λ l m. (bytes_of-apart l m, ap bytes_of)

pub returns-clause-lengths : goal.returns-clause-lengths
returns-clause-lengths c = digits-least_count
