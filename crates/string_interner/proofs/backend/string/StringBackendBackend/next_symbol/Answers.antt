use Rattle.std.proofs.Common.{arith}
use Rattle.string_interner.proofs.Lemmas.StringBackend.IsCut.{cut_length}
use Rattle.string_interner.proofs.backend.string.StringBackendBackend.next_symbol.Goals as goal

pub returns : goal.returns
returns g c = grind (arith, cut_length)
