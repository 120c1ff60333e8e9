use Rattle.std.proofs.Common.{length, ap, arith}
use Rattle.std.proofs.lemmas.Grind.{common_steps}
use Rattle.string_interner.proofs.Lemmas.BufferBackend.Reads.{read_iff, read_past}
use Rattle.string_interner.proofs.backend.buffer.BufferBackendStore.resolve.Goals as goal

pub returns-in_err-get-clause-value : goal.returns-in_err-get-clause-value
returns-in_err-get-clause-value g c = rw c.from_residual.ensures (read_past c.args.self.now.texts (g.S.Symbol.number c.args.symbol) (omega (arith, c.in_err-get.ensures.lookup, ap length c.as_bytes.ensures.spelled, c.to_usize.ensures.value)))

pub returns-in_err-get-clause-reads : goal.returns-in_err-get-clause-reads
returns-in_err-get-clause-reads g c = read_iff c.args.self.now.texts (g.S.Symbol.number c.args.symbol) _ (returns-in_err-get-clause-value g c)

pub returns-clause-reads : goal.returns-clause-reads
returns-clause-reads g c = read_iff c.args.self.now.texts (g.S.Symbol.number c.args.symbol) _ (grind (arith, common_steps))
