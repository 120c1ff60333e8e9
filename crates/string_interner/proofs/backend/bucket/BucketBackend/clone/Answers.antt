use Rattle.std.proofs.Common.{rules}
use Rattle.string_interner.proofs.Lemmas.BucketBackend.AreCopies.{stored-copies}
use Rattle.string_interner.proofs.backend.bucket.BucketBackend.clone.Goals as goal

pub copies_of-requires-clause-utf8 : goal.copies_of-requires-clause-utf8
copies_of-requires-clause-utf8 g c = rw c.deref-2.ensures.value c.self.invariant.valid.utf8

pub invariant_of-result : goal.invariant_of-result
invariant_of-result g c = rw c.new.ensures.items (stored-copies g.S.Symbol.symbol_of c.self.inside.full.items c.self.inside.head c.self.inside.entries.items c.in_ok-entries.entries.items c.in_ok-entries.head c.self.invariant (search rules) (search rules))

pub returns : goal.returns
returns g c = record { texts = search rules; statics = search rules; full = search rules; head = search rules; shared = search rules; fits = search rules }
