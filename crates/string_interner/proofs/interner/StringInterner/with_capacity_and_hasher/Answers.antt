use Rattle.string_interner.proofs.Lemmas.Interner.IsSoundInterner.{interned-none}
use Rattle.string_interner.proofs.interner.StringInterner.with_capacity_and_hasher.Goals as goal

pub invariant_of-result : goal.invariant_of-result
invariant_of-result g c = interned-none g.B.Store.numbering _ _ _ c.in_ok-backend.ensures.texts g.met.B.Store.starts c.in_ok-index.ensures.count (c.in_ok-index.ensures.empty (g.H.TextHasher.code c.args.hasher))
