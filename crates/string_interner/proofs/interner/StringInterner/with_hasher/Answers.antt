use Rattle.string_interner.proofs.Lemmas.Interner.IsSoundInterner.{interned-none}
use Rattle.string_interner.proofs.interner.StringInterner.with_hasher.Goals as goal

pub invariant_of-result : goal.invariant_of-result
invariant_of-result g c = interned-none g.B.Store.numbering _ _ _ c.new.ensures.texts g.met.B.Store.starts c.new-2.ensures.count (c.new-2.ensures.empty (g.H.TextHasher.code c.args.hasher))
