use Rattle.string_interner.proofs.Lemmas.Interner.IsSoundInterner.{interned-none}
use Rattle.string_interner.proofs.interner.StringInterner.from_parts.Goals as goal

pub invariant_of-result : goal.invariant_of-result
invariant_of-result g c = interned-none g.B.Store.numbering _ _ _ c.requires.texts g.met.B.Store.starts c.requires.count (c.requires.empty (g.H.TextHasher.code c.args.hasher))
