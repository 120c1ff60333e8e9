use Rattle.string_interner.proofs.Lemmas.Interner.IsSoundInterner.{interned-none}
use Rattle.string_interner.proofs.interner.StringInterner.restart.Goals as goal

pub invariant_of-self : goal.invariant_of-self
invariant_of-self g c = interned-none g.B.Store.numbering _ _ _ (rw c.replace.ensures.after c.requires.texts) g.met.B.Store.starts c.requires.count (c.requires.empty (g.H.TextHasher.code c.self.inside.hasher))
