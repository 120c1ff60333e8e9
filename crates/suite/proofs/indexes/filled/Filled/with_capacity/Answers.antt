use Rattle.string_interner.proofs.Lemmas.Interner.IsSoundInterner.{interned-none}
use Rattle.suite.proofs.indexes.filled.Filled.with_capacity.Goals as goal

pub invariant_of-result : goal.invariant_of-result
invariant_of-result g c = interned-none g.B.Store.numbering _ _ _ c.new.ensures.texts g.met.B.Store.starts c.in_ok-index.ensures.count
    (record { fits = c.in_ok-index.ensures.fits _ _; whole = λ symbol text known. absurd (let is = known in cc) })
