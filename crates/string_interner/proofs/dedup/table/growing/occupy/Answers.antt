use Rattle.std.proofs.Common.{arith}
use Rattle.string_interner.proofs.Lemmas.Table.IsCoded.{Fills-free}
use Rattle.string_interner.proofs.dedup.table.growing.occupy.Goals as goal

pub set-requires : goal.set-requires
set-requires g c = let f = c.requires.free.free in let n = c.len.ensures in (c.requires.vacant.free (omega arith) (omega arith)).0

pub returns-then-vacancy-len-clause-puts : goal.returns-then-vacancy-len-clause-puts
returns-then-vacancy-len-clause-puts g c =
    let f = c.requires.free.free in let n = c.len.ensures in
    Fills-free g.L.Layout.layout _ _ _ _ _ _ (c.requires.vacant.free (omega arith) (omega arith)) c.set.ensures.slots c.set.ensures.stored c.set.ensures.others
