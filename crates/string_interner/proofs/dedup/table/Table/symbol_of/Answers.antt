use Rattle.std.proofs.Common.{ap, arith, rules}
use Rattle.string_interner.proofs.Lemmas.Table.IsSoundTable.{HasFreeSlot-sound}
use Rattle.string_interner.proofs.Lemmas.Table.Seeks.{seeks}
use Rattle.string_interner.proofs.dedup.table.Table.symbol_of.Goals as goal

pub find-requires-clause-free : goal.find-requires-clause-free
find-requires-clause-free g c = let n = c.len.ensures in HasFreeSlot-sound g.L.Layout.layout g.met.L.Layout.layout_laws.load _ _ c.self.invariant (omega arith)

pub find-requires-clause-fits : goal.find-requires-clause-fits
find-requires-clause-fits g c = rw (ap (λ x. x.slots) c.self.view_is) c.requires

pub returns : goal.returns
returns g c =
    let n = c.len.ensures in
    rw (← c.self.view_is) (seeks g.L.Layout.layout g.met.L.Layout.layout_laws _ _ _ _ _ _ _ (rw (ap (λ x. x.slots) c.self.view_is) c.requires) (omega arith) c.find.ensures.found (search rules) (search rules) (search rules))
