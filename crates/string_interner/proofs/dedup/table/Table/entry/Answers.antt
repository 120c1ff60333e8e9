use Rattle.std.proofs.Common.{ap, arith, rules}
use Rattle.string_interner.proofs.Lemmas.Table.IsSoundTable.{HasFreeSlot-sound}
use Rattle.string_interner.proofs.Lemmas.Table.Seeks.{seeks}
use Rattle.string_interner.proofs.dedup.table.Table.entry.Goals as goal

pub probe_for-requires-clause-free : goal.probe_for-requires-clause-free
probe_for-requires-clause-free g c = let n = c.len.ensures in HasFreeSlot-sound g.L.Layout.layout g.met.L.Layout.layout_laws.load _ _ c.self.invariant (omega arith)

pub probe_for-requires-clause-fits : goal.probe_for-requires-clause-fits
probe_for-requires-clause-fits g c = rw (ap (λ x. x.slots) c.self.view_is) c.requires

pub returns-clause-seeks : goal.returns-clause-seeks
returns-clause-seeks g c =
    let n = c.len.ensures in
    rw (← c.self.view_is) (seeks g.L.Layout.layout g.met.L.Layout.layout_laws _ _ _ _ _ _ _ (rw (ap (λ x. x.slots) c.self.view_is) c.requires) (omega arith) c.probe_for.ensures.found (search rules) (search rules) (search rules))

pub returns-clause-vacant : goal.returns-clause-vacant
returns-clause-vacant g c = rw (← c.self.view_is) c.probe_for.ensures.vacant
