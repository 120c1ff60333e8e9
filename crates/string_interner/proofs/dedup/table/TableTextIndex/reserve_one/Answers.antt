use Rattle.string_interner.proofs.Lemmas.Table.IsTable.{IsTable-same}
use Rattle.string_interner.proofs.dedup.table.TableTextIndex.reserve_one.Goals as goal

pub returns-clause-same : goal.returns-clause-same
returns-clause-same g c = IsTable-same g.L.Layout.layout g.met.L.Layout.layout_laws _ _ _ _ c.requires c.reserve_one.ensures.fits c.reserve_one.ensures.same
