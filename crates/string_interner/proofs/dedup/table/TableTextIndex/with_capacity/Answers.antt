use Rattle.string_interner.proofs.Lemmas.Table.IsTable.{IsTable-none-ok}
use Rattle.string_interner.proofs.dedup.table.TableTextIndex.with_capacity.Goals as goal

pub returns-clause-empty : goal.returns-clause-empty
returns-clause-empty g c = IsTable-none-ok g.L.Layout.layout g.met.L.Layout.layout_laws _ c.with_capacity.ensures.fits
