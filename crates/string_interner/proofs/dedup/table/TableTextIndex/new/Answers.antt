use Rattle.string_interner.proofs.Lemmas.Table.IsTable.{IsTable-none}
use Rattle.string_interner.proofs.dedup.table.TableTextIndex.new.Goals as goal

pub returns-clause-empty : goal.returns-clause-empty
returns-clause-empty g c = λ code. IsTable-none g.L.Layout.layout g.met.L.Layout.layout_laws code _ c.new.ensures.fits
