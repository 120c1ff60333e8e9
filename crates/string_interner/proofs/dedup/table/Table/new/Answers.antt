use Rattle.std.proofs.Common.{ap}
use Rattle.string_interner.specs.Slots.{symbols}
use Rattle.string_interner.proofs.Lemmas.Table.IsTable.{FitsAll-empty}
use Rattle.string_interner.proofs.dedup.table.Table.new.Goals as goal

pub returns-clause-fits : goal.returns-clause-fits
returns-clause-fits g c = FitsAll-empty g.L.Layout.layout g.met.L.Layout.layout_laws _ (ap symbols c.new.ensures)
