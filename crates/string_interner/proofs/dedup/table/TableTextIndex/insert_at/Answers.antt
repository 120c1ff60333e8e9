use Rattle.std.proofs.Common.{sym, subst}
use Rattle.string_interner.specs.Probe.{IsVacant}
use Rattle.string_interner.proofs.Lemmas.Table.IsTable.{IsTable-inserted}
use Rattle.string_interner.proofs.dedup.table.TableTextIndex.insert_at.Goals as goal

pub insert_at-requires-clause-vacant : goal.insert_at-requires-clause-vacant
insert_at-requires-clause-vacant g c = let v = c.requires.vacant in subst (λ n. IsVacant (g.L.Layout.layout.slots c.args.self.now.slots) n c.args.vacancy) (sym v.1.code_is) v.1

pub returns-clause-adds : goal.returns-clause-adds
returns-clause-adds g c = λ entry more code text adds table vacant. IsTable-inserted g.L.Layout.layout g.met.L.Layout.layout_laws entry more code _ _ _ _ text adds table vacant.code_is c.insert_at.ensures.inserts
