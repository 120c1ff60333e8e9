use Rattle.std.proofs.Common.{sym, subst}
use Rattle.suite.specs.LinearIndex.{IsListed, LinearContents}
use Rattle.suite.proofs.Listed.{IsListed-more}
use Rattle.suite.proofs.linear.LinearIndexTextIndex.insert_at.Goals as goal

pub returns-clause-adds : goal.returns-clause-adds
returns-clause-adds g c = λ entry more code text adds listed vacant.
    rw c.push_reserved.ensures.items
    (IsListed-more entry more c.self.inside.symbols.items c.args.symbol text adds.adds.added adds.adds.kept adds.adds.only (subst (λ (v : LinearContents g.row.S.Denot). IsListed entry v.symbols) (sym c.self.view_is) listed))
