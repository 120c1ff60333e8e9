use Rattle.std.proofs.Common.{◌≡◌, arith}
use Rattle.std.proofs.lemmas.Bool.Decides.{nat_tests}
use Rattle.examples.proofs.tokens.is_keyword.Goals as goal

pub returns : goal.returns
returns g c = λ keyword word end at.
    let order = c.len.ensures.holds.order in
    let same : at.index ≡ end.index → g.B.Symbol.Symbol.number c.args.token ≡ g.B.Symbol.Symbol.number c.args.last = λ e. cc in
    (λ test. grind (arith, nat_tests, order c.args.last c.args.token keyword word end at), λ le. grind (arith, nat_tests, order c.args.token c.args.last word keyword at end))
