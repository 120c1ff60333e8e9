use Rattle.std.proofs.Common.{◌≡◌, ◌≢◌, ◌++◌, ◌∷◌, [], length, nat_lt, sym, subst, rules}
use Rattle.dictcol.specs.Lines.{AreLines, text_of_ended}
use Rattle.dictcol.proofs.TextLines.{are-ended, are-rest}
use Rattle.dictcol.proofs.TooMany.{whole-refused}
use Rattle.dictcol.proofs.lines.end_rest.Goals as goal

pub returns-then-is_empty-clause-ok : goal.returns-then-is_empty-clause-ok
returns-then-is_empty-clause-ok g c =
    let lines = c.args.lines.now in
    let rest = c.args.rest.now in
    let none : length c.args.rest.now ≡ 0 = search rules in
    subst (λ n. AreLines (text_of_ended lines rest) lines (nat_lt 0 n)) (sym c.len-is_ended.ensures) (are-ended lines rest c.requires.plain none)

pub returns-in-Ok-clause-ok : goal.returns-in-Ok-clause-ok
returns-in-Ok-clause-ok g c =
    let some : c.args.rest.now ≢ [] = λ e. search rules in
    let pushed : c.push.new.self ≡ c.args.lines.now ++ c.args.rest.now ∷ [] = search rules in
    are-rest c.args.lines.now c.push.new.self c.args.rest.now c.requires.plain c.requires.rest_plain some pushed

pub returns-in-Err-clause-fault : goal.returns-in-Err-clause-fault
returns-in-Err-clause-fault g c =
    let some : c.args.rest.now ≢ [] = λ e. search rules in
    rw c.of_intern.ensures.value (whole-refused g.B.Store.numbering c.args.lines.now c.args.rest.now c.in-Err.error c.requires.plain c.requires.rest_plain some c.in-Err.ensures.0)
