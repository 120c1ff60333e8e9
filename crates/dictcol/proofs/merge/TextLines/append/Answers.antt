use Rattle.std.proofs.Common.{◌≡◌, ◌++◌, ◌∷◌, [], true, ap, ◌∙◌, sym, subst, rules}
use Rattle.std.specs.List.{join_with_byte}
use Rattle.std.proofs.lemmas.List.{append_assoc}
use Rattle.std.proofs.lemmas.Result.{err_from_is_err_and, IfErr-weaker}
use Rattle.dictcol.specs.Fault.{IsTakeFault}
use Rattle.dictcol.specs.Lines.{lines_of, text_of_lines}
use Rattle.dictcol.specs.TooMany.{HasRefused, LacksLine}
use Rattle.dictcol.proofs.TooMany.{newline-refused, take-weaker}
use Rattle.dictcol.proofs.merge.TextLines.append.Goals as goal

pub returns-in_err-append_joined-clause-fault : goal.returns-in_err-append_joined-clause-fault
returns-in_err-append_joined-clause-fault g c =
    let p = err_from_is_err_and c.from_residual.result c.from_residual.ensures.1 in
    rw (p.1, p.2) (take-weaker _ (newline-refused (LacksLine g.B.Store.numbering) c.args.self.now (join_with_byte 10 c.args.lines.now) c.args.is_ended) c.in_err-append_joined.ensures.fault)

pub returns-then-is_ended-clause-fault : goal.returns-then-is_ended-clause-fault
returns-then-is_ended-clause-fault g c =
    let joined : c.append_joined.new.self ≡ c.args.self.now ++ join_with_byte 10 c.args.lines.now = search rules in
    let ended : c.args.is_ended ≡ true = search rules in
    let text = ap (λ text. text ++ 10 ∷ []) joined ∙ append_assoc c.args.self.now (join_with_byte 10 c.args.lines.now) (10 ∷ []) ∙ ap (λ b. c.args.self.now ++ text_of_lines c.args.lines.now b) (sym ended) in
    IfErr-weaker c.end_line.result _ _ (λ fault. subst (λ text. IsTakeFault (HasRefused (LacksLine g.B.Store.numbering) (lines_of text)) fault) text) c.end_line.ensures.fault
