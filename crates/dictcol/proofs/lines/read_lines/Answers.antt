use Rattle.std.proofs.Common.{◌≡◌, string_bytes, sym, ap, ap₂, subst, ◌∙◌, rules}
use Rattle.std.proofs.lemmas.Result.{err_from_is_err_and}
use Rattle.dictcol.specs.Lines.{AreLines, has_newline, text_of_ended}
use Rattle.std.specs.List.{list_any}
use Rattle.dictcol.specs.TooMany.{LacksLine}
use Rattle.dictcol.proofs.PlainColumns.{some-weaker}
use Rattle.dictcol.proofs.Written.{text-fault}
use Rattle.dictcol.proofs.lines.read_lines.Goals as goal

pub end_rest-requires-clause-plain : goal.end_rest-requires-clause-plain
end_rest-requires-clause-plain g c =
    let read = c.in_ok-rest.ensures.ok in ap (list_any has_newline) read.1 ∙ read.2.plain

pub end_rest-requires-clause-rest_plain : goal.end_rest-requires-clause-rest_plain
end_rest-requires-clause-rest_plain g c =
    let last : c.as_str.result.now ≡ string_bytes c.in_ok-rest.rest = search rules in ap has_newline last ∙ c.in_ok-rest.ensures.ok.2.rest_plain

pub returns-clause-ok : goal.returns-clause-ok
returns-clause-ok g c =
    let read = c.in_ok-rest.ensures.ok in
    let last : c.as_str.result.now ≡ string_bytes c.in_ok-rest.rest = search rules in
    let same = ap₂ text_of_ended (sym read.1) (sym last) in
    some-weaker _ _ (g.R.Read.remaining c.args.input.now)
    (λ text is. subst (λ t. AreLines t c.end_rest.new.lines c.in_ok-is_ended.is_ended) (sym (is ∙ same)) c.in_ok-is_ended.ensures.ok) read.2.whole

pub returns-in_err-is_ended-clause-fault : goal.returns-in_err-is_ended-clause-fault
returns-in_err-is_ended-clause-fault g c =
    let read = c.in_ok-rest.ensures.ok in
    let last : c.as_str.result.now ≡ string_bytes c.in_ok-rest.rest = search rules in
    let same = ap₂ text_of_ended (sym read.1) (sym last) in
    let whole = some-weaker _ _ (g.R.Read.remaining c.args.input.now) (λ text is. is ∙ same) read.2.whole in
    let p = err_from_is_err_and c.from_residual-in_err-is_ended.result c.from_residual-in_err-is_ended.ensures.1 in
    rw (p.1, p.2) (text-fault (LacksLine g.B.Store.numbering) (g.R.Read.remaining c.args.input.now) _ _ whole c.in_err-is_ended.ensures.fault)
