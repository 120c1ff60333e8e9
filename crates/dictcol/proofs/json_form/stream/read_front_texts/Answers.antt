use Rattle.std.proofs.Common.{◌≡◌, ◌∷◌, rules}
use Rattle.std.proofs.lemmas.Result.{err_from_is_err_and}
use Rattle.json.specs.Lex.{tokens}
use Rattle.json.specs.Token.{string}
use Rattle.dictcol.proofs.Crowded.{text-lacks}
use Rattle.dictcol.proofs.json_form.stream.read_front_texts.Goals as goal

pub returns-in_err-push_text-clause-fault : goal.returns-in_err-push_text-clause-fault
returns-in_err-push_text-clause-fault g c =
    let next : tokens c.texts.ahead.now ≡ string c.in-Some.text.now ∷ tokens c.in-Some.behind.now = search rules in
    let p = err_from_is_err_and c.from_residual.result c.from_residual.ensures.1 in
    rw (p.1, p.2) (text-lacks g.B.Store.numbering _ _ _ _ c.in-Some.text.now _ c.texts.invariant.so_far next c.in_err-push_text.ensures.fault)
