use Rattle.std.proofs.Common.{◌≡◌, ◌++◌, codes, ap, sym, subst, ◌∙◌, rules}
use Rattle.std.proofs.lemmas.Result.{err_from_is_err_and}
use Rattle.json.specs.Lex.{tokens}
use Rattle.dictcol.specs.StreamTokens.{StreamHolds, behind_front}
use Rattle.dictcol.proofs.StreamTokens.{stream-dictionary, stream-holds}
use Rattle.dictcol.proofs.StringTokens.{front-tokens}
use Rattle.dictcol.proofs.TooMany.{take-weaker}
use Rattle.dictcol.proofs.json_form.stream.read_stream.Goals as goal
use Rattle.dictcol.proofs.json_form.stream.read_stream.Goals.{in-Some+in_ok-rest-in-Some, in-None+in_ok-rest-in-None}

pub returns-in-Some-rest-clause-lines : goal.returns-in-Some-rest-clause-lines
returns-in-Some-rest-clause-lines g c =
    let file = c.args.file.now in
    let texts = c.match-strip_prefix.dictionary.texts in
    let indexes = c.in-Some-rest.codes.items in
    let is_ended = c.in-Some-rest.is_ended in
    let holds : StreamHolds (tokens c.args.file.now) c.match-strip_prefix.dictionary.texts c.in-Some-rest.codes.items c.in-Some-rest.is_ended =
    elim c.match-strip_prefix.branch [
      | in-Some+in_ok-rest-in-Some w ↦
          let whole : c.args.file.now ≡ codes "{\"dictionary\":[" ++ w.in-Some.list.now = search rules in
          let list : StreamHolds (behind_front (tokens w.in-Some.list.now)) c.match-strip_prefix.dictionary.texts c.in-Some-rest.codes.items c.in-Some-rest.is_ended = search rules in
          subst (λ ts. StreamHolds ts texts indexes is_ended) (sym (ap tokens whole ∙ front-tokens w.in-Some.list.now)) list
      | in-None+in_ok-rest-in-None w ↦ search rules
    ] in
    stream-holds file texts is_ended holds.numbers indexes holds.tokens_are holds.indexes_are holds.distinct holds.each_a_line holds.within

pub returns-in-Some-rest-clause-texts : goal.returns-in-Some-rest-clause-texts
returns-in-Some-rest-clause-texts g c =
    let file = c.args.file.now in
    let texts = c.match-strip_prefix.dictionary.texts in
    let indexes = c.in-Some-rest.codes.items in
    let is_ended = c.in-Some-rest.is_ended in
    let holds : StreamHolds (tokens c.args.file.now) c.match-strip_prefix.dictionary.texts c.in-Some-rest.codes.items c.in-Some-rest.is_ended =
    elim c.match-strip_prefix.branch [
      | in-Some+in_ok-rest-in-Some w ↦
          let whole : c.args.file.now ≡ codes "{\"dictionary\":[" ++ w.in-Some.list.now = search rules in
          let list : StreamHolds (behind_front (tokens w.in-Some.list.now)) c.match-strip_prefix.dictionary.texts c.in-Some-rest.codes.items c.in-Some-rest.is_ended = search rules in
          subst (λ ts. StreamHolds ts texts indexes is_ended) (sym (ap tokens whole ∙ front-tokens w.in-Some.list.now)) list
      | in-None+in_ok-rest-in-None w ↦ search rules
    ] in
    stream-dictionary file texts is_ended holds.numbers indexes holds.tokens_are holds.indexes_are

pub returns-in_err-rest-in-Some-clause-fault : goal.returns-in_err-rest-in-Some-clause-fault
returns-in_err-rest-in-Some-clause-fault g c =
    let list = tokens c.in-Some.list.now in
    let whole : c.args.file.now ≡ codes "{\"dictionary\":[" ++ c.in-Some.list.now = search rules in
    let p = err_from_is_err_and c.from_residual.result c.from_residual.ensures.1 in
    rw (p.1, p.2) (take-weaker _ (λ lacks. (list, ap tokens whole ∙ front-tokens c.in-Some.list.now, lacks)) c.in_err-rest-in-Some.ensures.fault)
