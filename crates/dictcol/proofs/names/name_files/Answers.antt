use Rattle.std.proofs.Common.{◌≡◌, ◌++◌, ◌∷◌, ◌||◌, [], ap, ◌∙◌, rules}
use Rattle.std.proofs.lemmas.Result.{err_from_is_err_and}
use Rattle.dictcol.proofs.AreGood.{as-many-files, is_standard, more-named, texts-more, wrong-at}
use Rattle.dictcol.proofs.names.name_files.Goals as goal
use Rattle.dictcol.proofs.names.name_files.Goals.{in-StandardInput, in_default}

pub returns-in_err-check_name-clause-fault : goal.returns-in_err-check_name-clause-fault
returns-in_err-check_name-clause-fault c =
    let p = err_from_is_err_and c.from_residual.result c.from_residual.ensures.1 in
    let long = as-many-files c.args.names.now c.loop-name.name-index c.loop-name.files.items c.loop-name-test.true c.loop-name.invariant.files in
    rw (p.1, p.2) (wrong-at c.args.is_input c.loop-name.has_input c.args.names.now c.loop-name.name-index _ _ _ c.loop-name-test.true (search rules) c.loop-name.invariant.good
    c.in_err-check_name.ensures.fault)

pub loop-name-preserved : goal.loop-name-preserved
loop-name-preserved c =
    let pushed : c.push.new.self.items ≡ c.loop-name.files.items ++ c.of_word-file.result ∷ [] = search rules in
    let standard : c.match-matches.matches ≡ is_standard c.of_word-file.result = elim c.match-matches.branch [
      | in-StandardInput w ↦ search rules
      | in_default w ↦ w.matches-is ∙ search rules
    ] in
    let all = more-named c.args.is_input c.loop-name.has_input _ _ _ _ c.loop-name.files.items c.push.new.self.items c.of_word-file.result
    (texts-more c.args.names.now c.loop-name.name-index _ c.loop-name-test.true) pushed (ap (λ b. c.loop-name.has_input || b) standard) c.in_ok-check_name.ensures.ok c.of_word-file.ensures
    c.loop-name.invariant.files c.loop-name.invariant.good in
    record { files = all.0; good = all.1 }
