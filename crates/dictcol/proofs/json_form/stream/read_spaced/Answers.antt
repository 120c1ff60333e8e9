use Rattle.std.proofs.Common.{◌≡◌, [], ◌∷◌, ◌++◌, map, codes, subst, rules}
use Rattle.std.proofs.lemmas.Result.{IfErr-weaker}
use Rattle.json.specs.Lex.{tokens}
use Rattle.json.specs.Token.{begin_object, begin_array, key, string}
use Rattle.dictcol.specs.Crowded.{LacksText}
use Rattle.dictcol.proofs.TooMany.{take-weaker}
use Rattle.dictcol.proofs.json_form.stream.read_spaced.Goals as goal

pub returns-clause-fault : goal.returns-clause-fault
returns-clause-fault g c =
    let none : c.args.dictionary.now.texts ≡ [] = search rules in
    let whole : tokens c.args.file.now ≡ begin_object ∷ key (codes "dictionary") ∷ begin_array ∷ c.takes_array.new.reader = search rules in
    IfErr-weaker c.read_rest.result _ _ (λ fault. take-weaker fault (λ lacks. (c.takes_array.new.reader, whole, subst (λ texts. LacksText g.B.Store.numbering (map string texts ++ c.takes_array.new.reader)) none lacks))) c.read_rest.ensures.fault
