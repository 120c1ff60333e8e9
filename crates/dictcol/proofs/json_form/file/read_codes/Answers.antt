use Rattle.std.proofs.Common.{◌≡◌, ◌<◌, ◌≤◌, ◌++◌, ◌∷◌, [], length, Some, option_and_then, inr, rules}
use Rattle.std.proofs.lemmas.List.Elements.{All-push}
use Rattle.serde_json.specs.Find.{as_number, as_u64}
use Rattle.serde_json.specs.View.{view}
use Rattle.string_interner.proofs.Lemmas.Json.Reads.{next_element}
use Rattle.dictcol.proofs.Rows.{no-entry, one-entry}
use Rattle.dictcol.proofs.json_form.file.read_codes.Goals as goal

pub returns-then-index-len-clause-err : goal.returns-then-index-len-clause-err
returns-then-index-len-clause-err g c =
    let is : option_and_then as_u64 (as_number (view c.number-item.result)) ≡ Some c.in_ok-index.index = search rules in
    let outside : length c.args.dictionary.now.texts ≤ c.in_ok-index.index = search rules in
    inr (tt, no-entry c.args.dictionary.now.texts _ _ _ _ c.loop-number.codes.items c.loop-number.invariant.so_far (next_element _ _ _ c.loop-number-test.true c.number-item.is) c.in_ok-index.index is outside)

pub loop-number-preserved : goal.loop-number-preserved
loop-number-preserved g c =
    let is : option_and_then as_u64 (as_number (view c.number-item.result)) ≡ Some c.in_ok-index.index = search rules in
    let within : c.in_ok-index.index < length c.args.dictionary.now.texts = search rules in
    let pushed : c.push.new.self.items ≡ c.loop-number.codes.items ++ c.in_ok-index.index ∷ [] = search rules in
    record {
      so_far = one-entry c.args.dictionary.now.texts _ _ _ _ c.loop-number.codes.items c.loop-number.invariant.so_far (next_element _ _ _ c.loop-number-test.true c.number-item.is) c.in_ok-index.index is _ within pushed;
      within = rw pushed (All-push (λ code. code < length c.args.dictionary.now.texts) c.loop-number.codes.items c.in_ok-index.index c.loop-number.invariant.within within);
    }
