use Rattle.std.proofs.Common.{◌≡◌, ◌<◌, ◌++◌, ◌∷◌, [], Some, refl, rules}
use Rattle.std.proofs.lemmas.List.Elements.{All-push}
use Rattle.std.proofs.lemmas.Slice.Zip.{all_zipped_more}
use Rattle.json.specs.Token.{number}
use Rattle.serde_json.specs.Data.{unsigned}
use Rattle.serde_json.specs.Read.{number_of}
use Rattle.dictcol.proofs.StreamTokens.{token-more}
use Rattle.dictcol.proofs.json_form.stream.read_indexes.Goals as goal

pub indexes-preserved : goal.indexes-preserved
indexes-preserved c =
    let old = c.indexes.invariant.so_far in
    let next : c.indexes.reader ≡ number c.in-Some-Number.text.now ∷ c.next.new.self = search rules in
    let is : number_of c.in-Some-Number.text.now ≡ Some (unsigned c.in-Some.index) = search rules in
    let within : c.in-Some.index < c.args.count = search rules in
    let pushed : c.push.new.self.items ≡ c.indexes.codes.items ++ c.in-Some.index ∷ [] = search rules in
    record {
      so_far = (
        old.0 ++ c.in-Some-Number.text.now ∷ [],
        token-more number _ _ _ old.0 _ c.in-Some-Number.text.now old.1 next refl,
        rw pushed (all_zipped_more (λ text index. number_of text ≡ Some (unsigned index)) old.0 c.indexes.codes.items c.in-Some-Number.text.now c.in-Some.index old.2 is),
      );
      within = rw pushed (All-push (λ index. index < c.args.count) c.indexes.codes.items c.in-Some.index c.indexes.invariant.within within);
    }
