use Rattle.std.proofs.Common.{◌≡◌, Some, Err, codes, inl, inr, refl, subst, ◌∙◌, rules}
use Rattle.std.proofs.lemmas.Option.{same_Some}
use Rattle.serde_json.specs.Find.{get}
use Rattle.serde_json.specs.View.{view}
use Rattle.string_interner.specs.declared.json.JsonError.TheVariants.{NoSymbol, NotAList, NotAText, Repeated, NotANumber}
use Rattle.dictcol.proofs.Crowded.{lacks-element}
use Rattle.dictcol.proofs.HoldsLines.{IsRead, distinct-read}
use Rattle.dictcol.proofs.json_form.file.read_dictionary.Goals as goal

pub returns-in-Err-NotAText-clause-err : goal.returns-in-Err-NotAText-clause-err
returns-in-Err-NotAText-clause-err g c = inr (
  tt,
  λ texts distinct e.
      let found : Some (view c.in_ok-value.value.now) ≡ get (codes "dictionary") (view c.args.file.now) = search rules in
      let told : c.from_json_exact_with_hasher.result ≡ Err (NotAText c.in-Err-NotAText.index) = search rules in
      subst IsRead told (distinct-read g.B.Store.numbering texts (view c.in_ok-value.value.now) c.from_json_exact_with_hasher.result distinct (same_Some _ _ (found ∙ e)) c.from_json_exact_with_hasher.ensures.reads),
)

pub returns-in-Err-Repeated-clause-err : goal.returns-in-Err-Repeated-clause-err
returns-in-Err-Repeated-clause-err g c = inr (
  tt,
  λ texts distinct e.
      let found : Some (view c.in_ok-value.value.now) ≡ get (codes "dictionary") (view c.args.file.now) = search rules in
      let told : c.from_json_exact_with_hasher.result ≡ Err (Repeated c.in-Err-Repeated.index) = search rules in
      subst IsRead told (distinct-read g.B.Store.numbering texts (view c.in_ok-value.value.now) c.from_json_exact_with_hasher.result distinct (same_Some _ _ (found ∙ e)) c.from_json_exact_with_hasher.ensures.reads),
)

pub returns-in-Err-NotANumber-clause-err : goal.returns-in-Err-NotANumber-clause-err
returns-in-Err-NotANumber-clause-err g c = inr (
  tt,
  λ texts distinct e.
      let found : Some (view c.in_ok-value.value.now) ≡ get (codes "dictionary") (view c.args.file.now) = search rules in
      let told : c.from_json_exact_with_hasher.result ≡ Err NotANumber = search rules in
      subst IsRead told (distinct-read g.B.Store.numbering texts (view c.in_ok-value.value.now) c.from_json_exact_with_hasher.result distinct (same_Some _ _ (found ∙ e)) c.from_json_exact_with_hasher.ensures.reads),
)

pub returns-in-Err-NotAList-clause-err : goal.returns-in-Err-NotAList-clause-err
returns-in-Err-NotAList-clause-err g c = inr (
  tt,
  λ texts distinct e.
      let found : Some (view c.in_ok-value.value.now) ≡ get (codes "dictionary") (view c.args.file.now) = search rules in
      let told : c.from_json_exact_with_hasher.result ≡ Err NotAList = search rules in
      subst IsRead told (distinct-read g.B.Store.numbering texts (view c.in_ok-value.value.now) c.from_json_exact_with_hasher.result distinct (same_Some _ _ (found ∙ e)) c.from_json_exact_with_hasher.ensures.reads),
)

pub returns-in-Err-NoSymbol-clause-err : goal.returns-in-Err-NoSymbol-clause-err
returns-in-Err-NoSymbol-clause-err g c =
    let found : Some (view c.in_ok-value.value.now) ≡ get (codes "dictionary") (view c.args.file.now) = search rules in
    let told : c.from_json_exact_with_hasher.result ≡ Err NoSymbol = search rules in
    inl (inr (refl, lacks-element g.B.Store.numbering c.from_json_exact_with_hasher.result told (view c.args.file.now) (view c.in_ok-value.value.now) found c.from_json_exact_with_hasher.ensures.reads))
