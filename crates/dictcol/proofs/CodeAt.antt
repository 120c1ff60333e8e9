-- A line behind others, by its code in the dictionary of all.
use Rattle.std.proofs.Common.{◌≡◌, ℕ, ◌+◌, ◌<◌, ◌≤◌, List, [], ◌∷◌, ◌++◌, length, take, get_or, Option, Some, None, refl, sym, ap, ◌∙◌, arith}
use Rattle.std.specs.Prelude.{slice_get}
use Rattle.std.proofs.lemmas.List.{append_assoc, take_more}
use Rattle.std.proofs.lemmas.Option.{slice_get-get_or}
use Rattle.std.proofs.lemmas.Slice.Zip.{AllZip-long}
use Rattle.string_interner.specs.Text.{Text, first}
use Rattle.string_interner.specs.Extend.{fresh}
use Rattle.string_interner.proofs.Lemmas.Interner.Extends.{fresh-append}
use Rattle.string_interner.proofs.Lemmas.Interner.InternsEach.{split-at}
use Rattle.string_interner.proofs.Lemmas.Interner.StandsFor.{one_entry}
use Rattle.string_interner.proofs.Lemmas.Texts.First.{first_within, first_is}
use Rattle.string_column.specs.Column.{AreCodes, dictionary_of}
use Rattle.string_column.proofs.Lemmas.AreNumbered.{slice_get-append, slice_get-push}
use Rattle.string_column.proofs.Lemmas.Counts.{dictionary-distinct}
use Rattle.string_column.proofs.Lemmas.Rows.{row-at}

-- the text of a code, behind the lines before it
pub record CodeAt (lines more : List Text) (at code : ℕ) : Type 0 where
  pub text : Text
  pub rest : List Text
  pub whole : lines ++ more ≡ (lines ++ take at more) ++ text ∷ rest
  pub here : get_or more at [] ≡ text
  pub next : take (at + 1) more ≡ take at more ++ text ∷ []
  pub entry : slice_get (dictionary_of (lines ++ more)) code ≡ Some text

pub code-at : (lines more : List Text) (codes : List ℕ) (at code : ℕ) → AreCodes (dictionary_of (lines ++ more)) codes more → at < length codes → code ≡ get_or codes at 0 → CodeAt lines more at code
code-at lines more codes at code are within is =
    let long = AllZip-long (λ c r. slice_get (dictionary_of (lines ++ more)) c ≡ Some r) codes more are in
    let inside : at < length more = omega (arith, within, long) in
    let parts = split-at more at inside in
    let found : slice_get codes at ≡ Some code = slice_get-get_or codes at 0 within ∙ ap Some (sym is) in
    record {
      text = parts.0;
      rest = parts.1;
      whole = ap (λ ls. lines ++ ls) parts.2 ∙ sym (append_assoc lines (take at more) (parts.0 ∷ parts.1));
      here = parts.3 [];
      next = take_more more at [] inside ∙ ap (λ t. take at more ++ t ∷ []) (parts.3 []);
      entry = row-at (dictionary_of (lines ++ more)) codes more at code are found ∙ slice_get-get_or more at [] inside ∙ ap Some (parts.3 []);
    }

module _ (lines more : List Text) (at code : ℕ) (it : CodeAt lines more at code) where
  abbrev front : List Text
  front = lines ++ take at more

  parts : dictionary_of (lines ++ more) ≡ dictionary_of front ++ fresh (dictionary_of front) (it.text ∷ it.rest)
  parts = ap dictionary_of it.whole ∙ fresh-append [] front (it.text ∷ it.rest)

  pub code-next : lines ++ take (at + 1) more ≡ front ++ it.text ∷ []
  code-next = ap (λ ls. lines ++ ls) it.next ∙ sym (append_assoc lines (take at more) (it.text ∷ []))

  -- a code below those of the lines before it
  pub code-known : code < length (dictionary_of front) → slice_get (dictionary_of front) code ≡ Some it.text
  code-known inside =
      let here = slice_get-get_or (dictionary_of front) code [] inside in
      let behind = slice_get-append (dictionary_of front) (fresh (dictionary_of front) (it.text ∷ it.rest)) code (get_or (dictionary_of front) code []) here in
      here ∙ sym behind ∙ ap (λ entries. slice_get entries code) (sym parts) ∙ it.entry

  -- and one that is not
  pub code-first : length (dictionary_of front) ≤ code → first (dictionary_of front) it.text ≡ None
  code-first behind = of (first (dictionary_of front) it.text) refl
    where
      of : (o : Option ℕ) → first (dictionary_of front) it.text ≡ o → first (dictionary_of front) it.text ≡ None
      of None none = none
      of (Some i) found =
          let inside = first_within (dictionary_of front) it.text i found in
          let here : slice_get (dictionary_of front) i ≡ Some it.text = slice_get-get_or (dictionary_of front) i [] inside ∙ ap Some (first_is (dictionary_of front) it.text i found) in
          let there : slice_get (dictionary_of (lines ++ more)) i ≡ Some it.text =
          ap (λ entries. slice_get entries i) parts ∙ slice_get-append (dictionary_of front) (fresh (dictionary_of front) (it.text ∷ it.rest)) i it.text here in
          let same = one_entry (dictionary_of (lines ++ more)) it.text i code (dictionary-distinct (lines ++ more)) there it.entry in
          absurd (omega (arith, inside, same, behind))

  -- a text that is none of the lines before it has the next code
  pub code-fresh : first (dictionary_of front) it.text ≡ None → code ≡ length (dictionary_of front)
  code-fresh new =
      let entries = dictionary_of front in
      let rest = fresh (entries ++ it.text ∷ []) it.rest in
      let one : fresh entries (it.text ∷ it.rest) ≡ it.text ∷ rest = rw new refl in
      let all : dictionary_of (lines ++ more) ≡ (entries ++ it.text ∷ []) ++ rest = parts ∙ ap (λ texts. entries ++ texts) one ∙ sym (append_assoc entries (it.text ∷ []) rest) in
      let there : slice_get (dictionary_of (lines ++ more)) (length entries) ≡ Some it.text =
      ap (λ texts. slice_get texts (length entries)) all ∙ slice_get-append (entries ++ it.text ∷ []) rest (length entries) it.text (slice_get-push entries it.text) in
      one_entry (dictionary_of (lines ++ more)) it.text code (length entries) (dictionary-distinct (lines ++ more)) it.entry there
