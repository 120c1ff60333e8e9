-- The first line that equals an earlier one, by the codes of the lines.
use Rattle.std.proofs.Common.{◌≡◌, ◌≢◌, ℕ, ◌+◌, ◌<◌, ◌≤◌, List, [], ◌∷◌, ◌++◌, length, get_or, take, Option, Some, None, refl, sym, ap, subst, ◌∙◌, arith, inl, inr}
use Rattle.std.specs.Prelude.{slice_get, slice_index, IsSome, ◌↔◌}
use Rattle.std.specs.Option.{option_map_or}
use Rattle.std.proofs.lemmas.Bool.{cases_lt}
use Rattle.std.proofs.lemmas.List.{append_assoc, length-take-le, take_all, get_or-take}
use Rattle.std.proofs.lemmas.Option.{same_Some, slice_get-get_or}
use Rattle.string_interner.specs.Text.{Text, first, IsDistinct}
use Rattle.string_interner.specs.Extend.{fresh}
use Rattle.string_interner.proofs.Lemmas.Interner.Extends.{fresh-append}
use Rattle.string_interner.proofs.Lemmas.Interner.InternsEach.{split-at}
use Rattle.string_interner.proofs.Lemmas.Interner.StandsFor.{one_entry}
use Rattle.string_column.specs.Column.{AreCodes, dictionary_of}
use Rattle.string_column.specs.Parts.{IsRepeat}
use Rattle.string_column.proofs.Lemmas.AreNumbered.{slice_get-push, slice_get-append}
use Rattle.string_column.proofs.Lemmas.Counts.{dictionary-distinct}
use Rattle.string_column.proofs.Lemmas.Rows.{row-at}
use Rattle.dictcol.proofs.PlainColumns.{distinct-dictionary}

-- one code more that is its own index
pub own-more : (codes : List ℕ) (row : ℕ) → ((i : ℕ) → i < row → slice_get codes i ≡ Some i) → slice_get codes row ≡ Some row → (i : ℕ) → i < row + 1 → slice_get codes i ≡ Some i
own-more codes row own here i below = elim (cases_lt i row) [
  | inl less ↦ own i less
  | inr above ↦ let e : row ≡ i = omega (arith, above, below) in subst (λ n. slice_get codes n ≡ Some n) e here
]

-- a code that is read
pub own-here : (codes : List ℕ) (row code : ℕ) → row < length codes → code ≡ slice_index codes row → (slice_get codes row ≡ Some row) ↔ (code ≡ row)
own-here codes row code within is =
    let read = slice_get-get_or codes row 0 within in (λ own. is ∙ same_Some _ _ (sym read ∙ own), λ same. read ∙ ap Some (sym is ∙ same))

module _ (lines : List Text) (codes : List ℕ) (row : ℕ) (are : AreCodes (dictionary_of lines) codes lines)
    (own : (i : ℕ) → i < row → slice_get codes i ≡ Some i) where
  stands : (i : ℕ) → i < row → slice_get (dictionary_of lines) i ≡ slice_get lines i
  stands i below = row-at (dictionary_of lines) codes lines i i are (own i below)

  -- lines whose codes are their own indexes are distinct
  front-distinct : (n : ℕ) → n ≤ row → n ≤ length lines → IsDistinct (take n lines)
  front-distinct n few within i j d less inside same =
      let long = length-take-le n lines within in
      let below : j < n = omega (arith, long, inside) in
      let same_line : get_or lines i d ≡ get_or lines j d = sym (get_or-take n lines i d (omega (arith, less, below))) ∙ same ∙ get_or-take n lines j d below in
      let at_i = stands i (omega (arith, less, below, few)) ∙ slice_get-get_or lines i d (omega (arith, less, below, within)) ∙ ap Some same_line in
      let at_j = stands j (omega (arith, below, few)) ∙ slice_get-get_or lines j d (omega (arith, below, within)) in
      let e = one_entry (dictionary_of lines) (get_or lines j d) i j (dictionary-distinct lines) at_i at_j in
      absurd (omega (arith, e, less))

  pub own-distinct : length lines ≤ row → IsDistinct lines
  own-distinct all = subst IsDistinct (take_all (length lines) lines (omega arith)) (front-distinct (length lines) all (omega arith))

  pub first-repeat : slice_get codes row ≢ Some row → length codes ≡ length lines → row < length lines → IsRepeat lines row
  first-repeat other count within = record {
    entry = line;
    stands = at;
    repeats = of (first (take row lines) line) refl;
    distinct = distinct;
  }
    where
      line : Text
      line = (split-at lines row within).0

      rest : List Text
      rest = (split-at lines row within).1

      at : slice_get lines row ≡ Some line
      at = slice_get-get_or lines row line within ∙ ap Some ((split-at lines row within).3 line)

      distinct : IsDistinct (take row lines)
      distinct = front-distinct row (omega arith) (omega (arith, within))

      code : ℕ
      code = get_or codes row 0

      at_code : slice_get codes row ≡ Some code
      at_code = slice_get-get_or codes row 0 (omega (arith, count, within))

      of : (o : Option ℕ) → first (take row lines) line ≡ o → IsSome o
      of (Some i) e = refl
      of None e =
          let put : dictionary_of lines ≡ take row lines ++ line ∷ fresh (take row lines ++ line ∷ []) rest =
          ap dictionary_of (split-at lines row within).2 ∙ fresh-append [] (take row lines) (line ∷ rest)
          ∙ ap (λ t. t ++ fresh t (line ∷ rest)) (distinct-dictionary (take row lines) distinct)
          ∙ ap (λ o. take row lines ++ option_map_or (λ _. fresh (take row lines) rest) o (line ∷ fresh (take row lines ++ line ∷ []) rest)) e in
          let long = length-take-le row lines (omega (arith, within)) in
          let more = fresh (take row lines ++ line ∷ []) rest in
          let last = subst (λ n. slice_get (take row lines ++ line ∷ []) n ≡ Some line) long (slice_get-push (take row lines) line) in
          let here : slice_get (dictionary_of lines) row ≡ Some line =
          ap (λ t. slice_get t row) (put ∙ sym (append_assoc (take row lines) (line ∷ []) more)) ∙ slice_get-append (take row lines ++ line ∷ []) more row line last in
          let there = row-at (dictionary_of lines) codes lines row code are at_code ∙ at in
          absurd (other (at_code ∙ ap Some (one_entry (dictionary_of lines) line code row (dictionary-distinct lines) there here)))
