use Rattle.std.proofs.Common.{◌≡◌, ℕ, ◌<◌, ◌↔◌, List, [], ◌∷◌, Option, Some, None, IsTrue, slice_get, nat_eq, refl, sym, ap, ◌∙◌, arith, zero, suc}
use Rattle.std.specs.Option.{option_eq}
use Rattle.std.proofs.lemmas.Bool.Decides.{nat_tests}
use Rattle.std.proofs.lemmas.Option.{slice_get_within, get_or_from_slice_get}
use Rattle.string_interner.specs.Text.{Text, IsDistinct}
use Rattle.string_column.specs.Column.{AreCodes, dictionary_of}
use Rattle.examples.proofs.column.is_same_page.Goals as goal

-- a text of a distinct list has one index
one_index : (texts : List Text) (text : Text) (i j : ℕ) → IsDistinct texts → slice_get texts i ≡ Some text → slice_get texts j ≡ Some text → i ≡ j
one_index texts text i j distinct at_i at_j =
    let apart : (a b : ℕ) → slice_get texts a ≡ Some text → slice_get texts b ≡ Some text → a < b → ⊥ = λ a b at_a at_b less.
    distinct a b text less (slice_get_within texts b text at_b) (get_or_from_slice_get texts a text text at_a ∙ sym (get_or_from_slice_get texts b text text at_b)) in
    grind (arith, apart i j at_i at_j, apart j i at_j at_i)

-- what a row has by its code
abbrev HasRow : List Text → Option ℕ → Option Text → Type 0
HasRow dictionary None row = row ≡ None
HasRow dictionary (Some code) row = (text : Text) × (row ≡ Some text) × (slice_get dictionary code ≡ Some text)

has_row : (dictionary : List Text) (codes : List ℕ) (rows : List Text) → AreCodes dictionary codes rows → (k : ℕ) → HasRow dictionary (slice_get codes k) (slice_get rows k)
has_row dictionary [] [] are k = refl
has_row dictionary [] (row ∷ rows) are k = elim are [ ]
has_row dictionary (code ∷ codes) [] are k = elim are [ ]
has_row dictionary (code ∷ codes) (row ∷ rows) are zero = (row, refl, are.0)
has_row dictionary (code ∷ codes) (row ∷ rows) are (suc k) = has_row dictionary codes rows are.1 k

-- rows are equal exactly if their codes are
same_row : (dictionary : List Text) → IsDistinct dictionary → (a b : Option ℕ) (x y : Option Text) → HasRow dictionary a x → HasRow dictionary b y → IsTrue (option_eq nat_eq a b) ↔ (x ≡ y)
same_row dictionary distinct None None x y at_x at_y = (λ _. at_x ∙ sym at_y, λ _. refl)
same_row dictionary distinct None (Some d) x y at_x at_y = (λ no. cc, λ same. cc)
same_row dictionary distinct (Some c) None x y at_x at_y = (λ no. cc, λ same. cc)
same_row dictionary distinct (Some c) (Some d) x y at_x at_y = (
  λ test. let is : c ≡ d = grind (arith, nat_tests) in at_x.1 ∙ sym at_x.2 ∙ ap (slice_get dictionary) is ∙ at_y.2 ∙ sym at_y.1,
  λ same. let is : c ≡ d = one_index dictionary at_x.0 c d distinct at_x.2 (at_y.2 ∙ sym at_y.1 ∙ sym same ∙ at_x.1) in grind (arith, nat_tests),
)

pub returns : goal.returns
returns c =
    let distinct = rw c.dictionary.ensures at c.len.ensures.holds.texts.distinct in
    let dictionary = dictionary_of c.args.visits.now in
    let codes = c.codes-codes.result.now.items in
    let row = has_row dictionary codes c.args.visits.now c.codes-codes.ensures in
    rw (c.eq.ensures, c.get.ensures, c.get-2.ensures) (same_row dictionary distinct _ _ _ _ (row c.args.one) (row c.args.other))
