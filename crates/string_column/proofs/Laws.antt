-- Laws of columns, for whoever doubts the definitions.
use Rattle.std.proofs.Common.{◌≡◌, ℕ, List, [], ◌∷◌, ◌++◌, Ok, refl, sym, ap, ◌∙◌}
use Rattle.std.proofs.lemmas.List.{append_assoc}
use Rattle.string_interner.specs.Text.{Text, IsDistinct}
use Rattle.string_interner.specs.Numbering.{Numbering}
use Rattle.string_interner.proofs.Lemmas.Interner.StandsFor.{one_entry}
use Rattle.string_column.specs.Column.{AppendsRows, AreCodes, dictionary_of}
use Rattle.string_column.proofs.Lemmas.Counts.{dictionary-distinct}

-- the codes of distinct entries follow from the rows
codes-follow : (entries : List Text) → IsDistinct entries → (rows : List Text) (codes others : List ℕ) → AreCodes entries codes rows → AreCodes entries others rows → codes ≡ others
codes-follow entries distinct [] [] [] are too = refl
codes-follow entries distinct [] [] (other ∷ others) are too = absurd too
codes-follow entries distinct [] (code ∷ codes) others are too = absurd are
codes-follow entries distinct (row ∷ rows) [] others are too = absurd are
codes-follow entries distinct (row ∷ rows) (code ∷ codes) [] are too = absurd too
codes-follow entries distinct (row ∷ rows) (code ∷ codes) (other ∷ others) are too =
    rw (one_entry entries row code other distinct are.0 too.0, codes-follow entries distinct rows codes others are.1 too.1) refl

-- so columns of equal rows have equal codes
pub one-coding : (rows : List Text) (codes others : List ℕ) → AreCodes (dictionary_of rows) codes rows → AreCodes (dictionary_of rows) others rows → codes ≡ others
one-coding rows = codes-follow (dictionary_of rows) (dictionary-distinct rows) rows

-- Merging is associative: `a` with `b` and then with `c` has the rows of `a` with what `b` and `c` make.
pub merges-alike : {S : Type 0} (numbering : Numbering S) (a b c ab bc left right : List Text)
    → AppendsRows numbering a b (Ok tt) ab → AppendsRows numbering ab c (Ok tt) left
    → AppendsRows numbering b c (Ok tt) bc → AppendsRows numbering a bc (Ok tt) right → left ≡ right
merges-alike numbering a b c ab bc left right ab_is left_is bc_is right_is =
    left_is ∙ ap (λ rows. rows ++ c) ab_is ∙ append_assoc a b c ∙ ap (λ rows. a ++ rows) (sym bc_is) ∙ sym right_is
