-- A column that is made of distinct texts and the indexes of some of them.
use Rattle.std.proofs.Common.{◌≡◌, ℕ, ◌<◌, List, [], length, take, get_or, Option, Some, None, Result, Ok, Err, sym, ap, refl, ◌∙◌, arith}
use Rattle.std.specs.Prelude.{All, slice_get, IsSome}
use Rattle.std.proofs.lemmas.List.{length-take, get_or-take}
use Rattle.std.proofs.lemmas.Option.{slice_get_within, slice_get-get_or, get_or_from_slice_get}
use Rattle.string_interner.specs.Text.{Text, IsDistinct, first}
use Rattle.string_interner.specs.Numbering.{Numbering}
use Rattle.string_interner.proofs.Lemmas.Texts.First.{first_within, first_is}
use Rattle.string_interner.proofs.Lemmas.Interner.StandsFor.{one_entry}
use Rattle.string_column.specs.Column.{rows_of}
use Rattle.string_column.specs.Parts.{IsRepeat, IsOutside, IsMadeOf}
use Rattle.string_column.specs.declared.rows.parts.PartsError.{PartsError}
use Rattle.string_column.specs.declared.rows.parts.PartsError.TheVariants.{Repeated, NoEntry}
use Rattle.string_column.proofs.Lemmas.Rows.{rows-are}

distinct-repeat : (entries : List Text) (index : ℕ) → IsDistinct entries → IsRepeat entries index → ⊥
distinct-repeat entries index distinct repeat = of (first (take index entries) repeat.entry) refl repeat.repeats
  where
    of : (o : Option ℕ) → first (take index entries) repeat.entry ≡ o → IsSome o → ⊥
    of None is some = absurd (cc)
    of (Some j) is some =
        let short = first_within (take index entries) repeat.entry j is in
        let below : j < index = omega (arith, short, length-take index entries) in
        let inside : j < length entries = let w = slice_get_within entries index repeat.entry repeat.stands in omega (arith, below) in
        let same : get_or entries j [] ≡ repeat.entry = sym (get_or-take index entries j [] below) ∙ first_is (take index entries) repeat.entry j is in
        let at : slice_get entries j ≡ Some repeat.entry = slice_get-get_or entries j [] inside ∙ ap (λ x. Some x) same in
        let one = one_entry entries repeat.entry j index distinct at repeat.stands in omega (arith, one, below)

within-outside : (count : ℕ) (codes : List ℕ) (row : ℕ) → All (λ code. code < count) codes → IsOutside count codes row → ⊥
within-outside count codes row within outside =
    let inside = slice_get_within codes row outside.code outside.stands in
    let is = get_or_from_slice_get codes row outside.code 0 outside.stands in
    let below : outside.code < count = rw (← is) (within row 0 inside) in
    omega (arith, below, outside.outside)

module _ {S : Type 0} (numbering : Numbering S) (dictionary : List Text) (codes : List ℕ) (outcome : Result (List Text) PartsError)
    (made : IsMadeOf numbering dictionary codes outcome) where
  pub made-rows : (rows : List Text) → outcome ≡ Ok rows → rows_of dictionary codes ≡ rows
  made-rows rows is = rows-are dictionary codes rows (rw is at made).1

  pub no-repeat : (index : ℕ) → outcome ≡ Err (Repeated index) → IsDistinct dictionary → ⊥
  no-repeat index is distinct = distinct-repeat dictionary index distinct (rw is at made)

  pub no-outside : (row : ℕ) → outcome ≡ Err (NoEntry row) → All (λ code. code < length dictionary) codes → ⊥
  no-outside row is within = within-outside (length dictionary) codes row within (rw is at made).1
