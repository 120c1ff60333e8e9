-- The rows of a column: what their codes read, and one row more.
use Rattle.std.proofs.Common.{◌≡◌, ℕ, ◌+◌, ◌<◌, Bor, List, [], ◌∷◌, ◌++◌, length, drop, get_or, Option, Some, None, Result, Ok, Err, zero, suc, refl, sym, ap, subst, ◌∙◌, arith}
use Rattle.std.specs.Prelude.{slice_get, All, OnOk, OnErr}
use Rattle.std.specs.Option.{option_copied, option_map_or}
use Rattle.std.specs.Iterator.{YieldsFirstRef}
use Rattle.std.proofs.lemmas.List.{append-nil, drop_more}
use Rattle.std.proofs.lemmas.Option.{get_or_from_slice_get, slice_get-get_or, slice_get_within, same_Some, none-some}
use Rattle.std.proofs.lemmas.Slice.Zip.{all_zipped_more, AllZip-long}
use Rattle.string_interner.specs.Text.{Text, first}
use Rattle.string_interner.specs.Extend.{fresh}
use Rattle.string_interner.proofs.Lemmas.Interner.Extends.{fresh-append}
use Rattle.string_interner.proofs.Lemmas.Texts.First.{first_none}
use Rattle.string_interner.specs.NumberList.{NumberListContents}
use Rattle.string_column.specs.Column.{AreCodes, IsColumn, dictionary_of, rows_of}
use Rattle.string_column.proofs.Lemmas.AreNumbered.{slice_get-append}

-- the rows are those that their codes read
pub rows-are : (dictionary : List Text) (codes : List ℕ) (rows : List Text) → AreCodes dictionary codes rows → rows_of dictionary codes ≡ rows
rows-are dictionary [] [] are = refl
rows-are dictionary [] (row ∷ rows) are = absurd are
rows-are dictionary (code ∷ codes) [] are = absurd are
rows-are dictionary (code ∷ codes) (row ∷ rows) are = rw (get_or_from_slice_get dictionary code row [] are.0, rows-are dictionary codes rows are.1) refl

-- a code reads its row
pub row-at : (dictionary : List Text) (codes : List ℕ) (rows : List Text) (i code : ℕ) → AreCodes dictionary codes rows → slice_get codes i ≡ Some code
    → slice_get dictionary code ≡ slice_get rows i
row-at dictionary [] rows i code are is = absurd (none-some code is)
row-at dictionary (c ∷ codes) [] i code are is = absurd are
row-at dictionary (c ∷ codes) (row ∷ rows) zero code are is = rw (← same_Some c code is) are.0
row-at dictionary (c ∷ codes) (row ∷ rows) (suc i) code are is = row-at dictionary codes rows i code are.1 is

-- and is within the dictionary
pub code-within : (dictionary : List Text) (codes : List ℕ) (rows : List Text) (i code : ℕ) → AreCodes dictionary codes rows → slice_get codes i ≡ Some code → code < length dictionary
code-within dictionary [] rows i code are is = absurd (none-some code is)
code-within dictionary (c ∷ codes) [] i code are is = absurd are
code-within dictionary (c ∷ codes) (row ∷ rows) zero code are is = rw (← same_Some c code is) (slice_get_within dictionary c row are.0)
code-within dictionary (c ∷ codes) (row ∷ rows) (suc i) code are is = code-within dictionary codes rows i code are.1 is

-- all codes are
pub codes-within : (dictionary : List Text) (codes : List ℕ) (rows : List Text) → AreCodes dictionary codes rows → All (λ code. code < length dictionary) codes
codes-within dictionary codes rows are = λ k d inside. code-within dictionary codes rows k (get_or codes k d) are (slice_get-get_or codes k d inside)

-- there is no row where there is no code
pub no-row-at : (dictionary : List Text) (codes : List ℕ) (rows : List Text) (i : ℕ) → AreCodes dictionary codes rows → slice_get codes i ≡ None → slice_get rows i ≡ None
no-row-at dictionary [] [] i are is = refl
no-row-at dictionary [] (row ∷ rows) i are is = absurd are
no-row-at dictionary (c ∷ codes) [] i are is = absurd are
no-row-at dictionary (c ∷ codes) (row ∷ rows) zero are is = cc
no-row-at dictionary (c ∷ codes) (row ∷ rows) (suc i) are is = no-row-at dictionary codes rows i are.1 is

-- codes stay where the dictionary gets longer
pub codes-stay : (dictionary more : List Text) (codes : List ℕ) (rows : List Text) → AreCodes dictionary codes rows → AreCodes (dictionary ++ more) codes rows
codes-stay dictionary more [] [] are = tt
codes-stay dictionary more [] (row ∷ rows) are = absurd are
codes-stay dictionary more (c ∷ codes) [] are = absurd are
codes-stay dictionary more (c ∷ codes) (row ∷ rows) are = (slice_get-append dictionary more c row are.0, codes-stay dictionary more codes rows are.1)

-- codes of rows behind others are behind theirs
pub codes-append : (dictionary : List Text) (codes more : List ℕ) (rows rest : List Text) → AreCodes dictionary codes rows → AreCodes dictionary more rest → AreCodes dictionary (codes ++ more) (rows ++ rest)
codes-append dictionary [] more [] rest are too = too
codes-append dictionary [] more (row ∷ rows) rest are too = absurd are
codes-append dictionary (code ∷ codes) more [] rest are too = absurd are
codes-append dictionary (code ∷ codes) more (row ∷ rows) rest are too = (are.0, codes-append dictionary codes more rows rest are.1 too)

-- the dictionary of rows with one row more
pub dictionary-push : (rows : List Text) (row : Text) → dictionary_of (rows ++ row ∷ []) ≡ dictionary_of rows ++ fresh (dictionary_of rows) (row ∷ [])
dictionary-push rows row = fresh-append [] rows (row ∷ [])

-- one row more, with its code
pub column-push : (old new : List Text) (codes : List ℕ) (rows : List Text) (code : ℕ) (row : Text) → IsColumn old codes rows
    → slice_get new code ≡ Some row → new ≡ old ++ fresh old (row ∷ []) → IsColumn new (codes ++ code ∷ []) (rows ++ row ∷ [])
column-push old new codes rows code row is at pushed = record {
  codes_are = all_zipped_more (λ c r. slice_get new c ≡ Some r) codes rows code row (subst (λ entries. AreCodes entries codes rows) (sym pushed) (codes-stay old (fresh old (row ∷ [])) codes rows is.codes_are)) at;
  dictionary_is = pushed ∙ ap (λ entries. entries ++ fresh entries (row ∷ [])) is.dictionary_is ∙ sym (dictionary-push rows row);
}

-- the same of the rows that the codes read
pub column-read : (dictionary : List Text) (codes : List ℕ) (rows : List Text) → IsColumn dictionary codes rows
    → IsColumn dictionary codes (rows_of dictionary codes) × (rows_of dictionary codes ≡ rows)
column-read dictionary codes rows is =
    let read = rows-are dictionary codes rows is.codes_are in (subst (λ all. IsColumn dictionary codes all) (sym read) is, read)

-- the same of the rows that are read once a code was put last
pub column-pushed : (old new : List Text) (codes longer : List ℕ) (rows : List Text) (code : ℕ) (row : Text) → IsColumn old codes rows → longer ≡ codes ++ code ∷ []
    → slice_get new code ≡ Some row → new ≡ old ++ fresh old (row ∷ [])
    → IsColumn new longer (rows_of new longer) × (slice_get (dictionary_of (rows_of new longer)) code ≡ Some row) × (rows_of new longer ≡ rows ++ row ∷ [])
column-pushed old new codes longer rows code row is put at pushed =
    let more = column-push old new codes rows code row is at pushed in
    let read = column-read new longer (rows ++ row ∷ []) (subst (λ all. IsColumn new all (rows ++ row ∷ [])) (sym put) more) in
    (read.0, ap (λ entries. slice_get entries code) (sym read.0.dictionary_is) ∙ at, read.1)

-- a known row is not fresh
pub known-fresh : (dictionary : List Text) (code : ℕ) (row : Text) → slice_get dictionary code ≡ Some row → fresh dictionary (row ∷ []) ≡ []
known-fresh dictionary code row is = of (first dictionary row) refl
  where
    of : (o : Option ℕ) → first dictionary row ≡ o → option_map_or (λ _. []) o (row ∷ []) ≡ []
    of (Some i) e = refl
    of None e = absurd (first_none dictionary row e code row (slice_get_within dictionary code row is) (get_or_from_slice_get dictionary code row row is))

-- a row with a known code is put last
pub code-pushed : (dictionary : List Text) (codes longer : List ℕ) (rows : List Text) (code : ℕ) (row : Text) → IsColumn dictionary codes rows → longer ≡ codes ++ code ∷ [] → slice_get dictionary code ≡ Some row
    → IsColumn dictionary longer (rows_of dictionary longer) × (rows_of dictionary longer ≡ rows ++ row ∷ [])
code-pushed dictionary codes longer rows code row is put at =
    let all = column-pushed dictionary dictionary codes longer rows code row is put at (sym (append-nil dictionary) ∙ ap (λ more. dictionary ++ more) (sym (known-fresh dictionary code row at))) in (all.0, all.2)

-- or it is refused
pub code-outcome : {E : Type 0} (outcome : Result (Unit {0}) E) (dictionary : List Text) (old new : NumberListContents) (rows : List Text) (code : ℕ) → IsColumn dictionary old.items rows → code < length dictionary
    → OnOk outcome (new.items ≡ old.items ++ code ∷ []) → OnErr outcome (new ≡ old)
    → IsColumn dictionary new.items (rows_of dictionary new.items) × ((row : Text) → slice_get dictionary code ≡ Some row → OnOk outcome (rows_of dictionary new.items ≡ rows ++ row ∷ []))
code-outcome (Ok done) dictionary old new rows code is within ok err =
    ((code-pushed dictionary old.items new.items rows code (get_or dictionary code []) is ok (slice_get-get_or dictionary code [] within)).0, λ row at. (code-pushed dictionary old.items new.items rows code row is ok at).1)
code-outcome (Err error) dictionary old new rows code is within ok err =
    (subst (λ all. IsColumn dictionary all (rows_of dictionary all)) (sym (ap (λ codes. codes.items) err)) (column-read dictionary old.items rows is).0, λ row at. tt)

-- a code that is read at a row is that of the row's text
pub row-read : (dictionary : List Text) (codes : List ℕ) (read rows : List Text) (i code : ℕ) → IsColumn dictionary codes read → read ≡ rows → i < length rows → code ≡ get_or codes i 0
    → (row : Text) × (slice_get rows i ≡ Some row) × (slice_get dictionary code ≡ Some row) × (slice_get (dictionary_of rows) code ≡ Some row)
row-read dictionary codes read rows i code is same within at =
    let long = AllZip-long (λ c r. slice_get dictionary c ≡ Some r) codes read is.codes_are in
    let found : slice_get codes i ≡ Some code = slice_get-get_or codes i 0 (omega (arith, long, ap length same)) ∙ ap Some (sym at) in
    let row : slice_get rows i ≡ Some (get_or rows i []) = slice_get-get_or rows i [] within in
    let entry : slice_get dictionary code ≡ Some (get_or rows i []) = row-at dictionary codes read i code is.codes_are found ∙ ap (λ all. slice_get all i) same ∙ row in
    (get_or rows i [], row, entry, ap (λ entries. slice_get entries code) (sym (is.dictionary_is ∙ ap dictionary_of same)) ∙ entry)

-- a row that is read is the first of the rows from it on
pub first-ahead : (rows : List Text) (i : ℕ) (row : Option (Bor Text)) → i < length rows → option_copied row ≡ slice_get rows i → YieldsFirstRef (λ ahead. ahead) (drop i rows) row (drop (i + 1) rows)
first-ahead rows i None within is = absurd (none-some (get_or rows i []) (is ∙ slice_get-get_or rows i [] within))
first-ahead rows i (Some row) within is = drop_more rows i row.now within ∙ ap (λ text. text ∷ drop (i + 1) rows) (get_or_from_slice_get rows i row.now row.now (sym is))
