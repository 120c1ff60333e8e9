-- The rows that codes read: one code more, and the text of rows with one more.
use Rattle.std.proofs.Common.{◌≡◌, ◌<◌, ◌≤◌, ℕ, true, ◌+◌, nat_lt, List, [], ◌∷◌, ◌++◌, length, take, get_or, Option, Some, None, Bor, option_map, option_and_then, refl, sym, ap, ap₂, ◌∙◌, arith}
use Rattle.std.specs.List.{join_with_byte}
use Rattle.std.proofs.lemmas.List.{append_assoc, map-append, take_more, get_or-map, length-map, length-take-le}
use Rattle.std.proofs.lemmas.Bool.{lt-ltb}
use Rattle.std.proofs.lemmas.Option.{slice_get_past, slice_get-get_or}
use Rattle.serde_json.specs.Data.{Data, Items, item}
use Rattle.serde_json.specs.Find.{as_number, as_u64}
use Rattle.string_interner.specs.Text.{Text}
use Rattle.string_interner.specs.Extend.{texts_of}
use Rattle.string_column.specs.Column.{rows_of}
use Rattle.dictcol.specs.File.{indexed_texts}
use Rattle.dictcol.specs.Lines.{newline_if}

-- one code more reads one row more
pub rows-push : (dictionary : List Text) (codes : List ℕ) (code : ℕ) → rows_of dictionary (codes ++ code ∷ []) ≡ rows_of dictionary codes ++ get_or dictionary code [] ∷ []
rows-push dictionary codes code = map-append (λ c. get_or dictionary c []) codes (code ∷ [])

onto : (rows : List Text) (row : Text) (o : Option (List Text)) → option_map (λ more. rows ++ more) (option_map (λ texts. row ∷ texts) o) ≡ option_map (λ more. (rows ++ row ∷ []) ++ more) o
onto rows row None = refl
onto rows row (Some more) = ap (λ x. Some x) (sym (append_assoc rows (row ∷ []) more))

module _ (dictionary : List Text) (all ahead rest : Items) (value : Data) (codes : List ℕ)
    (so_far : indexed_texts dictionary all ≡ option_map (λ more. rows_of dictionary codes ++ more) (indexed_texts dictionary ahead)) (next : ahead ≡ item value rest)
    (index : ℕ) (is : option_and_then as_u64 (as_number value) ≡ Some index) where
  -- a number that is no index
  pub no-entry : length dictionary ≤ index → indexed_texts dictionary all ≡ None
  no-entry outside = so_far ∙ rw (next, is, slice_get_past dictionary index outside) refl

  -- one that is
  pub one-entry : (new : List ℕ) → index < length dictionary → new ≡ codes ++ index ∷ []
      → indexed_texts dictionary all ≡ option_map (λ more. rows_of dictionary new ++ more) (indexed_texts dictionary rest)
  one-entry new within pushed =
      so_far ∙ rw (next, is, slice_get-get_or dictionary index [] within, pushed, rows-push dictionary codes index) (onto (rows_of dictionary codes) (get_or dictionary index []) (indexed_texts dictionary rest))

-- the text of rows with one more, which stands behind a newline unless it is the first
pub join-push : (rows : List Text) (row : Text) → join_with_byte 10 (rows ++ row ∷ []) ≡ join_with_byte 10 rows ++ (newline_if (nat_lt 0 (length rows)) ++ row)
join-push [] row = refl
join-push (first ∷ []) row = refl
join-push (first ∷ second ∷ rows) row =
    let further : nat_lt 0 (length (second ∷ rows)) ≡ true = lt-ltb 0 (length (second ∷ rows)) (omega arith) in
    let longer : nat_lt 0 (length (first ∷ second ∷ rows)) ≡ true = lt-ltb 0 (length (first ∷ second ∷ rows)) (omega arith) in
    ap (λ rest. first ++ 10 ∷ rest) (join-push (second ∷ rows) row ∙ ap (λ is. join_with_byte 10 (second ∷ rows) ++ (newline_if is ++ row)) further)
    ∙ sym (append_assoc first (10 ∷ join_with_byte 10 (second ∷ rows)) (newline_if true ++ row))
    ∙ ap (λ is. join_with_byte 10 (first ∷ second ∷ rows) ++ (newline_if is ++ row)) (sym longer)

-- the rows of one code more, written behind those before
pub rows-more : (texts : List (Bor Text)) (codes : List ℕ) (i code : ℕ) (none : Bor Text) → i < length codes → code ≡ get_or codes i 0 → code < length texts
    → join_with_byte 10 (rows_of (texts_of texts) (take (i + 1) codes))
    ≡ join_with_byte 10 (rows_of (texts_of texts) (take i codes)) ++ (newline_if (nat_lt 0 i) ++ (get_or texts code none).now)
rows-more texts codes i code none inside is within =
    let entries = texts_of texts in
    let rows = rows_of entries (take i codes) in
    let row : get_or entries (get_or codes i 0) [] ≡ (get_or texts code none).now = ap (λ c. get_or entries c []) (sym is) ∙ get_or-map (λ text. text.now) texts code none [] within in
    let long : length rows ≡ i = length-map (take i codes) (λ c. get_or entries c []) ∙ length-take-le i codes (omega (arith, inside)) in
    ap (λ cs. join_with_byte 10 (rows_of entries cs)) (take_more codes i 0 inside) ∙ ap (join_with_byte 10) (rows-push entries (take i codes) (get_or codes i 0))
    ∙ join-push rows (get_or entries (get_or codes i 0) []) ∙ ap₂ (λ n line. join_with_byte 10 rows ++ (newline_if (nat_lt 0 n) ++ line)) long row
