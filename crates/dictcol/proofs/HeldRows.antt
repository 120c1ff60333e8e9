-- The rows that plain columns hold: what the bytes of numbers read, those of a part of the rows, and the text of a part and of what
-- is behind it.
use Rattle.std.proofs.Common.{◌≡◌, ℕ, suc, ◌-◌, ◌*◌, ◌^◌, ◌<◌, ◌≤◌, eqb, Bool, true, false, ◌&&◌, List, [], ◌∷◌, ◌++◌, length, take, drop, refl, sym, ap, ap₂, subst, ◌∙◌, arith}
use Rattle.std.specs.Prelude.{All, slice_range}
use Rattle.std.specs.Int.{w32, from_le_bytes}
use Rattle.std.specs.List.{flat_map}
use Rattle.std.proofs.Math.Seq.{drop-length}
use Rattle.std.proofs.lemmas.Bool.{eq-eqb, ne_eqb}
use Rattle.std.proofs.lemmas.Grind.{flat_map-append}
use Rattle.std.proofs.lemmas.List.{append-nil, drop-drop, drop-map, drop_at, length-append, length-drop, length-map, length-take, take-append-drop, take-map, take_at}
use Rattle.std.proofs.lemmas.List.Elements.{All-drop, All-take}
use Rattle.std.proofs.lemmas.Nat.{from_le_bytes-to_le_bytes_4}
use Rattle.string_interner.specs.Text.{Text}
use Rattle.string_column.specs.Column.{rows_of}
use Rattle.dictcol.specs.Plain.{code_bytes, codes_in, line_bounds, npy_header, part_text, plain_text, rows_in, AreNumbers, AreRows, HoldPlain, IsLinesFile, IsNpy}
use Rattle.dictcol.proofs.PlainColumns.{file-lines, header-long, numbers-long, plain-both, plain-held, rows-held}
use Rattle.dictcol.proofs.TextLines.{more-rest}

-- ---- the numbers that bytes are

pub codes-read : (codes : List ℕ) → All (λ n. n < 2 ^ 32) codes → codes_in (flat_map code_bytes codes) ≡ codes
codes-read [] small = refl
codes-read (code ∷ codes) small =
    ap₂ (λ n ns. n ∷ ns) (from_le_bytes-to_le_bytes_4 code (small 0 0 (omega arith))) (codes-read codes (λ i d inside. small (suc i) d (omega (arith, inside))))

-- the next number of bytes that are enough for one
pub codes-next : (bytes : Text) → 4 ≤ length bytes → codes_in bytes ≡ from_le_bytes w32 (take 4 bytes) ∷ codes_in (drop 4 bytes)
codes-next (a ∷ b ∷ c ∷ d ∷ bytes) enough = refl
codes-next [] enough = absurd (omega (arith, enough))
codes-next (a ∷ []) enough = absurd (omega (arith, enough))
codes-next (a ∷ b ∷ []) enough = absurd (omega (arith, enough))
codes-next (a ∷ b ∷ c ∷ []) enough = absurd (omega (arith, enough))

-- fewer bytes are no number
pub codes-end : (bytes : Text) → length bytes < 4 → codes_in bytes ≡ []
codes-end [] few = refl
codes-end (a ∷ []) few = refl
codes-end (a ∷ b ∷ []) few = refl
codes-end (a ∷ b ∷ c ∷ []) few = refl
codes-end (a ∷ b ∷ c ∷ d ∷ bytes) few = absurd (omega (arith, few))

-- the rows are those that the file and the bytes say
pub rows-read : (file : Text) (bounds : List ℕ) (bytes : Text) (rows : List Text) → AreRows file bounds bytes rows → rows ≡ rows_in file bytes
rows-read file bounds bytes rows are =
    are.rows_are ∙ ap₂ rows_of (sym (file-lines are.lines file are.lines_are)) (sym (codes-read are.codes_are are.numbers_are.each_fits) ∙ ap codes_in (sym are.numbers_are.bytes_are))

-- the rows of two files that were read
module _ (lines : List Text) (codes bounds : List ℕ) (dictionary numbers bytes : Text) (is : IsLinesFile lines dictionary) (places : bounds ≡ line_bounds 0 lines)
    (are : AreNumbers (length lines) codes bytes) (npy : IsNpy codes numbers) where
  header : length (npy_header (length codes)) ≡ 128
  header = header-long (length codes) npy.count_fits

  behind : bytes ≡ drop 128 numbers
  behind = are.bytes_are ∙ sym (ap (drop 128) npy.bytes ∙ drop_at (npy_header (length codes)) (flat_map code_bytes codes) 128 header)

  of-codes : AreRows dictionary bounds (drop 128 numbers) (rows_of lines codes)
  of-codes = rows-held lines codes bounds dictionary (drop 128 numbers) is places (subst (AreNumbers (length lines) codes) behind are)

  same-rows : rows_of lines codes ≡ rows_in dictionary (drop 128 numbers)
  same-rows = rows-read dictionary bounds (drop 128 numbers) (rows_of lines codes) of-codes

  pub files-held : (128 ≤ length numbers) × AreRows dictionary bounds (drop 128 numbers) (rows_in dictionary (drop 128 numbers))
  files-held = (
    omega (arith, ap length npy.bytes, length-append (npy_header (length codes)) (flat_map code_bytes codes), header),
    subst (AreRows dictionary bounds (drop 128 numbers)) same-rows of-codes,
  )

  pub text-held : (is_cut : Bool) → HoldPlain dictionary numbers is_cut (plain_text (rows_in dictionary (drop 128 numbers)) is_cut)
  text-held is_cut = subst (λ rows. HoldPlain dictionary numbers is_cut (plain_text rows is_cut)) same-rows (plain-held lines codes dictionary numbers is_cut is npy are.within)

-- each takes four bytes
pub rows-long : (file : Text) (bounds : List ℕ) (bytes : Text) (rows : List Text) → AreRows file bounds bytes rows → length bytes ≡ 4 * length rows
rows-long file bounds bytes rows are =
    let many = ap length are.rows_are ∙ length-map are.codes_are _ in
    let long = ap length are.numbers_are.bytes_are ∙ numbers-long are.codes_are in omega (arith, many, long)

-- ---- a part of the rows

front-long : (k : ℕ) (codes : List ℕ) → k ≤ length codes → length (flat_map code_bytes (take k codes)) ≡ 4 * k
front-long k codes within = omega (arith, numbers-long (take k codes), length-take k codes, within)

both-parts : (k : ℕ) (codes : List ℕ) → flat_map code_bytes codes ≡ flat_map code_bytes (take k codes) ++ flat_map code_bytes (drop k codes)
both-parts k codes = ap (flat_map code_bytes) (sym (take-append-drop k codes)) ∙ flat_map-append code_bytes (take k codes) (drop k codes)

bytes-drop : (k : ℕ) (codes : List ℕ) → k ≤ length codes → drop (4 * k) (flat_map code_bytes codes) ≡ flat_map code_bytes (drop k codes)
bytes-drop k codes within =
    ap (drop (4 * k)) (both-parts k codes) ∙ drop_at (flat_map code_bytes (take k codes)) (flat_map code_bytes (drop k codes)) (4 * k) (front-long k codes within)

bytes-take : (k : ℕ) (codes : List ℕ) → k ≤ length codes → take (4 * k) (flat_map code_bytes codes) ≡ flat_map code_bytes (take k codes)
bytes-take k codes within =
    ap (take (4 * k)) (both-parts k codes) ∙ take_at (flat_map code_bytes (take k codes)) (flat_map code_bytes (drop k codes)) (4 * k) (front-long k codes within)

-- the rows from one on before another one are those of their part of the bytes
pub rows-part : (file : Text) (bounds : List ℕ) (bytes : Text) (rows : List Text) (start end : ℕ) → AreRows file bounds bytes rows → start ≤ end → end ≤ length rows
    → AreRows file bounds (slice_range bytes (4 * start) (4 * end)) (slice_range rows start end)
rows-part file bounds bytes rows start end are ordered within =
    let codes = are.codes_are in
    let count = end - start in
    let many : length rows ≡ length codes = ap length are.rows_are ∙ length-map codes _ in
    let rest : count ≤ length (drop start codes) = omega (arith, length-drop start codes, many, within) in
    let four : 4 * end - 4 * start ≡ 4 * count = omega (arith, ordered) in record {
      lines = are.lines;
      lines_are = are.lines_are;
      bounds_are = are.bounds_are;
      codes_are = slice_range codes start end;
      numbers_are = record {
        bytes_are = ap₂ (λ n bs. take n (drop (4 * start) bs)) four are.numbers_are.bytes_are
            ∙ ap (take (4 * count)) (bytes-drop start codes (omega (arith, many, within, ordered))) ∙ bytes-take count (drop start codes) rest;
        each_fits = All-take (λ n. n < 2 ^ 32) count (drop start codes) (All-drop (λ n. n < 2 ^ 32) start codes are.numbers_are.each_fits);
        within = All-take (λ n. n < length are.lines) count (drop start codes) (All-drop (λ n. n < length are.lines) start codes are.numbers_are.within);
      };
      rows_are = ap (λ rs. take count (drop start rs)) are.rows_are ∙ ap (take count) (drop-map _ start codes) ∙ take-map _ count (drop start codes);
    }

-- ---- the text of a part

no-rows : (is_cut : Bool) → plain_text [] is_cut ≡ []
no-rows true = refl
no-rows false = refl

and-true : (b : Bool) → (b && true) ≡ b
and-true true = refl
and-true false = refl

and-false : (b : Bool) → (b && false) ≡ false
and-false true = refl
and-false false = refl

-- the text of a part, and of the rows behind it
pub part-behind : (rows : List Text) (is_cut : Bool) (start end : ℕ) → start ≤ end → end ≤ length rows
    → plain_text (drop start rows) is_cut ≡ part_text rows is_cut start end ++ plain_text (drop end rows) is_cut
part-behind rows is_cut start end ordered within = of (drop end rows) refl
  where
    part : List Text
    part = slice_range rows start end

    whole : drop start rows ≡ part ++ drop end rows
    whole =
        sym (take-append-drop (end - start) (drop start rows))
        ∙ ap (λ more. part ++ more) (drop-drop (end - start) start rows ∙ ap (λ k. drop k rows) (omega (arith, ordered)))

    of : (more : List Text) → drop end rows ≡ more → plain_text (drop start rows) is_cut ≡ part_text rows is_cut start end ++ plain_text (drop end rows) is_cut
    of [] none =
        let last : eqb end (length rows) ≡ true = eq-eqb end (length rows) (omega (arith, ap length none, length-drop end rows, within)) in
        ap (λ rs. plain_text rs is_cut) (whole ∙ ap (λ more. part ++ more) none ∙ append-nil part) ∙ ap (plain_text part) (sym (and-true is_cut) ∙ ap (λ t. is_cut && t) (sym last))
        ∙ sym (append-nil (part_text rows is_cut start end))
        ∙ ap (λ text. part_text rows is_cut start end ++ text) (sym (ap (λ rs. plain_text rs is_cut) none ∙ no-rows is_cut))
    of (row ∷ more) some =
        let inner : eqb end (length rows) ≡ false = ne_eqb end (length rows) (λ e. absurd (omega (arith, ap length some, length-drop end rows, e))) in
        ap (λ rs. plain_text rs is_cut) (whole ∙ ap (λ more. part ++ more) some) ∙ plain-both part row more is_cut ∙ more-rest part [] (plain_text (row ∷ more) is_cut)
        ∙ ap₂ (λ a b. a ++ b) (ap (plain_text part) (sym (ap (λ t. is_cut && t) inner ∙ and-false is_cut))) (ap (λ rs. plain_text rs is_cut) (sym some))

-- all rows are a part
pub whole-part : (rows : List Text) (is_cut : Bool) → part_text rows is_cut 0 (length rows) ≡ plain_text rows is_cut
whole-part rows is_cut =
    let rest : plain_text (drop (length rows) rows) is_cut ≡ [] = ap (λ rs. plain_text rs is_cut) (drop-length rows) ∙ no-rows is_cut in
    sym (part-behind rows is_cut 0 (length rows) (omega arith) (omega arith) ∙ ap (λ text. part_text rows is_cut 0 (length rows) ++ text) rest ∙ append-nil (part_text rows is_cut 0 (length rows)))
