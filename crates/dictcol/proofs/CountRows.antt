-- The rows of counts: listing them, and putting them in order.
use Rattle.std.proofs.Common.{◌≡◌, ℕ, ◌+◌, ◌<◌, min, Bool, true, false, cond, List, [], ◌∷◌, ◌++◌, length, take, drop, map, get_or, Option, Some, None, Result, Ok, Err, Bor, ◌==◌, nat_cmp, is_lt, Ordering, Less, Equal, Greater, refl, sym, ap, ap₂, subst, ◌∙◌, arith}
use Rattle.std.specs.Prelude.{nat_le, nat_lt, count_by, IfSome, OnOk}
use Rattle.std.specs.Io.KnownBytes.{Appends}
use Rattle.std.specs.List.{filter, flat_map, zip}
use Rattle.std.specs.List.Sorted.{IsPermutation, IsSortedBy, IsStableBy, ties}
use Rattle.std.specs.Str.{bytes_eq}
use Rattle.std.proofs.lemmas.List.{append-nil, append_assoc, drop_more, get_or-map, take_min, take-map, length-append, length-map, map-append}
use Rattle.std.proofs.KnownBytes.{Appends-trans}
use Rattle.std.proofs.lemmas.Grind.{flat_map-append}
use Rattle.std.proofs.lemmas.List.Sorted.{IsPermutation-map}
use Rattle.std.proofs.lemmas.List.Sums.{length-filter}
use Rattle.string_interner.specs.Text.{Text}
use Rattle.string_column.specs.Column.{counts_of, dictionary_of}
use Rattle.dictcol.specs.Counts.{AreRows, AreSorted, CountsContents, HasCounted, IsCountsText, count_line, counted, is_more, is_often, row_of}
use Rattle.dictcol.specs.declared.fault.Fault.{Fault}
use Rattle.dictcol.specs.declared.command.Rows.{Rows}
use Rattle.dictcol.specs.Lines.{lines_of}
use Rattle.dictcol.specs.Writes.{Writes}

-- the first pair is the more frequent one
abbrev pub is_more_of : ℕ × Bor Text → ℕ × Bor Text → Bool
is_more_of a b = nat_lt b.0 a.0

one-passes : (test : ℕ × Text → Bool) (pair : ℕ × Bor Text) (rows : List (ℕ × Text)) (pairs : List (ℕ × Bor Text)) (b : Bool) → test (row_of pair) ≡ b → rows ≡ map row_of pairs
    → cond (test (row_of pair)) (row_of pair ∷ rows) rows ≡ map row_of (cond (test (row_of pair)) (pair ∷ pairs) pairs)
one-passes test pair rows pairs true passes same = rw passes (ap (λ more. row_of pair ∷ more) same)
one-passes test pair rows pairs false fails same = rw fails same

-- those that pass, of what each becomes
filter-rows : (test : ℕ × Text → Bool) (pairs : List (ℕ × Bor Text)) → filter test (map row_of pairs) ≡ map row_of (filter (λ pair. test (row_of pair)) pairs)
filter-rows test [] = refl
filter-rows test (pair ∷ pairs) = one-passes test pair (filter test (map row_of pairs)) (filter (λ p. test (row_of p)) pairs) (test (row_of pair)) refl (filter-rows test pairs)

-- pairs that are sorted are sorted rows
pub sorted-rows : (old new : List (ℕ × Bor Text)) → IsPermutation old new → IsSortedBy is_more_of new → IsStableBy is_more_of old new → AreSorted (map row_of old) (map row_of new)
sorted-rows old new same ordered stable = record {
  same = IsPermutation-map row_of old new same;
  ordered = λ k d low inside.
      let long = length-map new row_of in
      let none : ℕ × Bor Text = (d.0, record { ref_ptr = (0, 0); now = d.1 }) in
      let first = get_or-map row_of new k none d (omega (arith, long)) in
      let second = get_or-map row_of new (k + 1) none d (omega (arith, long)) in
      ap (λ row. is_more row (get_or (map row_of new) k d)) second ∙ ap (λ row. is_more (row_of (get_or new (k + 1) none)) row) first ∙ ordered k none (omega arith) (omega (arith, long));
  stable = λ row.
      let none : ℕ × Bor Text = (row.0, record { ref_ptr = (0, 0); now = row.1 }) in
      filter-rows (ties is_more row) new ∙ ap (map row_of) (stable none) ∙ sym (filter-rows (ties is_more row) old);
}

-- the rows that are counted are the distinct lines with their counts
pub counted-rows : (lines : List Text) → zip (counts_of lines) (dictionary_of lines) ≡ counted lines
counted-rows lines = each (dictionary_of lines)
  where
    each : (entries : List Text) → zip (map (λ entry. count_by (λ line. bytes_eq line entry) lines) entries) entries ≡ map (λ entry. (count_by (λ line. bytes_eq line entry) lines, entry)) entries
    each [] = refl
    each (entry ∷ entries) = ap (λ rows. (count_by (λ line. bytes_eq line entry) lines, entry) ∷ rows) (each entries)

-- how the counts of pairs compare
pub is_more-compared : (a b : ℕ × Bor Text) (r : Ordering) → r ≡ nat_cmp b.0 a.0 → is_lt r ≡ is_more_of a b
is_more-compared a b r is = ap is_lt is ∙ of (nat_lt b.0 a.0) (b.0 == a.0)
  where
    of : (less same : Bool) → is_lt (cond less Less (cond same Equal Greater)) ≡ less
    of true same = refl
    of false true = refl
    of false false = refl

-- the first rows of sorted pairs
pub first-rows : (n : ℕ) (pairs : List (ℕ × Bor Text)) → map row_of (take (min n (length pairs)) pairs) ≡ take n (map row_of pairs)
first-rows n pairs = ap (map row_of) (take_min n pairs) ∙ sym (take-map row_of n pairs)

-- How many rows pass is how many counts do.
pub rows-often : (at_least : ℕ) (counts : List ℕ) (texts : List Text) → length counts ≡ length texts → length (filter (is_often at_least) (zip counts texts)) ≡ count_by (nat_le at_least) counts
rows-often at_least counts texts same = each counts texts same ∙ length-filter (nat_le at_least) counts
  where
    one : (row : ℕ × Text) (rows : List (ℕ × Text)) (count : ℕ) (counts : List ℕ) (b : Bool) → length rows ≡ length counts → length (cond b (row ∷ rows) rows) ≡ length (cond b (count ∷ counts) counts)
    one row rows count counts true same = omega (arith, same)
    one row rows count counts false same = same

    each : (counts : List ℕ) (texts : List Text) → length counts ≡ length texts → length (filter (is_often at_least) (zip counts texts)) ≡ length (filter (nat_le at_least) counts)
    each [] texts same = refl
    each (count ∷ counts) [] same = absurd (omega (arith, same))
    each (count ∷ counts) (text ∷ texts) same =
        one (count, text) (filter (is_often at_least) (zip counts texts)) count (filter (nat_le at_least) counts) (nat_le at_least count) (each counts texts (omega (arith, same)))

-- The rows done are, with those ahead that pass, all that pass. The next one is `(count, text)`.
module _ (test : ℕ × Text → Bool) (done : List (ℕ × Text)) (counts : List ℕ) (all : List (ℕ × Text)) (ahead rest : List Text) (n count : ℕ) (text : Text)
    (so_far : done ++ filter test (zip (drop n counts) ahead) ≡ all) (first : ahead ≡ text ∷ rest) (within : n < length counts) (at : count ≡ get_or counts n 0) where
  abbrev behind : List (ℕ × Text)
  behind = filter test (zip (drop (n + 1) counts) rest)

  next : done ++ cond (test (count, text)) ((count, text) ∷ behind) behind ≡ all
  next = ap (λ k. done ++ filter test ((k, text) ∷ zip (drop (n + 1) counts) rest)) at
      ∙ ap (λ rows. done ++ filter test rows) (sym (ap₂ zip (drop_more counts n 0 within) first)) ∙ so_far

  -- it passes, and is done
  pub row-done : test (count, text) ≡ true → (done ++ (count, text) ∷ []) ++ behind ≡ all
  row-done passes = append_assoc done ((count, text) ∷ []) behind ∙ sym (ap (λ b. done ++ cond b ((count, text) ∷ behind) behind) passes) ∙ next

  -- it does not
  pub row-left : test (count, text) ≡ false → done ++ behind ≡ all
  row-left fails = sym (ap (λ b. done ++ cond b ((count, text) ∷ behind) behind) fails) ∙ next

  -- there is one more than are done
  pub row-fits : test (count, text) ≡ true → length done < length all
  row-fits passes =
      let whole = ap length (row-done passes) in let a = length-append (done ++ (count, text) ∷ []) behind in let b = length-append done ((count, text) ∷ []) in omega (arith, whole, a, b)

-- one more pair is listed
pub row-listed : (test : ℕ × Text → Bool) (pairs new : List (ℕ × Bor Text)) (counts : List ℕ) (all : List (ℕ × Text)) (ahead rest : List Text) (n count : ℕ) (text : Bor Text)
    → map row_of pairs ++ filter test (zip (drop n counts) ahead) ≡ all → ahead ≡ text.now ∷ rest → n < length counts → count ≡ get_or counts n 0 → test (count, text.now) ≡ true
    → new ≡ pairs ++ (count, text) ∷ [] → map row_of new ++ filter test (zip (drop (n + 1) counts) rest) ≡ all
row-listed test pairs new counts all ahead rest n count text so_far first within at passes pushed =
    let behind = filter test (zip (drop (n + 1) counts) rest) in
    ap (λ ps. map row_of ps ++ behind) pushed
    ∙ ap (λ rows. rows ++ behind) (map-append row_of pairs ((count, text) ∷ []))
    ∙ row-done test (map row_of pairs) counts all ahead rest n count text.now so_far first within at passes

zip-none : (counts : List ℕ) (ahead : List Text) → ahead ≡ [] → zip counts ahead ≡ []
zip-none [] ahead none = refl
zip-none (count ∷ counts) ahead none = ap (λ texts. zip (count ∷ counts) texts) none

-- all are done
pub rows-done : (test : ℕ × Text → Bool) (done : List (ℕ × Text)) (counts : List ℕ) (all : List (ℕ × Text)) (ahead : List Text) (n : ℕ) → done ++ filter test (zip (drop n counts) ahead) ≡ all → ahead ≡ [] → done ≡ all
rows-done test done counts all ahead n so_far none = sym (append-nil done) ∙ ap (λ rows. done ++ filter test rows) (sym (zip-none (drop n counts) ahead none)) ∙ so_far

-- one more row is written
pub row-written : (old mid new : Option Text) (done : List (ℕ × Text)) (row : ℕ × Text) → Appends old mid (flat_map count_line done) → Appends mid new (count_line row) → Appends old new (flat_map count_line (done ++ row ∷ []))
row-written old mid new done row before one =
    subst (Appends old new) (sym (flat_map-append count_line done (row ∷ []) ∙ ap (λ text. flat_map count_line done ++ text) (append-nil (count_line row)))) (Appends-trans old mid new (flat_map count_line done) (count_line row) before one)

-- some rows were written, which are all that pass with those ahead
abbrev pub WritesTexts : (ℕ × Text → Bool) → Option Text → Option Text → List ℕ → List (ℕ × Text) → ℕ → List Text → Type 0
WritesTexts test old new counts all n ahead =
    (done : List (ℕ × Text)) × Appends old new (flat_map count_line done) × (done ++ filter test (zip (drop n counts) ahead) ≡ all) × (n + length ahead ≡ length counts)

-- the next one passes and is written
pub text-written : (test : ℕ × Text → Bool) (old mid new : Option Text) (counts : List ℕ) (all : List (ℕ × Text)) (n : ℕ) (ahead rest : List Text) (count : ℕ) (text : Text) → WritesTexts test old mid counts all n ahead
    → ahead ≡ text ∷ rest → count ≡ get_or counts n 0 → test (count, text) ≡ true → Appends mid new (count_line (count, text)) → WritesTexts test old new counts all (n + 1) rest
text-written test old mid new counts all n ahead rest count text before first at passes one = (
  before.0 ++ (count, text) ∷ [],
  row-written old mid new before.0 (count, text) before.1 one,
  row-done test before.0 counts all ahead rest n count text before.2 first (omega (arith, ap length first, before.3)) at passes,
  omega (arith, ap length first, before.3),
)

-- it does not pass
pub text-left : (test : ℕ × Text → Bool) (old new : Option Text) (counts : List ℕ) (all : List (ℕ × Text)) (n : ℕ) (ahead rest : List Text) (count : ℕ) (text : Text) → WritesTexts test old new counts all n ahead
    → ahead ≡ text ∷ rest → count ≡ get_or counts n 0 → test (count, text) ≡ false → WritesTexts test old new counts all (n + 1) rest
text-left test old new counts all n ahead rest count text before first at fails = (
  before.0,
  before.1,
  row-left test before.0 counts all ahead rest n count text before.2 first (omega (arith, ap length first, before.3)) at fails,
  omega (arith, ap length first, before.3),
)

-- the rows that are asked for are written
pub rows-written : (result : Result (Unit {0}) Fault) (asked : Rows) (rows : List (ℕ × Text)) (old new : Option Text) (lines : List Text) → AreRows asked lines rows
    → OnOk result (Appends old new (flat_map count_line rows)) → OnOk result (Writes (IsCountsText asked lines) old new)
rows-written (Ok done) asked rows old new lines are appends = (flat_map count_line rows, (rows, are, refl), appends)
rows-written (Err fault) asked rows old new lines are appends = tt

-- the rows of what was counted, once they are written
pub counts-written : (input : Option Text) (contents : CountsContents) (result : Result (Unit {0}) Fault) (rows : List (ℕ × Text)) (Written : List Text → Type 0)
    → rows ≡ zip contents.counts contents.entries → IfSome input (λ all. HasCounted contents (lines_of all)) → ((lines : List Text) → rows ≡ counted lines → OnOk result (Written lines))
    → OnOk result (IfSome input (λ all. Written (lines_of all)))
counts-written None contents (Ok done) rows Written are has written = tt
counts-written None contents (Err fault) rows Written are has written = tt
counts-written (Some all) contents result rows Written are has written = written (lines_of all) (are ∙ ap₂ zip has.counts_are has.entries_are ∙ counted-rows (lines_of all))
