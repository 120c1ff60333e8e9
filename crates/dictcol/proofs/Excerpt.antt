-- An excerpt of the rows of a column: what it holds with one line more, the line with a code, and the text of its rows.
use Rattle.std.proofs.Common.{◌≡◌, ◌≢◌, ℕ, zero, suc, ◌+◌, ◌-◌, ◌<◌, ◌≤◌, true, false, ltb, List, [], ◌∷◌, ◌++◌, length, take, drop, min, max, get_or, Some, sym, ap, ap₂, subst, ◌∙◌, arith, inl, inr}
use Rattle.std.specs.Prelude.{All, slice_get, slice_range}
use Rattle.std.specs.List.{Contains, AllPairs, drop-map, flat_map, take-map}
use Rattle.std.specs.List.Sorted.{IsNonDecreasingBy, IsPartitionPoint, IsStrictlyIncreasing}
use Rattle.std.proofs.lemmas.List.{append-nil, append_assoc, drop_all, get_or-drop, get_or-map, get_or-take, length-drop, length-map, length-take-le, length_push, take_all, take_more}
use Rattle.std.proofs.lemmas.List.Elements.{All-push}
use Rattle.std.proofs.lemmas.List.Kept.{AllPairs-from_increasing}
use Rattle.std.proofs.lemmas.Bool.{cases_lt}
use Rattle.std.proofs.lemmas.Option.{get_or_from_slice_get, slice_get-get_or, slice_get_within}
use Rattle.std.proofs.Math.ListN.{get_or-append}
use Rattle.std.proofs.Math.Seq.{get_or-append_seam, take-nil}
use Rattle.string_interner.specs.Text.{Text}
use Rattle.string_column.specs.Column.{rows_of}
use Rattle.string_column.proofs.Lemmas.AreNumbered.{ascend-sorted, parted-at}
use Rattle.dictcol.specs.Excerpt.{AreDistinct, HasLooked, HoldsRows}
use Rattle.dictcol.specs.Lines.{ended_text, text_of_ended}
use Rattle.dictcol.specs.Plain.{line_bounds}
use Rattle.dictcol.specs.declared.plain.excerpt.Excerpt.{Excerpt}
use Rattle.dictcol.proofs.LineBounds.{IsBetween, bounds-long, bounds-push, ended-between}
use Rattle.dictcol.proofs.PlainColumns.{rows-longer}
use Rattle.dictcol.proofs.Rows.{rows-push}
use Rattle.dictcol.proofs.TextLines.{ended-push}

-- one of the codes is one of the distinct ones
pub code-listed : (codes numbers : List ℕ) → AreDistinct codes numbers → (i d : ℕ) → i < length codes → Contains numbers (get_or codes i d)
code-listed codes numbers distinct i d inside =
    (distinct.same (get_or codes i d)).0 (i, inside, get_or_from_slice_get codes i (get_or codes i d) (get_or codes i d) (slice_get-get_or codes i d inside))

-- one code more is below a limit
pub within-more : (codes : List ℕ) (i code limit : ℕ) → All (λ c. c < limit) (take i codes) → i < length codes → code ≡ get_or codes i code → code < limit → All (λ c. c < limit) (take (i + 1) codes)
within-more codes i code limit so_far inside is below =
    subst (All (λ c. c < limit)) (sym (take_more codes i code inside)) (All-push (λ c. c < limit) (take i codes) (get_or codes i code) so_far (omega (arith, below, is)))

-- the index of a number among some that ascend is the first where no number is below it
pub numbers-rise : (numbers : List ℕ) → IsStrictlyIncreasing numbers → IsNonDecreasingBy (λ n. n) numbers
numbers-rise numbers up = ascend-sorted (λ n. n) numbers (AllPairs-from_increasing numbers up)

pub place-found : (numbers : List ℕ) (number place : ℕ) → IsStrictlyIncreasing numbers → Contains numbers number → IsPartitionPoint (λ n. ltb n number ≡ true) (λ n. ltb n number ≡ false) numbers place
    → slice_get numbers place ≡ Some number
place-found numbers number place up listed point =
    let at = slice_get-get_or numbers listed.0 number listed.1 ∙ ap Some listed.2 in
    parted-at (λ n. n) numbers number listed.0 place (AllPairs-from_increasing numbers up) at point

-- ---- the rows that there are

-- rows beyond the last one change nothing
pub range-there : {X : Type 0} (rows : List X) (count start end begin stop : ℕ) → length rows ≡ count → begin ≡ min start count → stop ≡ max (min end count) begin → slice_range rows begin stop ≡ slice_range rows start end
range-there rows count start end begin stop long begin-is stop-is = elim (cases_lt count start) [
  | inl beyond ↦ (let none : drop begin rows ≡ [] = drop_all begin rows (omega (arith, long, begin-is, beyond)) in
      let nothing : drop start rows ≡ [] = drop_all start rows (omega (arith, long, beyond)) in
      ap (take (stop - begin)) none ∙ take-nil (stop - begin) ∙ sym (take-nil (end - start)) ∙ ap (take (end - start)) (sym nothing))
  | inr not_beyond ↦ (let same : begin ≡ start = omega (arith, begin-is, not_beyond) in elim (cases_lt count end) [
    | inl all ↦ (let rest : take (stop - begin) (drop begin rows) ≡ drop begin rows = take_all (stop - begin) (drop begin rows) (omega (arith, long, length-drop begin rows, stop-is, all, same, not_beyond)) in
        let whole : take (end - start) (drop start rows) ≡ drop start rows = take_all (end - start) (drop start rows) (omega (arith, long, length-drop start rows, all)) in
        rest ∙ ap (λ (k : ℕ). drop k rows) same ∙ sym whole)
    | inr not_all ↦ (let count-is : stop - begin ≡ end - start = omega (arith, stop-is, not_all, same) in ap₂ (λ n k. take n (drop k rows)) count-is same)
  ])
]

-- the rows that a part of the codes reads are a part of all rows
pub rows-range : (lines : List Text) (codes : List ℕ) (start end : ℕ) → rows_of lines (slice_range codes start end) ≡ slice_range (rows_of lines codes) start end
rows-range lines codes start end =
    sym (ap (take (end - start)) (drop-map (λ c. get_or lines c []) start codes) ∙ take-map (λ c. get_or lines c []) (end - start) (drop start codes))

-- ---- one line more

module _ (old : Excerpt) (lines : List Text) (line : Text) (has : HasLooked old lines) (total : ℕ) (one : total ≡ old.total + 1) where
  abbrev numbers : List ℕ
  numbers = old.numbers.items

  abbrev kept : List Text
  kept = rows_of lines (take old.met numbers)

  same-kept : rows_of (lines ++ line ∷ []) (take old.met numbers) ≡ kept
  same-kept = rows-longer lines (line ∷ []) (take old.met numbers) has.below

  all-below : All (λ number. number < length (lines ++ line ∷ [])) (take old.met numbers)
  all-below i d inside = let below = has.below i d inside in omega (arith, below, length_push lines line)

  total-is : total ≡ length (lines ++ line ∷ [])
  total-is = omega (arith, one, has.total_is, length_push lines line)

  pairs : AllPairs (λ a b. a < b) numbers
  pairs = AllPairs-from_increasing numbers has.distinct.ascend

  -- its number is none of those ahead
  pub looked-past : (old.met < length numbers → get_or numbers old.met 0 ≢ old.total)
      → HasLooked (record { codes = old.codes; numbers = old.numbers; met = old.met; text = old.text; bounds = old.bounds; total = total }) (lines ++ line ∷ [])
  looked-past other = record {
    distinct = has.distinct;
    few = has.few;
    below = all-below;
    ahead = above;
    text_is = has.text_is ∙ ap ended_text (sym same-kept);
    bounds_are = has.bounds_are ∙ ap (line_bounds 0) (sym same-kept);
    total_is = total-is;
  }
    where
      first-above : old.met < length numbers → length lines + 1 ≤ get_or numbers old.met 0
      first-above inside =
          let least = has.ahead 0 0 (omega (arith, inside, length-drop old.met numbers)) in
          let read = get_or-drop old.met numbers 0 0 in
          let apart = other inside in
          let same : old.met + 0 ≡ old.met = omega arith in
          let at = read ∙ ap (λ (k : ℕ). get_or numbers k 0) same in
          elim (cases_lt (length lines) (get_or numbers old.met 0)) [
            | inl below ↦ omega (arith, below)
            | inr not_below ↦ (let equal : get_or numbers old.met 0 ≡ old.total = omega (arith, not_below, least, at, has.total_is) in absurd (apart equal))
          ]

      above : All (λ number. length (lines ++ line ∷ []) ≤ number) (drop old.met numbers)
      above zero d inside =
          let within : old.met < length numbers = omega (arith, inside, length-drop old.met numbers) in
          let read = get_or-drop old.met numbers 0 d in
          let same : old.met + 0 ≡ old.met = omega arith in
          let first = first-above within in
          let default = get_or_from_slice_get numbers old.met (get_or numbers old.met 0) d (slice_get-get_or numbers old.met 0 within) in
          omega (arith, read ∙ ap (λ (k : ℕ). get_or numbers k d) same, default, first, length_push lines line)
      above (suc i) d inside =
          let within : old.met + suc i < length numbers = omega (arith, inside, length-drop old.met numbers) in
          let first = first-above (omega (arith, within)) in
          let more = pairs old.met (old.met + suc i) 0 (omega arith) within in
          let read = get_or-drop old.met numbers (suc i) d in
          let default = get_or_from_slice_get numbers (old.met + suc i) (get_or numbers (old.met + suc i) 0) d (slice_get-get_or numbers (old.met + suc i) 0 within) in
          omega (arith, read, default, first, more, length_push lines line)

  -- it is the next of these numbers
  module _ (new : Excerpt) (codes-are : new.codes ≡ old.codes) (numbers-are : new.numbers ≡ old.numbers) (inside : old.met < length numbers) (next : get_or numbers old.met 0 ≡ old.total)
      (met-is : new.met ≡ old.met + 1) (text-is : new.text.items ≡ old.text.items ++ line ++ 10 ∷ []) (bounds-are : new.bounds.items ≡ old.bounds.items ++ length new.text.items ∷ []) where
    at-end : get_or numbers old.met 0 ≡ length lines
    at-end = next ∙ has.total_is

    more : take (old.met + 1) numbers ≡ take old.met numbers ++ length lines ∷ []
    more = take_more numbers old.met 0 inside ∙ ap (λ (n : ℕ). take old.met numbers ++ n ∷ []) at-end

    longer-kept : rows_of (lines ++ line ∷ []) (take (old.met + 1) numbers) ≡ kept ++ line ∷ []
    longer-kept =
        ap (rows_of (lines ++ line ∷ [])) more ∙ rows-push (lines ++ line ∷ []) (take old.met numbers) (length lines)
        ∙ ap₂ (λ rows row. rows ++ row ∷ []) same-kept (get_or-append_seam lines line [] [])

    longer-below : All (λ number. number < length (lines ++ line ∷ [])) (take (old.met + 1) numbers)
    longer-below =
        subst (All (λ number. number < length (lines ++ line ∷ []))) (sym more)
        (All-push (λ number. number < length (lines ++ line ∷ [])) (take old.met numbers) (length lines) all-below (omega (arith, length_push lines line)))

    fewer-ahead : All (λ number. length (lines ++ line ∷ []) ≤ number) (drop (old.met + 1) numbers)
    fewer-ahead i d within =
        let inside' : old.met + 1 + i < length numbers = omega (arith, within, length-drop (old.met + 1) numbers) in
        let below = pairs old.met (old.met + 1 + i) 0 (omega arith) inside' in
        let read = get_or-drop (old.met + 1) numbers i d in
        let default = get_or_from_slice_get numbers (old.met + 1 + i) (get_or numbers (old.met + 1 + i) 0) d (slice_get-get_or numbers (old.met + 1 + i) 0 inside') in
        omega (arith, read, default, below, at-end, length_push lines line)

    longer-text : new.text.items ≡ flat_map (λ l. l ++ 10 ∷ []) (kept ++ line ∷ [])
    longer-text = text-is ∙ append_assoc old.text.items line (10 ∷ []) ∙ ap (λ text. text ++ (line ++ 10 ∷ [])) has.text_is ∙ sym (ended-push kept line)

    longer-bounds : new.bounds.items ≡ line_bounds 0 (kept ++ line ∷ [])
    longer-bounds =
        let end : length new.text.items ≡ 0 + length (flat_map (λ l. l ++ 10 ∷ []) (kept ++ line ∷ [])) = omega (arith, ap length longer-text) in
        bounds-are ∙ ap₂ (λ ns (n : ℕ). ns ++ n ∷ []) has.bounds_are end ∙ sym (bounds-push 0 kept line)

    pub looked-at : HasLooked (record { codes = new.codes; numbers = new.numbers; met = new.met; text = new.text; bounds = new.bounds; total = total }) (lines ++ line ∷ [])
    looked-at = rw (codes-are, numbers-are, met-is) (record {
      distinct = has.distinct;
      few = omega (arith, inside);
      below = longer-below;
      ahead = fewer-ahead;
      text_is = longer-text ∙ ap ended_text (sym longer-kept);
      bounds_are = longer-bounds ∙ ap (line_bounds 0) (sym longer-kept);
      total_is = total-is;
    })

-- ---- the line with a code

module _ (excerpt : Excerpt) (lines : List Text) (has : HasLooked excerpt lines) (code place : ℕ) (inside : code < length lines) (at-place : slice_get excerpt.numbers.items place ≡ Some code) where
  -- it was met
  place-met : place < excerpt.met
  place-met =
      let within = slice_get_within excerpt.numbers.items place code at-place in
      elim (cases_lt place excerpt.met) [
        | inl below ↦ below
        | inr not_below ↦ (let least = has.ahead (place - excerpt.met) code (omega (arith, within, not_below, length-drop excerpt.met excerpt.numbers.items)) in
            let read = get_or-drop excerpt.met excerpt.numbers.items (place - excerpt.met) code in
            let same : excerpt.met + (place - excerpt.met) ≡ place = omega (arith, not_below) in
            let at = get_or_from_slice_get excerpt.numbers.items place code code at-place in
            absurd (omega (arith, least, read ∙ ap (λ (k : ℕ). get_or excerpt.numbers.items k code) same, at, inside)))
      ]

  many : length (rows_of lines (take excerpt.met excerpt.numbers.items)) ≡ excerpt.met
  many = length-map (take excerpt.met excerpt.numbers.items) (λ c. get_or lines c []) ∙ length-take-le excerpt.met excerpt.numbers.items has.few

  pub place-within : place + 1 < length excerpt.bounds.items
  place-within =
      let long = ap length has.bounds_are ∙ bounds-long 0 (rows_of lines (take excerpt.met excerpt.numbers.items)) in omega (arith, long, many, place-met)

  line-at : get_or (rows_of lines (take excerpt.met excerpt.numbers.items)) place [] ≡ get_or lines code []
  line-at =
      let short = length-take-le excerpt.met excerpt.numbers.items has.few in
      get_or-map (λ c. get_or lines c []) (take excerpt.met excerpt.numbers.items) place 0 [] (omega (arith, short, place-met))
      ∙ ap (λ c. get_or lines c []) (get_or-take excerpt.met excerpt.numbers.items place 0 place-met ∙ get_or_from_slice_get excerpt.numbers.items place code 0 at-place)

  pub line-found : IsBetween excerpt.text.items (get_or lines code []) (get_or excerpt.bounds.items place 0) (get_or excerpt.bounds.items (place + 1) 0)
  line-found =
      let rows = rows_of lines (take excerpt.met excerpt.numbers.items) in
      subst (λ ns. IsBetween excerpt.text.items (get_or lines code []) (get_or ns place 0) (get_or ns (place + 1) 0)) (sym has.bounds_are)
      (subst (λ line. IsBetween excerpt.text.items line (get_or (line_bounds 0 rows) place 0) (get_or (line_bounds 0 rows) (place + 1) 0)) line-at
      (ended-between rows excerpt.text.items place has.text_is (omega (arith, many, place-met))))

-- ---- the text of rows

pub one-row-more : (lines : List Text) (codes : List ℕ) (i d : ℕ) → i < length codes
    → ended_text (rows_of lines (take (i + 1) codes)) ≡ ended_text (rows_of lines (take i codes)) ++ (get_or lines (get_or codes i d) [] ++ 10 ∷ [])
one-row-more lines codes i d inside =
    ap (λ cs. ended_text (rows_of lines cs)) (take_more codes i d inside) ∙ ap ended_text (rows-push lines (take i codes) (get_or codes i d))
    ∙ ended-push (rows_of lines (take i codes)) (get_or lines (get_or codes i d) [])

-- the code of each row is that of a line that is held
abbrev pub IsKnown : Excerpt → ℕ → Type 0
IsKnown excerpt code = (lines : List Text) × HasLooked excerpt lines × (code < length lines) × Contains excerpt.numbers.items code

module _ (excerpt : Excerpt) (lines : List Text) (codes : List ℕ) (holds : HoldsRows excerpt lines codes) (front : List ℕ) (last : ℕ) (split : excerpt.codes.items ≡ front ++ last ∷ []) where
  known-at : (i code : ℕ) → i < length (front ++ last ∷ []) → get_or (front ++ last ∷ []) i 0 ≡ code → IsKnown excerpt code
  known-at i code inside is =
      let within = subst (All (λ c. c < length lines)) (sym holds.codes_are ∙ split) holds.within i 0 inside in
      let listed = code-listed (front ++ last ∷ []) excerpt.numbers.items (subst (λ codes. AreDistinct codes excerpt.numbers.items) split holds.looked.distinct) i 0 inside in
      subst (IsKnown excerpt) is (lines, holds.looked, within, listed)

  pub front-known : (i : ℕ) → i < length front → IsKnown excerpt (get_or front i 0)
  front-known i inside = known-at i (get_or front i 0) (omega (arith, inside, length_push front last)) (get_or-append front (last ∷ []) 0 i inside)

  pub last-known : IsKnown excerpt last
  last-known = known-at (length front) last (omega (arith, length_push front last)) (get_or-append_seam front last [] 0)

  -- the text of the rows is that of all but the last, and the line of the last
  pub all-rows : text_of_ended (rows_of lines codes) [] ≡ ended_text (rows_of lines front) ++ (get_or lines last [] ++ 10 ∷ [])
  all-rows =
      append-nil (ended_text (rows_of lines codes)) ∙ ap (λ cs. ended_text (rows_of lines cs)) (sym holds.codes_are ∙ split)
      ∙ ap ended_text (rows-push lines front last) ∙ ended-push (rows_of lines front) (get_or lines last [])
