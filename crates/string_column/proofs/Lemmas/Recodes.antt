-- Our codes of the entries of another dictionary, as far as they are known.
use Rattle.std.proofs.Common.{◌≡◌, ℕ, ◌+◌, ◌-◌, ◌<◌, ◌≤◌, List, [], ◌∷◌, ◌++◌, length, take, drop, get_or, Option, Some, None, Result, Ok, Err, inl, inr, suc, sym, ap, subst, ◌∙◌, arith}
use Rattle.std.specs.Prelude.{slice_get, slice_range, slice_set, replicate, IsErrAnd}
use Rattle.std.proofs.Math.Seq.{take-add}
use Rattle.std.proofs.lemmas.List.{drop-drop, take_more, take_all, get_or-drop, length-drop, append_assoc, length-replicate, get_or-replicate, length-set, get_or-set_same, get_or-set_other}
use Rattle.std.proofs.lemmas.Bool.{cases_eq}
use Rattle.std.proofs.lemmas.Option.{get_or_from_slice_get, slice_get-get_or, slice_get_within, same_Some}
use Rattle.std.specs.declared.alloc.AllocError.{AllocError}
use Rattle.string_interner.specs.Text.{Text}
use Rattle.string_interner.specs.Numbering.{Numbering}
use Rattle.string_interner.specs.declared.backend.InternError.{InternError}
use Rattle.string_interner.specs.declared.backend.InternError.TheVariants.{Memory}
use Rattle.string_column.specs.Entries.{IsRefusal}
use Rattle.string_column.specs.Column.{dictionary_of, AppendsRows}
use Rattle.string_interner.specs.Extend.{fresh}
use Rattle.string_column.proofs.Lemmas.AreNumbered.{slice_get-append}
use Rattle.string_column.proofs.Lemmas.Rows.{dictionary-push}

-- a code that is known is that of the same text
pub record Recodes (ours theirs : List Text) (codes : List (Option ℕ)) : Type 0 where
  pub count : length codes ≡ length theirs
  pub each : (k code : ℕ) → slice_get codes k ≡ Some (Some code) → slice_get ours code ≡ slice_get theirs k

-- a part is its first rows and then the rest
pub range-split : {X : Type 0} (xs : List X) (i j k : ℕ) → i ≤ j → j ≤ k → slice_range xs i k ≡ slice_range xs i j ++ slice_range xs j k
range-split xs i j k ij jk =
    ap (λ (n : ℕ). take n (drop i xs)) (let whole : k - i ≡ (j - i) + (k - j) = omega arith in whole)
    ∙ take-add (j - i) (k - j) (drop i xs)
    ∙ ap (λ rest. slice_range xs i j ++ take (k - j) rest) (drop-drop (j - i) i xs ∙ ap (λ (n : ℕ). drop n xs) (let at : i + (j - i) ≡ j = omega arith in at))

-- a part of one row
pub range-one : {X : Type 0} (xs : List X) (i : ℕ) (x : X) → slice_get xs i ≡ Some x → slice_range xs i (i + 1) ≡ x ∷ []
range-one xs i x is =
    let within = slice_get_within xs i x is in
    let one : i + 1 - i ≡ suc 0 = omega arith in
    ap (λ (n : ℕ). take n (drop i xs)) one
    ∙ take_more (drop i xs) 0 x (omega (arith, length-drop i xs))
    ∙ ap (λ y. y ∷ []) (get_or-drop i xs 0 x ∙ ap (λ (n : ℕ). get_or xs n x) (let at : i + 0 ≡ i = omega arith in at) ∙ get_or_from_slice_get xs i x x is)

-- one row more
pub range-more : {X : Type 0} (xs : List X) (start i : ℕ) (x : X) → start ≤ i → slice_get xs i ≡ Some x → slice_range xs start (i + 1) ≡ slice_range xs start i ++ x ∷ []
range-more xs start i x upto is = range-split xs start i (i + 1) upto (omega arith) ∙ ap (λ rest. slice_range xs start i ++ rest) (range-one xs i x is)

-- the rows before one, that one, and the rest
pub range-at : {X : Type 0} (xs : List X) (start i end : ℕ) (x : X) → start ≤ i → i < end → slice_get xs i ≡ Some x
    → slice_range xs start end ≡ slice_range xs start i ++ x ∷ slice_range xs (i + 1) end
range-at xs start i end x upto before is =
    range-split xs start i end upto (omega arith)
    ∙ ap (λ rest. slice_range xs start i ++ rest) (range-split xs i (i + 1) end (omega arith) (omega arith) ∙ ap (λ one. one ++ slice_range xs (i + 1) end) (range-one xs i x is))

-- no row
pub range-none : {X : Type 0} (xs : List X) (i : ℕ) → slice_range xs i i ≡ []
range-none xs i = ap (λ (n : ℕ). take n (drop i xs)) (let none : i - i ≡ 0 = omega arith in none)

-- all rows
pub range-all : {X : Type 0} (xs : List X) (end : ℕ) → length xs ≤ end → slice_range xs 0 end ≡ xs
range-all xs end all = ap (λ (n : ℕ). take n xs) (let whole : end - 0 ≡ end = omega arith in whole) ∙ take_all end xs all

-- at first no code is known
pub recodes-none : (ours theirs : List Text) (codes : List (Option ℕ)) (n : ℕ) → codes ≡ replicate n None → n ≡ length theirs → Recodes ours theirs codes
recodes-none ours theirs codes n made count =
    let none : Option ℕ = None in
    let long = ap length made ∙ length-replicate n none in record {
      count = long ∙ count;
      each = λ k code is.
          let within : k < n = let w = slice_get_within codes k (Some code) is in omega (arith, long) in
          let read : get_or codes k (Some code) ≡ none = ap (λ all. get_or all k (Some code)) made ∙ get_or-replicate n k none (Some code) within in
          let found : get_or codes k (Some code) ≡ Some code = get_or_from_slice_get codes k (Some code) (Some code) is in absurd (cc);
    }

-- the code of their entry, if it is known, is that of its text
pub recoded : (ours theirs : List Text) (codes : List (Option ℕ)) (k code : ℕ) (row : Text) (read : Option ℕ) → Recodes ours theirs codes → slice_get theirs k ≡ Some row
    → read ≡ get_or codes k read → read ≡ Some code → slice_get ours code ≡ Some row
recoded ours theirs codes k code row read are is at known =
    let within : k < length codes = let w = slice_get_within theirs k row is in omega (arith, are.count) in
    are.each k code (slice_get-get_or codes k read within ∙ ap Some (sym at ∙ known)) ∙ is

-- codes stay right where our dictionary gets longer
pub recodes-stay : (ours more theirs : List Text) (codes : List (Option ℕ)) → Recodes ours theirs codes → Recodes (ours ++ more) theirs codes
recodes-stay ours more theirs codes are = record {
  count = are.count;
  each = λ k code is.
      let within : k < length theirs = let w = slice_get_within codes k (Some code) is in omega (arith, are.count) in
      let their : slice_get theirs k ≡ Some (get_or theirs k []) = slice_get-get_or theirs k [] within in
      slice_get-append ours more code (get_or theirs k []) (are.each k code is ∙ their) ∙ sym their;
}

-- one more code is known
pub recodes-set : (ours theirs : List Text) (codes : List (Option ℕ)) (k code : ℕ) (row : Text) → Recodes ours theirs codes → slice_get theirs k ≡ Some row → slice_get ours code ≡ Some row
    → Recodes ours theirs (slice_set codes k (Some code))
recodes-set ours theirs codes k code row are is at = record {
  count = length-set codes k (Some code) ∙ are.count;
  each = λ j found known.
      let long = length-set codes k (Some code) in
      let within : j < length codes = let w = slice_get_within (slice_set codes k (Some code)) j (Some found) known in omega (arith, long) in
      let read : get_or (slice_set codes k (Some code)) j None ≡ Some found = get_or_from_slice_get (slice_set codes k (Some code)) j (Some found) None known in
      elim (cases_eq k j) [
        | inl same ↦ (
            let new : Some code ≡ Some found = sym (get_or-set_same codes j (Some code) None within) ∙ subst (λ n. get_or (slice_set codes n (Some code)) j None ≡ Some found) same read in
            ap (slice_get ours) (sym (same_Some code found new)) ∙ at ∙ sym is ∙ ap (slice_get theirs) same)
        | inr other ↦ are.each j found (slice_get-get_or codes j None within ∙ ap Some (sym (get_or-set_other codes k j (Some code) None (λ e. other (sym e))) ∙ read))
      ];
}

-- one row more is there
pub rows-more : (first self new rows : List Text) (start i : ℕ) (row : Text) → self ≡ first ++ slice_range rows start i → start ≤ i → slice_get rows i ≡ Some row → new ≡ self ++ row ∷ []
    → new ≡ first ++ slice_range rows start (i + 1)
rows-more first self new rows start i row so_far upto is put =
    put ∙ ap (λ all. all ++ row ∷ []) so_far ∙ append_assoc first (slice_range rows start i) (row ∷ []) ∙ ap (λ more. first ++ more) (sym (range-more rows start i row upto is))

-- and codes stay right
pub next-row : (first self new theirs rows : List Text) (start i : ℕ) (row : Text) (codes : List (Option ℕ)) → self ≡ first ++ slice_range rows start i → start ≤ i → slice_get rows i ≡ Some row
    → new ≡ self ++ row ∷ [] → Recodes (dictionary_of self) theirs codes → (new ≡ first ++ slice_range rows start (i + 1)) × Recodes (dictionary_of new) theirs codes
next-row first self new theirs rows start i row codes so_far upto is put are = (
  rows-more first self new rows start i row so_far upto is put,
  subst (λ entries. Recodes entries theirs codes) (sym (ap dictionary_of put ∙ dictionary-push self row)) (recodes-stay (dictionary_of self) (fresh (dictionary_of self) (row ∷ [])) theirs codes are),
)

module _ {S : Type 0} (numbering : Numbering S) where
  -- a row that is refused leaves the rows before it
  pub refused-at : (old rows : List Text) (start i end : ℕ) (row : Text) (outcome : Result (Unit {0}) InternError) (new : List Text) → start ≤ i → i < end → slice_get rows i ≡ Some row
      → new ≡ old ++ slice_range rows start i → IsErrAnd outcome (IsRefusal numbering (dictionary_of new) row) → AppendsRows numbering old (slice_range rows start end) outcome new
  refused-at old rows start i end row (Ok done) new upto before is front error = absurd error
  refused-at old rows start i end row (Err reason) new upto before is front error =
      (slice_range rows start i, row, slice_range rows (i + 1) end, range-at rows start i end row upto before is, front, error)

  -- an allocation that failed refuses any row
  pub memory-refusal : (outcome : Result (Unit {0}) InternError) (texts : List Text) (row : Text) (failed : AllocError) → IsErrAnd outcome (λ error. error ≡ Memory failed) → IsErrAnd outcome (IsRefusal numbering texts row)
  memory-refusal (Ok done) texts row failed error = absurd error
  memory-refusal (Err reason) texts row failed error = rw error tt

  -- a refusal of a row is handed on
  pub same-refusal : (outcome : Result (Unit {0}) InternError) (old new : List Text) (text row : Text) (reason : InternError) → IsErrAnd outcome (λ error. error ≡ reason) → IsRefusal numbering (dictionary_of old) text reason
      → new ≡ old → text ≡ row → IsErrAnd outcome (IsRefusal numbering (dictionary_of new) row)
  same-refusal (Ok done) old new text row reason error refused same is = absurd error
  same-refusal (Err given) old new text row reason error refused same is = rw (same, ← is, error) refused
