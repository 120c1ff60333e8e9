-- Counts of the lines that pass a test, as those of a shard do, beside the counts of all.
use Rattle.std.proofs.Common.{◌≡◌, ℕ, ◌+◌, Bool, true, false, cond, ◌||◌, List, [], ◌∷◌, ◌++◌, map, Option, Some, None, refl, sym, ap, ap₂, ◌∙◌, arith}
use Rattle.std.specs.Prelude.{is_some}
use Rattle.std.specs.List.{filter, list_any, position_from}
use Rattle.std.specs.Str.{bytes_eq}
use Rattle.std.proofs.lemmas.Bool.{true≢false}
use Rattle.std.proofs.lemmas.Iterator.Adapters.{position_from-zero}
use Rattle.std.proofs.lemmas.List.{append-nil}
use Rattle.std.proofs.lemmas.List.Elements.{filter-append}
use Rattle.std.proofs.lemmas.List.Sums.{sum_by-append}
use Rattle.string_interner.specs.Text.{Text, first}
use Rattle.string_interner.specs.Extend.{fresh}
use Rattle.string_column.specs.Column.{dictionary_of}
use Rattle.string_column.proofs.Lemmas.Counts.{count_in}
use Rattle.dictcol.specs.Counts.{counted}
use Rattle.dictcol.proofs.Counted.{differs}

any-from : (test : Text → Bool) (n : ℕ) (xs : List Text) → is_some (position_from test n xs) ≡ list_any test xs
any-from test n [] = refl
any-from test n (x ∷ xs) = of (test x) refl (any-from test (n + 1) xs)
  where
    of : (b : Bool) → test x ≡ b → is_some (position_from test (n + 1) xs) ≡ list_any test xs → is_some (position_from test n (x ∷ xs)) ≡ list_any test (x ∷ xs)
    of true e rest = rw e refl
    of false e rest = rw e rest

-- a text has a first index if it is there
any-first : (xs : List Text) (text : Text) → is_some (first xs text) ≡ list_any (λ x. bytes_eq x text) xs
any-first xs text = ap is_some (position_from-zero (λ x. bytes_eq x text) xs) ∙ any-from (λ x. bytes_eq x text) 0 xs

count-cons : (x : Text) (xs : List Text) (text : Text) → count_in (x ∷ xs) text ≡ count_in (x ∷ []) text + count_in xs text
count-cons x xs text = sum_by-append (λ y. cond (bytes_eq y text) 1 0) (x ∷ []) xs

abbrev row_in : List Text → Text → ℕ × Text
row_in lines entry = (count_in lines entry, entry)

module _ (test : Text → Bool) where
  -- a text that passes is none that does not
  apart : (x text : Text) → test text ≡ true → test x ≡ false → bytes_eq x text ≡ false
  apart x text passes fails = differs x text (λ same. true≢false (sym passes ∙ ap test (sym same) ∙ fails)) (bytes_eq x text) refl

  -- so it is among those that pass if it is among all
  any-passed : (xs : List Text) (text : Text) → test text ≡ true → list_any (λ x. bytes_eq x text) (filter test xs) ≡ list_any (λ x. bytes_eq x text) xs
  any-passed [] text passes = refl
  any-passed (x ∷ xs) text passes = of (test x) refl (any-passed xs text passes)
    where
      of : (b : Bool) → test x ≡ b → list_any (λ y. bytes_eq y text) (filter test xs) ≡ list_any (λ y. bytes_eq y text) xs
          → list_any (λ y. bytes_eq y text) (filter test (x ∷ xs)) ≡ list_any (λ y. bytes_eq y text) (x ∷ xs)
      of true e rest = rw e (ap (λ b. bytes_eq x text || b) rest)
      of false e rest = rw (e, apart x text passes e) rest

  -- and as often
  count-passed : (xs : List Text) (text : Text) → test text ≡ true → count_in (filter test xs) text ≡ count_in xs text
  count-passed [] text passes = refl
  count-passed (x ∷ xs) text passes = of (test x) refl (count-passed xs text passes)
    where
      of : (b : Bool) → test x ≡ b → count_in (filter test xs) text ≡ count_in xs text → count_in (filter test (x ∷ xs)) text ≡ count_in (x ∷ xs) text
      of true e rest = rw e (count-cons x (filter test xs) text ∙ ap (λ (n : ℕ). count_in (x ∷ []) text + n) rest ∙ sym (count-cons x xs text))
      of false e rest =
          let none : count_in (x ∷ []) text ≡ 0 = rw (apart x text passes e) refl in
          let all : count_in xs text ≡ count_in (x ∷ xs) text = omega (arith, none, count-cons x xs text) in
          rw e (rest ∙ all)

  -- what is new of those that pass is what passes of the new ones
  fresh-passed : (old texts : List Text) → fresh (filter test old) (filter test texts) ≡ filter test (fresh old texts)
  fresh-passed old [] = refl
  fresh-passed old (t ∷ ts) = of (test t) refl (fresh-passed old ts) (fresh-passed (old ++ t ∷ []) ts)
    where
      passed : test t ≡ true → (o p : Option ℕ) → first (filter test old) t ≡ o → first old t ≡ p → is_some o ≡ is_some p
          → fresh (filter test old) (filter test ts) ≡ filter test (fresh old ts) → fresh (filter test (old ++ t ∷ [])) (filter test ts) ≡ filter test (fresh (old ++ t ∷ []) ts)
          → fresh (filter test old) (t ∷ filter test ts) ≡ filter test (fresh old (t ∷ ts))
      passed passes (Some i) (Some k) o_is p_is same known new = rw (o_is, p_is) known
      passed passes (Some i) None o_is p_is same known new = cc
      passed passes None (Some k) o_is p_is same known new = cc
      passed passes None None o_is p_is same known new =
          let one : filter test (old ++ t ∷ []) ≡ filter test old ++ t ∷ [] = filter-append test old (t ∷ []) ∙ (rw passes refl) in
          rw (o_is, p_is, passes) (ap (λ more. t ∷ more) (ap (λ front. fresh front (filter test ts)) (sym one) ∙ new))

      left_out : test t ≡ false → (p : Option ℕ) → first old t ≡ p
          → fresh (filter test old) (filter test ts) ≡ filter test (fresh old ts) → fresh (filter test (old ++ t ∷ [])) (filter test ts) ≡ filter test (fresh (old ++ t ∷ []) ts)
          → fresh (filter test old) (filter test ts) ≡ filter test (fresh old (t ∷ ts))
      left_out fails (Some k) is known new = rw is known
      left_out fails None is known new =
          let none : filter test (old ++ t ∷ []) ≡ filter test old = filter-append test old (t ∷ []) ∙ (rw fails (append-nil (filter test old))) in
          rw (is, fails) (ap (λ front. fresh front (filter test ts)) (sym none) ∙ new)

      of : (b : Bool) → test t ≡ b
          → fresh (filter test old) (filter test ts) ≡ filter test (fresh old ts) → fresh (filter test (old ++ t ∷ [])) (filter test ts) ≡ filter test (fresh (old ++ t ∷ []) ts)
          → fresh (filter test old) (filter test (t ∷ ts)) ≡ filter test (fresh old (t ∷ ts))
      of true e known new =
          rw e (passed e (first (filter test old) t) (first old t) refl refl (any-first (filter test old) t ∙ any-passed old t e ∙ sym (any-first old t)) known new)
      of false e known new = rw e (left_out e (first old t) refl known new)

  rows-passed : (lines entries : List Text) → map (row_in (filter test lines)) (filter test entries) ≡ filter (λ row. test row.1) (map (row_in lines) entries)
  rows-passed lines [] = refl
  rows-passed lines (x ∷ xs) = of (test x) refl (rows-passed lines xs)
    where
      pair : ℕ → ℕ × Text
      pair n = (n, x)

      of : (b : Bool) → test x ≡ b → map (row_in (filter test lines)) (filter test xs) ≡ filter (λ row. test row.1) (map (row_in lines) xs)
          → map (row_in (filter test lines)) (filter test (x ∷ xs)) ≡ filter (λ row. test row.1) (map (row_in lines) (x ∷ xs))
      of true e rest = rw e (ap₂ (λ row rows. row ∷ rows) (ap pair (count-passed lines x e)) rest)
      of false e rest = rw e rest

  -- the counts of lines that pass are those of all, of these lines alone
  pub counted-passed : (lines : List Text) → counted (filter test lines) ≡ filter (λ row. test row.1) (counted lines)
  counted-passed lines = ap (map (row_in (filter test lines))) (fresh-passed [] lines) ∙ rows-passed lines (dictionary_of lines)
