-- Lines that are counted a block at a time.
use Rattle.std.proofs.Common.{◌≡◌, ℕ, ◌+◌, ◌-◌, ◌^◌, ◌<◌, ◌≤◌, min, List, [], ◌∷◌, ◌++◌, length, take, get_or, Bor, Some, Ok, Err, refl, sym, ap, ◌∙◌, arith, inl, inr}
use Rattle.std.specs.Prelude.{slice_get, slice_set}
use Rattle.std.proofs.lemmas.List.{append-nil, length-append, length-map, length-take-le, take_all}
use Rattle.std.proofs.lemmas.Slice.Zip.{AllZip-long}
use Rattle.string_interner.specs.Text.{Text}
use Rattle.string_interner.specs.Numbering.{Numbering}
use Rattle.string_interner.specs.Extend.{texts_of}
use Rattle.string_interner.specs.declared.backend.InternError.{InternError}
use Rattle.string_interner.proofs.Lemmas.Interner.InternsEach.{split-at}
use Rattle.string_column.specs.Ahead.{PutsRows}
use Rattle.string_column.specs.Column.{counts_of, dictionary_of}
use Rattle.string_column.proofs.Lemmas.Counts.{count_in}
use Rattle.dictcol.specs.Counts.{HasCounted, IsCountedBy, contents_of}
use Rattle.dictcol.specs.Fault.{IsTakeFault, intern_fault}
use Rattle.dictcol.specs.TooMany.{HasRefused, LacksCount, LacksLine}
use Rattle.dictcol.proofs.CodeAt.{CodeAt, code-at, code-first, code-known, code-next}
use Rattle.dictcol.proofs.Counted.{counted-again, counted-new}
use Rattle.dictcol.proofs.PutsRows.{puts-codes, puts-dictionary, puts-refused}
use Rattle.dictcol.proofs.TooMany.{refused-weaker, take-weaker}

-- ---- a line for each code

-- lines that were counted
so-far : (lines : List Text) (counts : List ℕ) → counts ≡ counts_of lines → HasCounted (contents_of (dictionary_of lines) counts (length lines)) lines
so-far lines counts are = record { entries_are = refl; counts_are = are; total_is = refl }

module _ (lines more : List Text) (old codes counts : List ℕ) (at code : ℕ) (by : IsCountedBy lines more old codes) (are : counts ≡ counts_of (lines ++ take at more)) (within : at < length codes) (is : code ≡ get_or codes at 0) where
  it : CodeAt lines more at code
  it = code-at lines more codes at code by.codes_are within is

  abbrev front : List Text
  front = lines ++ take at more

  long : length counts ≡ length (dictionary_of front)
  long = ap length are ∙ length-map (dictionary_of front) (count_in front)

  -- a code that has a count
  pub code-again : (count put : ℕ) → code < length counts → count ≡ get_or counts code count → put ≡ min (count + 1) (2 ^ 64 - 1) → slice_set counts code put ≡ counts_of (lines ++ take (at + 1) more)
  code-again count put inside read sum =
      let known = code-known lines more at code it (omega (arith, inside, long)) in
      let few : length front + 1 < 2 ^ 64 = omega (arith, by.fits, ap length it.whole, length-append front (it.text ∷ it.rest)) in
      (counted-again (dictionary_of front) counts (length front) front it.text code count put known inside read sum few (so-far front counts are)).counts_are ∙ ap counts_of (sym (code-next lines more at code it))

  -- and one that has none yet
  pub code-new : length counts ≤ code → counts ++ 1 ∷ [] ≡ counts_of (lines ++ take (at + 1) more)
  code-new behind =
      let new = code-first lines more at code it (omega (arith, behind, long)) in
      (counted-new (dictionary_of front) counts (length front) front it.text new (so-far front counts are)).counts_are ∙ ap counts_of (sym (code-next lines more at code it))

-- at first no code is counted
pub codes-begin : (lines more : List Text) (counts codes : List ℕ) → IsCountedBy lines more counts codes → counts ≡ counts_of (lines ++ take 0 more)
codes-begin lines more counts codes by = by.counts_are ∙ ap counts_of (sym (append-nil lines))

-- and at last all are
pub codes-end : (lines more : List Text) (old counts codes : List ℕ) (n : ℕ) → length codes ≤ n → IsCountedBy lines more old codes → counts ≡ counts_of (lines ++ take n more) → counts ≡ counts_of (lines ++ more)
codes-end lines more old counts codes n all by are =
    let long = AllZip-long (λ c r. slice_get (dictionary_of (lines ++ more)) c ≡ Some r) codes more by.codes_are in
    are ∙ ap (λ ls. counts_of (lines ++ ls)) (take_all n more (omega (arith, all, long)))

-- ---- the lines of a block

-- they are counted
pub block-counted : {S : Type 0} (numbering : Numbering S) (block : List (Bor Text)) (old new : List Text) (before codes counts put : List ℕ) (total sum : ℕ)
    → PutsRows numbering block (old, before) (Ok tt) (new, codes) → before ≡ []
    → ((lines more : List Text) → IsCountedBy lines more counts codes → put ≡ counts_of (lines ++ more)) → sum ≡ total + length block → total + length block < 2 ^ 64
    → (lines : List Text) → HasCounted (contents_of old counts total) lines → HasCounted (contents_of new put sum) (lines ++ texts_of block)
block-counted numbering block old new before codes counts put total sum puts none counted sum-is fits lines has =
    let more = texts_of block in
    let are = puts-codes numbering block old new before codes lines has.entries_are puts none in
    let long : length more ≡ length block = length-map block (λ item. item.now) in
    let both = length-append lines more in
    record {
      entries_are = puts-dictionary numbering block old new before codes lines has.entries_are puts;
      counts_are = counted lines more (record { counts_are = has.counts_are; codes_are = are; fits = omega (arith, both, long, fits, has.total_is) });
      total_is = omega (arith, sum-is, both, long, has.total_is);
    }

-- one of them is refused
pub block-refused : {S : Type 0} (numbering : Numbering S) (block : List (Bor Text)) (old new : List Text) (before codes counts : List ℕ) (total : ℕ) (error : InternError)
    → PutsRows numbering block (old, before) (Err error) (new, codes) → (lines : List Text) → HasCounted (contents_of old counts total) lines
    → IsTakeFault (HasRefused (LacksCount numbering) (lines ++ texts_of block)) (intern_fault error)
block-refused numbering block old new before codes counts total error puts lines has =
    take-weaker (intern_fault error) (refused-weaker (LacksLine numbering) (LacksCount numbering) (λ front line lacks. inr lacks) (lines ++ texts_of block))
    (puts-refused numbering block old new before codes lines has.entries_are error puts)

-- or they are more than a `usize` tells
pub block-past : {S : Type 0} (numbering : Numbering S) (block : List (Bor Text)) (old : List Text) (counts : List ℕ) (total : ℕ) → total < 2 ^ 64 → 2 ^ 64 ≤ total + length block
    → (lines : List Text) → HasCounted (contents_of old counts total) lines → HasRefused (LacksCount numbering) (lines ++ texts_of block)
block-past numbering block old counts total small past lines has =
    let long : length (texts_of block) ≡ length block = length-map block (λ item. item.now) in
    let both = length-append lines (texts_of block) in
    let last = nth (lines ++ texts_of block) (2 ^ 64 - 1) (omega (arith, past, long, both, has.total_is)) in
    (last.0, last.1, last.2, last.3, inl (omega (arith, last.4)))
  where
    nth : (xs : List Text) (n : ℕ) → n < length xs → (before : List Text) × (x : Text) × (rest : List Text) × (xs ≡ before ++ x ∷ rest) × (length before ≡ n)
    nth xs n within = let parts = split-at xs n within in (take n xs, parts.0, parts.1, parts.2, length-take-le n xs (omega (arith, within)))
