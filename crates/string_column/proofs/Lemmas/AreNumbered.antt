-- The symbols of the entries, by their indexes: where each entry begins, which text a symbol has, and one entry more.
use Rattle.std.proofs.Common.{◌≡◌, ℕ, ◌-◌, ◌<◌, ◌≤◌, List, [], ◌∷◌, ◌++◌, length, take, get_or, zero, suc, Option, Some, None, Ok, sym, ap, subst, ◌∙◌, refl, inl, inr, arith, true, false, ltb, ltb-true, ltb-false}
use Rattle.std.specs.Prelude.{◌^◌, ◌≢◌, All, slice_get, MatchOption}
use Rattle.std.specs.List.Sorted.{IsNonDecreasingBy, IsPartitionPoint}
use Rattle.std.proofs.lemmas.Bool.{cases_lt}
use Rattle.std.proofs.Math.Seq.{get_or-append_seam}
use Rattle.std.proofs.lemmas.List.{append_assoc, get_or_append_left, length_push, take-append-le, take_at}
use Rattle.std.proofs.lemmas.Option.{get_or_from_slice_get, slice_get_within, slice_get-get_or}
use Rattle.string_interner.specs.Text.{Text, first}
use Rattle.string_interner.specs.Backend.{BeginsAt, Appends}
use Rattle.string_interner.specs.Interner.{Interns, entry_symbol}
use Rattle.string_interner.specs.StandsFor.{StandsFor, NumbersInOrder}
use Rattle.string_interner.specs.Numbering.{Numbering}
use Rattle.string_interner.specs.Iter.{entries}
use Rattle.string_interner.proofs.Lemmas.Backend.Entries.{first_entry}
use Rattle.string_interner.proofs.Lemmas.Interner.StandsFor.{same_or_pushed}
use Rattle.string_interner.proofs.Lemmas.Interner.InternsEach.{split-at}
use Rattle.string_column.specs.Entries.{AreNumbered, NumbersAscend}

-- an element stays where the list gets longer
pub slice_get-append : {X : Type 0} (xs ys : List X) (i : ℕ) (x : X) → slice_get xs i ≡ Some x → slice_get (xs ++ ys) i ≡ Some x
slice_get-append [] ys i x is = absurd (cc)
slice_get-append (y ∷ xs) ys zero x is = is
slice_get-append (y ∷ xs) ys (suc i) x is = slice_get-append xs ys i x is

-- what is put last stands there
pub slice_get-push : {X : Type 0} (xs : List X) (x : X) → slice_get (xs ++ x ∷ []) (length xs) ≡ Some x
slice_get-push [] x = refl
slice_get-push (y ∷ xs) x = slice_get-push xs x

-- numbers that ascend do not descend
pub ascend-sorted : {S : Type 0} (number : S → ℕ) (symbols : List S) → NumbersAscend number symbols → IsNonDecreasingBy number symbols
ascend-sorted number symbols up i j d upto within = elim (cases_lt i j) as (λ _. number (get_or symbols i d) ≤ number (get_or symbols j d)) [
  | inl less ↦ let below = up i j d less within in omega arith
  | inr not_less ↦ (let same : i ≡ j = omega arith in subst (λ k. number (get_or symbols i d) ≤ number (get_or symbols k d)) same (omega arith))
]

-- where the numbers ascend, and all before an index are below that of a symbol, and it is not, the symbol stands there
pub parted-at : {S : Type 0} (number : S → ℕ) (symbols : List S) (symbol : S) (i at : ℕ) → NumbersAscend number symbols → slice_get symbols i ≡ Some symbol
    → IsPartitionPoint (λ s. ltb (number s) (number symbol) ≡ true) (λ s. ltb (number s) (number symbol) ≡ false) symbols at → slice_get symbols at ≡ Some symbol
parted-at {S} number symbols symbol i at up is parts =
    let within = slice_get_within symbols i symbol is in
    let read : get_or symbols i symbol ≡ symbol = get_or_from_slice_get symbols i symbol symbol is in
    elim (cases_lt i at) [
      | inl below ↦ (let less = ltb-true _ _ (parts.0 i symbol (omega arith) below) in absurd (omega (arith, ap number read)))
      | inr not_below ↦ elim (cases_lt at i) [
        | inl above ↦ (let less = up at i symbol above within in
            let not_less = ltb-false _ _ (parts.1 at symbol (omega arith) (omega arith)) in absurd (omega (arith, ap number read)))
        | inr not_above ↦ (let same : i ≡ at = omega arith in subst (λ k. slice_get symbols k ≡ Some symbol) same is)
      ]
    ]

-- no symbol of the list has a greater number than the last
pub last-greatest : {S : Type 0} (number : S → ℕ) (symbols : List S) (symbol last : S) (i : ℕ) → NumbersAscend number symbols → slice_get symbols i ≡ Some symbol
    → Some last ≡ slice_get symbols (length symbols - 1) → number symbol ≤ number last
last-greatest number symbols symbol last i up is at_end =
    let within = slice_get_within symbols i symbol is in
    let here : get_or symbols i symbol ≡ symbol = get_or_from_slice_get symbols i symbol symbol is in
    let there : get_or symbols (length symbols - 1) symbol ≡ last = get_or_from_slice_get symbols (length symbols - 1) last symbol (sym at_end) in
    elim (cases_lt i (length symbols - 1)) [
      | inl below ↦ let less = up i (length symbols - 1) symbol below (omega arith) in omega (arith, ap number here, ap number there)
      | inr not_below ↦ (let one : i ≡ length symbols - 1 = omega arith in
          omega (arith, ap number (sym here ∙ ap (λ (k : ℕ). get_or symbols k symbol) one ∙ there)))
    ]

-- where there is no last one, there is none
pub none-listed : {S : Type 0} (symbols : List S) (symbol : S) (i : ℕ) → slice_get symbols i ≡ Some symbol → None ≡ slice_get symbols (length symbols - 1) → ⊥
none-listed symbols symbol i is at_end =
    let within = slice_get_within symbols i symbol is in
    let there = slice_get-get_or symbols (length symbols - 1) symbol (omega arith) in cc

module _ {S : Type 0} (numbering : Numbering S) where
  -- a symbol of the list is the entry's at its index
  pub symbol-is : (texts : List Text) (symbols : List S) (i : ℕ) (symbol : S) → AreNumbered numbering texts symbols
      → slice_get symbols i ≡ Some symbol → entry_symbol numbering texts i ≡ Some symbol
  symbol-is texts symbols i symbol are is =
      let within = slice_get_within symbols i symbol is in sym (are.symbol_at i (omega (arith, are.count))) ∙ is

  -- a text stands at the index of its symbol
  pub text-is : (texts : List Text) (symbols : List S) → NumbersInOrder numbering texts → AreNumbered numbering texts symbols
      → (symbol : S) (text : Text) (i : ℕ) → StandsFor numbering texts symbol text → slice_get symbols i ≡ Some symbol → slice_get texts i ≡ Some text
  text-is texts symbols order are symbol text i stands is =
      let within : i < length texts = let w = slice_get_within symbols i symbol is in omega (arith, are.count) in
      let read : slice_get texts i ≡ Some (get_or texts i []) = slice_get-get_or texts i [] within in
      let here : StandsFor numbering texts symbol (get_or texts i []) = record { index = i; entry = read; symbol_is = symbol-is texts symbols i symbol are is } in
      let one : i ≡ stands.index = elim (cases_lt i stands.index) [
        | inl below ↦ let less = order symbol symbol (get_or texts i []) text here stands below in absurd (omega arith)
        | inr not_below ↦ elim (cases_lt stands.index i) [
          | inl above ↦ let less = order symbol symbol text (get_or texts i []) stands here above in absurd (omega arith)
          | inr not_above ↦ omega arith
        ]
      ] in
      ap (slice_get texts) one ∙ stands.entry

  -- a text that made the list no longer was known, and one that made it longer was put last
  pub known-same : (old : List Text) (text : Text) (symbol : S) (new : List Text) → Interns numbering old text (Ok symbol) new → length new ≡ length old → new ≡ old
  known-same old text symbol new interns count = elim (same_or_pushed numbering old text (Ok symbol) new interns) [
    | inl same ↦ same
    | inr more ↦ let longer = ap length more.pushed ∙ length_push old text in absurd (omega arith)
  ]

  pub new-pushed : (old : List Text) (text : Text) (symbol : S) (new : List Text) → Interns numbering old text (Ok symbol) new → length new ≢ length old
      → (new ≡ old ++ text ∷ []) × (numbering.symbol_of (numbering.place old) ≡ Some symbol)
  new-pushed old text symbol new interns longer = of (first old text) interns
    where
      of : (o : Option ℕ) → MatchOption o (Appends numbering.symbol_of numbering.place old text (Ok symbol) new) (λ i. (entry_symbol numbering old i ≡ Some symbol) × (new ≡ old))
          → (new ≡ old ++ text ∷ []) × (numbering.symbol_of (numbering.place old) ≡ Some symbol)
      of (Some i) known = absurd (longer (ap length known.1))
      of None put = (put.1, put.0)

  -- the numbers of the symbols ascend
  pub ascend : (texts : List Text) (symbols : List S) → NumbersInOrder numbering texts → AreNumbered numbering texts symbols → NumbersAscend numbering.number symbols
  ascend texts symbols order are = λ i j d less within.
      let at : (k : ℕ) → k < length symbols → StandsFor numbering texts (get_or symbols k d) (get_or texts k []) = λ k inside. record {
        index = k;
        entry = slice_get-get_or texts k [] (omega (arith, are.count));
        symbol_is = symbol-is texts symbols k (get_or symbols k d) are (slice_get-get_or symbols k d inside);
      } in
      order (get_or symbols i d) (get_or symbols j d) (get_or texts i []) (get_or texts j []) (at i (omega arith)) (at j within) less

  -- one more entry, with its symbol put last
  pub numbered-push : (texts : List Text) (text : Text) (symbols : List S) (symbol : S) → AreNumbered numbering texts symbols
      → numbering.symbol_of (numbering.place texts) ≡ Some symbol → AreNumbered numbering (texts ++ text ∷ []) (symbols ++ symbol ∷ [])
  numbered-push texts text symbols symbol are next =
      let more = texts ++ text ∷ [] in
      let long = length_push texts text in
      let longer = length_push symbols symbol in record {
        count = omega (arith, are.count);
        symbol_at = λ i within. elim (cases_lt i (length texts)) as (λ _. slice_get (symbols ++ symbol ∷ []) i ≡ entry_symbol numbering more i) [
          | inl earlier ↦ (let inside : i < length symbols = omega (arith, are.count) in
              let read = slice_get-get_or symbols i symbol inside in
              slice_get-append symbols (symbol ∷ []) i (get_or symbols i symbol) read ∙ sym read ∙ are.symbol_at i earlier
              ∙ ap (λ front. numbering.symbol_of (numbering.place front)) (sym (take-append-le i texts (text ∷ []) (omega arith))))
          | inr last ↦ (let at : i ≡ length texts = omega arith in
              subst (λ k. slice_get (symbols ++ symbol ∷ []) k ≡ entry_symbol numbering more k) (sym at)
              (ap (slice_get (symbols ++ symbol ∷ [])) (sym are.count) ∙ slice_get-push symbols symbol
              ∙ sym (ap (λ front. numbering.symbol_of (numbering.place front)) (take_at texts (text ∷ []) (length texts) refl) ∙ next)))
        ];
      }

  -- the next entry of a walk has the next symbol
  pub walked-next : (front behind ahead behind' ahead' : List Text) (symbol : S) (text : Text) → entries numbering behind ahead ≡ entries numbering front ahead
      → entries numbering behind ahead ≡ (Some symbol, text) ∷ entries numbering behind' ahead'
      → (numbering.symbol_of (numbering.place front) ≡ Some symbol) × (ahead ≡ text ∷ ahead') × (entries numbering behind' ahead' ≡ entries numbering (front ++ text ∷ []) ahead')
  walked-next front behind ahead behind' ahead' symbol text same step =
      let first_is = first_entry numbering behind ahead behind' ahead' (Some symbol) text step in
      let both : (numbering.symbol_of (numbering.place front), text) ∷ entries numbering (front ++ text ∷ []) ahead' ≡ (Some symbol, text) ∷ entries numbering behind' ahead' =
      sym (ap (entries numbering front) first_is) ∙ sym same ∙ step in
      let rest : entries numbering behind' ahead' ≡ entries numbering (front ++ text ∷ []) ahead' = cc in
      let pair : (numbering.symbol_of (numbering.place front), text) ≡ (Some symbol, text) = cc in
      (ap (λ (e : Option S × Text). e.0) pair, first_is, rest)

  -- the next symbol has a greater number than all before it
  pub next-greatest : (texts : List Text) (text : Text) (symbols : List S) (symbol : S) → NumbersInOrder numbering (texts ++ text ∷ []) → AreNumbered numbering texts symbols → numbering.symbol_of (numbering.place texts) ≡ Some symbol
      → All (λ other. numbering.number other < numbering.number symbol) symbols
  next-greatest texts text symbols symbol order are next = λ k d inside.
      let long = length_push symbols symbol in
      let less = ascend (texts ++ text ∷ []) (symbols ++ symbol ∷ []) order (numbered-push texts text symbols symbol are next) k (length symbols) d inside (omega arith) in
      rw (get_or_append_left symbols (symbol ∷ []) d k inside, get_or-append_seam symbols symbol [] d) at less

  module _ (numbered : (i : ℕ) (s : S) → numbering.symbol_of i ≡ Some s → (numbering.number s ≡ i) × (i < 2 ^ 64)) where
    -- the entry of a symbol of the list begins at the symbol's number
    pub begins-at : (texts : List Text) (symbols : List S) (i : ℕ) (symbol : S) → AreNumbered numbering texts symbols
        → slice_get symbols i ≡ Some symbol → BeginsAt numbering.place texts (numbering.number symbol) i
    begins-at texts symbols i symbol are is =
        let within = slice_get_within symbols i symbol is in record {
          within = omega (arith, are.count);
          begins = sym (numbered _ symbol (symbol-is texts symbols i symbol are is)).0;
        }

    module _ (grows : (texts : List Text) (text : Text) → numbering.place texts < numbering.place (texts ++ text ∷ [])) where
      -- an entry is placed before what follows it
      pub place-below : (front : List Text) (text : Text) (rest : List Text) → numbering.place front < numbering.place (front ++ text ∷ rest)
      place-below front text [] = grows front text
      place-below front text (next ∷ rest) =
          let one = grows front text in
          let more = place-below (front ++ text ∷ []) next rest in
          let same = ap numbering.place (append_assoc front (text ∷ []) (next ∷ rest)) in omega (arith, one, more, same)

      -- so the number of an entry's symbol is less than the greatest of a `usize`
      pub number-fits : (texts : List Text) (symbol : S) (text : Text) → numbering.place texts < 2 ^ 64 → StandsFor numbering texts symbol text → numbering.number symbol < 2 ^ 64 - 1
      number-fits texts symbol text fits stands =
          let split = split-at texts stands.index (slice_get_within texts stands.index text stands.entry) in
          let before = place-below (take stands.index texts) split.0 split.1 in
          let whole = ap numbering.place split.2 in
          let is = (numbered _ symbol stands.symbol_is).0 in omega (arith, before, whole, is, fits)
