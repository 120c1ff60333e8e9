-- Symbols of which those in front have their indexes as numbers: where each is, and which are those behind them.
use Rattle.std.proofs.Common.{◌≡◌, ℕ, ◌+◌, ◌-◌, ◌<◌, ◌≤◌, List, [], ◌∷◌, ◌++◌, length, get_or, zero, suc, add-one, Option, Some, None, true, false, refl, sym, ap, subst, ◌∙◌, inl, inr, arith}
use Rattle.std.specs.Prelude.{◌^◌, ◌⊎◌, All, IsSome, slice_get}
use Rattle.std.proofs.lemmas.Bool.{cases_lt}
use Rattle.std.proofs.lemmas.List.{append-nil, length-append, length_push, get_or-append-add}
use Rattle.std.proofs.lemmas.Option.{get_or_from_slice_get, slice_get_within, same_Some}
use Rattle.string_column.specs.Ahead.{IsListed}
use Rattle.string_column.specs.Entries.{NumbersAscend}
use Rattle.string_column.specs.Symbols.{symbols_below, IsSymbolList}
use Rattle.string_column.proofs.Lemmas.AreNumbered.{slice_get-append, slice_get-push}

-- an element behind a list
slice_get-behind : {X : Type 0} (xs ys : List X) (i : ℕ) → slice_get (xs ++ ys) (length xs + i) ≡ slice_get ys i
slice_get-behind [] ys i = ap (slice_get ys) (let none : 0 + i ≡ i = omega arith in none)
slice_get-behind (x ∷ xs) ys i = ap (slice_get (x ∷ xs ++ ys)) (let next : suc (length xs) + i ≡ suc (length xs + i) = omega arith in next) ∙ slice_get-behind xs ys i

-- where the numbers ascend, an index is at most the number that is there
index-upto : {S : Type 0} (number : S → ℕ) (symbols : List S) (i : ℕ) (d : S) → NumbersAscend number symbols → i < length symbols → i ≤ number (get_or symbols i d)
index-upto number symbols zero d up within = omega arith
index-upto number symbols (suc i) d up within =
    let before = index-upto number symbols i d up (omega arith) in
    let less = up i (suc i) d (omega arith) within in omega arith

-- and the count is at most a number that is greater than all
count-upto : {S : Type 0} (number : S → ℕ) (symbols : List S) (symbol : S) → NumbersAscend number symbols → All (λ other. number other < number symbol) symbols → length symbols ≤ number symbol
count-upto number [] symbol up below = omega arith
count-upto number (s ∷ symbols) symbol up below =
    let last = index-upto number (s ∷ symbols) (length symbols) s up (omega arith) in
    let less = below (length symbols) s (omega arith) in omega arith

-- what holds of all holds of those behind
behind-all : {S : Type 0} (P : S → Type 0) (front others : List S) → All P (front ++ others) → All P others
behind-all P front others all = λ k d within.
    subst P (get_or-append-add front others k d) (all (length front + k) d (let n = length-append front others in omega arith))

behind-ascend : {S : Type 0} (number : S → ℕ) (front others : List S) → NumbersAscend number (front ++ others) → NumbersAscend number others
behind-ascend number front others up = λ i j d less within.
    let n = length-append front others in
    let here = up (length front + i) (length front + j) d (omega arith) (omega arith) in
    rw (get_or-append-add front others i d, get_or-append-add front others j d) at here

-- a symbol that is listed has no greater number than itself
pub not-above : {S : Type 0} (number : S → ℕ) (symbols : List S) (symbol : S) → IsListed symbols symbol → All (λ other. number other < number symbol) symbols → ⊥
not-above number symbols symbol listed below =
    let less = below listed.0 symbol (slice_get_within symbols listed.0 symbol listed.1) in
    let read = get_or_from_slice_get symbols listed.0 symbol symbol listed.1 in omega (arith, less, ap number read)

module _ {S : Type 0} (symbol_of : ℕ → Option S) where
  -- the symbol of a number that has one
  some-at : (n : ℕ) → IsSome (symbol_of n) → (s : S) × (symbol_of n ≡ Some s)
  some-at n some = of (symbol_of n) refl some
    where
      of : (o : Option S) → symbol_of n ≡ o → IsSome o → (s : S) × (symbol_of n ≡ Some s)
      of (Some s) e some = (s, e)
      of None e some = absurd (let no : false ≡ true = some in cc)

  -- one number more
  pub below-more : (n : ℕ) (s : S) → symbol_of n ≡ Some s → symbols_below symbol_of (n + 1) ≡ symbols_below symbol_of n ++ s ∷ []
  below-more n s is = rw (add-one n, is) refl

  pub below-length : (n : ℕ) → ((i : ℕ) → i < n → IsSome (symbol_of i)) → length (symbols_below symbol_of n) ≡ n
  below-length zero have = refl
  below-length (suc n) have =
      let last = some-at n (have n (omega arith)) in
      let front = below-length n (λ i less. have i (omega arith)) in
      let more : symbols_below symbol_of (suc n) ≡ symbols_below symbol_of n ++ last.0 ∷ [] = rw last.1 refl in
      let long = ap length more ∙ length_push (symbols_below symbol_of n) last.0 in omega arith

  -- each symbol is at its number
  pub below-at : (n : ℕ) → ((i : ℕ) → i < n → IsSome (symbol_of i)) → (i : ℕ) (s : S) → i < n → symbol_of i ≡ Some s → slice_get (symbols_below symbol_of n) i ≡ Some s
  below-at zero have i s within is = absurd (omega arith)
  below-at (suc n) have i s within is =
      let last = some-at n (have n (omega arith)) in
      let front = symbols_below symbol_of n in
      let long = below-length n (λ j less. have j (omega arith)) in
      let more : symbols_below symbol_of (suc n) ≡ front ++ last.0 ∷ [] = rw last.1 refl in
      rw more (elim (cases_lt i n) as (λ _. slice_get (front ++ last.0 ∷ []) i ≡ Some s) [
        | inl before ↦ slice_get-append front (last.0 ∷ []) i s (below-at n (λ j less. have j (omega arith)) i s before is)
        | inr not ↦ (let same : i ≡ n = omega arith in
            subst (λ k. slice_get (front ++ last.0 ∷ []) k ≡ Some s) (long ∙ sym same) (slice_get-push front last.0 ∙ sym last.1 ∙ ap symbol_of (sym same) ∙ is))
      ])

  module _ (plain : ℕ) (others : List S) (are : IsSymbolList symbol_of plain others) where
    -- how many symbols there are
    pub count-of : length (symbols_below symbol_of plain ++ others) ≡ plain + length others
    count-of = let n = length-append (symbols_below symbol_of plain) others in let front = below-length plain are.have_symbols in omega arith

    -- a symbol in front is at its number
    pub front-at : (i : ℕ) (s : S) → i < plain → symbol_of i ≡ Some s → slice_get (symbols_below symbol_of plain ++ others) i ≡ Some s
    front-at i s within is = slice_get-append (symbols_below symbol_of plain) others i s (below-at plain are.have_symbols i s within is)

    -- and others are behind those
    pub other-at : (i : ℕ) (s : S) → slice_get others i ≡ Some s → slice_get (symbols_below symbol_of plain ++ others) (plain + i) ≡ Some s
    other-at i s is =
        subst (λ (n : ℕ). slice_get (symbols_below symbol_of plain ++ others) (n + i) ≡ Some s) (below-length plain are.have_symbols) (slice_get-behind (symbols_below symbol_of plain) others i ∙ is)

    module _ (number : S → ℕ) (numbered : (i : ℕ) (s : S) → symbol_of i ≡ Some s → (number s ≡ i) × (i < 2 ^ 64)) where
      -- a symbol that is listed, and is none of those in front, is one of the others
      pub listed-other : (s : S) → plain ≤ number s → IsListed (symbols_below symbol_of plain ++ others) s → IsListed others s
      listed-other s above listed =
          let i = listed.0 in
          let long = below-length plain are.have_symbols in
          elim (cases_lt i plain) [
            | inl before ↦ (let here = some-at i (are.have_symbols i before) in
                let same : here.0 ≡ s = same_Some _ _ (sym (front-at i here.0 before here.1) ∙ listed.1) in
                let is = (numbered i here.0 here.1).0 in absurd (omega (arith, above, before, is, ap number same)))
            | inr not ↦ (let back : plain + (i - plain) ≡ i = omega arith in (
              i - plain,
              sym (slice_get-behind (symbols_below symbol_of plain) others (i - plain))
                  ∙ ap (slice_get (symbols_below symbol_of plain ++ others)) (ap (λ (n : ℕ). n + (i - plain)) long ∙ back) ∙ listed.1,
            ))
          ]

      -- what is asked of the others
      pub others-ascend : NumbersAscend number (symbols_below symbol_of plain ++ others) → NumbersAscend number others
      others-ascend = behind-ascend number (symbols_below symbol_of plain) others

      pub others-below : (s : S) → All (λ other. number other < number s) (symbols_below symbol_of plain ++ others) → All (λ other. number other < number s) others
      others-below s = behind-all (λ other. number other < number s) (symbols_below symbol_of plain) others

      -- there is room to count one more
      pub room-for : (s : S) → NumbersAscend number (symbols_below symbol_of plain ++ others) → All (λ other. number other < number s) (symbols_below symbol_of plain ++ others) → plain + length others ≤ number s
      room-for s up below = let upto = count-upto number (symbols_below symbol_of plain ++ others) s up below in let n = count-of in omega arith

      -- where there are no others, no symbol of such a number is listed
      pub none-listed-other : (s : S) → plain ≤ number s → others ≡ [] → IsListed (symbols_below symbol_of plain ++ others) s → ⊥
      none-listed-other s above none listed =
          let other = listed-other s above listed in
          let within = slice_get_within others other.0 s other.1 in absurd (omega (arith, within, ap length none))

      -- what is known of the others
      pub other-known : (s : S) → plain ≤ number s → IsListed (symbols_below symbol_of plain ++ others) s ⊎ All (λ other. number other < number s) (symbols_below symbol_of plain ++ others)
          → IsListed others s ⊎ All (λ other. number other < number s) others
      other-known s above known = elim known [
        | inl listed ↦ inl (listed-other s above listed)
        | inr below ↦ inr (others-below s below)
      ]

      -- the others, with one more if it is new
      pub others-after : (s : S) → plain ≤ number s → number s < 2 ^ 64 - 1 → NumbersAscend number (symbols_below symbol_of plain ++ others)
          → IsListed (symbols_below symbol_of plain ++ others) s ⊎ All (λ other. number other < number s) (symbols_below symbol_of plain ++ others)
          → (after : List S) → (IsListed others s → after ≡ others) → (All (λ other. number other < number s) others → after ≡ others ++ s ∷ []) → IsSymbolList symbol_of plain after
      others-after s above fits up known after same more = elim known [
        | inl listed ↦ rw (same (listed-other s above listed)) are
        | inr below ↦ record {
          have_symbols = are.have_symbols;
          fits = let room = room-for s up below in let n = ap length (more (others-below s below)) ∙ length_push others s in omega (arith, room, n, fits);
        }
      ]

  -- the symbol after those in front, where there are no others
  pub next-at : (plain : ℕ) (others : List S) (are : IsSymbolList symbol_of plain others) (s : S) → symbol_of plain ≡ Some s → others ≡ [] → slice_get (symbols_below symbol_of (plain + 1) ++ others) plain ≡ Some s
  next-at plain others are s is none =
      rw (none, append-nil (symbols_below symbol_of (plain + 1)), below-more plain s is)
      (subst (λ (n : ℕ). slice_get (symbols_below symbol_of plain ++ s ∷ []) n ≡ Some s) (below-length plain are.have_symbols) (slice_get-push (symbols_below symbol_of plain) s))
