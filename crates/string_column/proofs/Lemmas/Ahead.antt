-- The texts that were interned together, one after another: the symbol of the next one is listed, or the next to be.
use Rattle.std.proofs.Common.{◌≡◌, ℕ, ◌-◌, ◌<◌, ◌≤◌, List, [], ◌∷◌, ◌++◌, length, map, get_or, take, Option, Some, None, Result, Ok, Err, sym, ap, subst, ◌∙◌, refl, inl, inr, arith}
use Rattle.std.specs.Prelude.{◌^◌, ◌⊎◌, All, slice_get}
use Rattle.std.specs.Option.{option_map_or}
use Rattle.std.specs.declared.alloc.AllocError.{AllocError}
use Rattle.std.proofs.lemmas.List.{append_assoc, append-nil, length-append, take-append-le, take_at}
use Rattle.std.proofs.lemmas.Option.{slice_get_within, slice_get-get_or, same_Some, none-some}
use Rattle.std.proofs.lemmas.Slice.Zip.{all_zipped_more}
use Rattle.string_interner.specs.Text.{Text, IsDistinct, first}
use Rattle.string_interner.specs.Numbering.{Numbering}
use Rattle.string_interner.specs.StandsFor.{StandsFor, NumbersInOrder, StandInOrder, none, next}
use Rattle.string_interner.specs.Interner.{entry_symbol}
use Rattle.string_interner.specs.Extend.{fresh}
use Rattle.string_interner.proofs.Lemmas.Interner.Extends.{fresh-append}
use Rattle.string_interner.proofs.Lemmas.Texts.First.{first_within, first_is}
use Rattle.string_interner.proofs.Lemmas.Interner.StandsFor.{one_entry}
use Rattle.string_column.specs.Entries.{AreNumbered, NumbersAscend}
use Rattle.string_column.specs.Column.{AreCodes}
use Rattle.string_column.specs.Ahead.{IsAhead, IsListed, TakesRows}
use Rattle.string_column.proofs.Lemmas.Rows.{codes-stay}
use Rattle.string_column.proofs.Lemmas.AreNumbered.{slice_get-append, slice_get-push, numbered-push, symbol-is, text-is, ascend, number-fits}

module _ {S : Type 0} (numbering : Numbering S) where
  -- the first of the numbers is that of a symbol, which stands for the first of the texts
  pub record Next (entries texts : List Text) (number : ℕ) (numbers : List ℕ) : Type 0 where
    pub text : Text
    pub rest : List Text
    pub symbol : S
    pub pending : List S
    pub texts_are : texts ≡ text ∷ rest
    pub stands : StandsFor numbering entries symbol text
    pub number_is : number ≡ numbering.number symbol
    pub stand : StandInOrder numbering entries pending rest
    pub numbers_are : numbers ≡ map numbering.number pending

  pub next-of : (front entries : List Text) (symbols : List S) (texts : List Text) (number : ℕ) (numbers : List ℕ) → IsAhead numbering front entries symbols texts (number ∷ numbers) → Next entries texts number numbers
  next-of front entries symbols texts number numbers ahead = of ahead.pending texts ahead.stand ahead.numbers_are
    where
      of : (pending : List S) (texts : List Text) → StandInOrder numbering entries pending texts → number ∷ numbers ≡ map numbering.number pending → Next entries texts number numbers
      of _ _ none is = absurd (cc)
      of _ _ (next {symbol = symbol} {text = text} {symbols = pending} {rest = rest} stands more) is = record {
        text = text;
        rest = rest;
        symbol = symbol;
        pending = pending;
        texts_are = refl;
        stands = stands;
        number_is = cc;
        stand = more;
        numbers_are = cc;
      }

  -- no number is left where no text is, and the other way round
  pub none-left : (front entries : List Text) (symbols : List S) (texts : List Text) → IsAhead numbering front entries symbols texts [] → texts ≡ []
  none-left front entries symbols texts ahead = of ahead.pending texts ahead.stand ahead.numbers_are
    where
      of : (pending : List S) (texts : List Text) → StandInOrder numbering entries pending texts → [] ≡ map numbering.number pending → texts ≡ []
      of _ _ none is = refl
      of _ _ (next {symbol = symbol} {text = text} {symbols = pending} {rest = rest} stands more) is = absurd (cc)

  -- the number has that symbol
  pub next-symbol : ((i : ℕ) (s : S) → numbering.symbol_of i ≡ Some s → (numbering.number s ≡ i) × (i < 2 ^ 64)) → (entries texts : List Text) (number : ℕ) (numbers : List ℕ)
      → (first : Next entries texts number numbers) → numbering.symbol_of number ≡ Some first.symbol
  next-symbol numbered entries texts number numbers first =
      let placed = numbered _ first.symbol first.stands.symbol_is in
      ap numbering.symbol_of (first.number_is ∙ placed.0) ∙ first.stands.symbol_is

  -- the next text stands behind those in front, or among them, and its symbol is listed, or the next to be
  pub record Taken (front entries : List Text) (symbols : List S) (text : Text) (rest : List Text) (symbol : S) : Type 0 where
    pub stands : StandsFor numbering (front ++ fresh front (text ∷ [])) symbol text
    pub new : entries ≡ (front ++ fresh front (text ∷ [])) ++ fresh (front ++ fresh front (text ∷ [])) rest
    pub place : (IsListed symbols symbol × (front ++ fresh front (text ∷ []) ≡ front))
        ⊎ (All (λ other. numbering.number other < numbering.number symbol) symbols × AreNumbered numbering (front ++ fresh front (text ∷ [])) (symbols ++ symbol ∷ []))

  -- an entry stands in a list that goes on where it stood, and its symbol is the same
  front-symbol : (front more entries : List Text) (i j : ℕ) (symbol : S) → entries ≡ front ++ more → i ≤ length front → j ≡ i → entry_symbol numbering entries j ≡ Some symbol → entry_symbol numbering front i ≡ Some symbol
  front-symbol front more entries i j symbol is upto one named =
      ap (λ texts. numbering.symbol_of (numbering.place texts)) (sym (ap (λ all. take i all) is ∙ take-append-le i front more upto) ∙ ap (λ (n : ℕ). take n entries) (sym one)) ∙ named

  module _ (ordered : (texts : List Text) → NumbersInOrder numbering texts) where
    pub taken : (front entries : List Text) (symbols : List S) (text : Text) (rest : List Text) (symbol : S) → IsDistinct entries → AreNumbered numbering front symbols
        → entries ≡ front ++ fresh front (text ∷ rest) → StandsFor numbering entries symbol text → Taken front entries symbols text rest symbol
    taken front entries symbols text rest symbol distinct are new stands =
        let all = of (first front text) refl new in record { stands = all.0; new = all.1; place = all.2 }
      where
        of : (o : Option ℕ) → first front text ≡ o → entries ≡ front ++ option_map_or (λ _. fresh front rest) o (text ∷ fresh (front ++ text ∷ []) rest)
            → StandsFor numbering (front ++ option_map_or (λ _. []) o (text ∷ [])) symbol text
            × (entries ≡ (front ++ option_map_or (λ _. []) o (text ∷ [])) ++ fresh (front ++ option_map_or (λ _. []) o (text ∷ [])) rest)
            × ((IsListed symbols symbol × (front ++ option_map_or (λ _. []) o (text ∷ []) ≡ front))
            ⊎ (All (λ other. numbering.number other < numbering.number symbol) symbols × AreNumbered numbering (front ++ option_map_or (λ _. []) o (text ∷ [])) (symbols ++ symbol ∷ [])))
        of (Some i) found is =
            let within = first_within front text i found in
            let here : slice_get front i ≡ Some text = slice_get-get_or front i [] within ∙ ap Some (first_is front text i found) in
            let there : slice_get entries i ≡ Some text = subst (λ all. slice_get all i ≡ Some text) (sym is) (slice_get-append front (fresh front rest) i text here) in
            let one : stands.index ≡ i = one_entry entries text stands.index i distinct stands.entry there in
            let named : entry_symbol numbering front i ≡ Some symbol = front-symbol front (fresh front rest) entries i stands.index symbol is (omega arith) one stands.symbol_is in
            rw (append-nil front) (record { index = i; entry = here; symbol_is = named }, is, inl ((i, are.symbol_at i within ∙ named), refl))
        of None found is =
            let longer = front ++ text ∷ [] in
            let split : entries ≡ longer ++ fresh longer rest = is ∙ sym (append_assoc front (text ∷ []) (fresh longer rest)) in
            let here : slice_get longer (length front) ≡ Some text = slice_get-push front text in
            let there : slice_get entries (length front) ≡ Some text = subst (λ all. slice_get all (length front) ≡ Some text) (sym split) (slice_get-append longer (fresh longer rest) (length front) text here) in
            let one : stands.index ≡ length front = one_entry entries text stands.index (length front) distinct stands.entry there in
            let whole : take (length front) longer ≡ front = take_at front (text ∷ []) (length front) refl in
            let named : entry_symbol numbering longer (length front) ≡ Some symbol = front-symbol longer (fresh longer rest) entries (length front) stands.index symbol split (let n = length-append front (text ∷ []) in omega (arith, n)) one stands.symbol_is in
            let stands_now : StandsFor numbering longer symbol text = record { index = length front; entry = here; symbol_is = named } in
            let below : All (λ other. numbering.number other < numbering.number symbol) symbols = λ k d inside.
            let at : k < length front = omega (arith, are.count) in
            let other = get_or symbols k d in
            let before : StandsFor numbering longer other (get_or front k []) = record {
              index = k;
              entry = slice_get-append front (text ∷ []) k (get_or front k []) (slice_get-get_or front k [] at);
              symbol_is = ap (λ texts. numbering.symbol_of (numbering.place texts)) (take-append-le k front (text ∷ []) (omega arith)) ∙ symbol-is numbering front symbols k other are (slice_get-get_or symbols k d inside);
            } in
            ordered longer other symbol (get_or front k []) text before stands_now at in
            (stands_now, split, inr (below, numbered-push numbering front text symbols symbol are (ap (λ texts. numbering.symbol_of (numbering.place texts)) (sym whole) ∙ named)))

    -- once the symbol is listed, where it may have been before
    pub taken-at : (front entries : List Text) (symbols : List S) (text : Text) (rest : List Text) (symbol : S) → AreNumbered numbering front symbols → (follows : Taken front entries symbols text rest symbol)
        → (after : List S) (index : ℕ) → (IsListed symbols symbol → after ≡ symbols) → (All (λ other. numbering.number other < numbering.number symbol) symbols → after ≡ symbols ++ symbol ∷ [])
        → slice_get after index ≡ Some symbol → AreNumbered numbering (front ++ fresh front (text ∷ [])) after × (slice_get (front ++ fresh front (text ∷ [])) index ≡ Some text)
    taken-at front entries symbols text rest symbol are follows after index same more at =
        let longer = front ++ fresh front (text ∷ []) in
        let numbered : AreNumbered numbering longer after = elim follows.place [
          | inl known ↦ rw (same known.0, known.1) are
          | inr new ↦ rw (more new.0) new.1
        ] in
        (numbered, text-is numbering longer after (ordered longer) numbered symbol text index follows.stands at)

  -- what `take_symbol` asks for
  pub taken-known : (front entries : List Text) (symbols : List S) (text : Text) (rest : List Text) (symbol : S) → Taken front entries symbols text rest symbol
      → IsListed symbols symbol ⊎ All (λ other. numbering.number other < numbering.number symbol) symbols
  taken-known front entries symbols text rest symbol follows = elim follows.place [
    | inl known ↦ inl known.0
    | inr new ↦ inr new.0
  ]

  -- the index that `take_symbol` returns is at most the number of symbols before
  pub taken-within : (symbols after : List S) (symbol : S) (index : ℕ) → IsListed symbols symbol ⊎ All (λ other. numbering.number other < numbering.number symbol) symbols
      → (IsListed symbols symbol → after ≡ symbols) → (All (λ other. numbering.number other < numbering.number symbol) symbols → after ≡ symbols ++ symbol ∷ [])
      → slice_get after index ≡ Some symbol → index ≤ length symbols
  taken-within symbols after symbol index known same more at =
      let within = slice_get_within after index symbol at in
      elim known [
        | inl listed ↦ omega (arith, within, ap length (same listed))
        | inr new ↦ omega (arith, within, ap length (more new) ∙ length-append symbols (symbol ∷ []))
      ]

  -- the symbols of the texts so far are listed, and their codes put last
  abbrev pub TakesSome : List Text → List Text → List Text → List ℕ → List ℕ → List S → List ℕ → Type 0
  TakesSome front entries texts codes numbers symbols longer = (so_far rest : List Text) × (added : List ℕ) × (texts ≡ so_far ++ rest) × (longer ≡ codes ++ added) × AreCodes (front ++ fresh front so_far) added so_far
      × IsAhead numbering (front ++ fresh front so_far) entries symbols rest numbers

  pub some-none : (front entries texts : List Text) (codes numbers : List ℕ) (symbols : List S) → IsAhead numbering front entries symbols texts numbers → TakesSome front entries texts codes numbers symbols codes
  some-none front entries texts codes numbers symbols ahead =
      ([], texts, [], refl, sym (append-nil codes), tt, subst (λ (f : List Text). IsAhead numbering f entries symbols texts numbers) (sym (append-nil front)) ahead)

  -- of all texts
  pub some-all : (front entries texts : List Text) (codes numbers : List ℕ) (symbols : List S) (longer : List ℕ) (outcome : Result (Unit {0}) AllocError) → outcome ≡ Ok tt → numbers ≡ []
      → TakesSome front entries texts codes numbers symbols longer → TakesRows numbering front entries texts codes outcome (symbols, longer)
  some-all front entries texts codes numbers symbols longer outcome ok empty some =
      rw ok (some.0, some.1, some.2, numbers, some.3, some.4, some.5, some.6, none-left _ entries symbols some.1 (rw empty at some.6))

  -- of those before one
  pub some-stopped : (front entries texts : List Text) (codes numbers : List ℕ) (symbols : List S) (longer : List ℕ) (outcome : Result (Unit {0}) AllocError) (error : AllocError) (number : ℕ) (left : List ℕ)
      → outcome ≡ Err error → numbers ≡ number ∷ left → TakesSome front entries texts codes numbers symbols longer → TakesRows numbering front entries texts codes outcome (symbols, longer)
  some-stopped front entries texts codes numbers symbols longer outcome error number left e more some =
      let next = next-of _ entries symbols some.1 number left (rw more at some.6) in
      rw e (some.0, some.1, some.2, numbers, some.3, some.4, some.5, some.6, λ empty. absurd (let bad = sym next.texts_are ∙ empty in cc))

  module _ (numbered : (i : ℕ) (s : S) → numbering.symbol_of i ≡ Some s → (numbering.number s ≡ i) × (i < 2 ^ 64)) (ordered : (texts : List Text) → NumbersInOrder numbering texts) where
    -- the next symbol, and where it is
    pub some-next : (front entries texts : List Text) (codes numbers : List ℕ) (symbols : List S) (longer : List ℕ) (number : ℕ) (left : List ℕ) (symbol : S) → numbers ≡ number ∷ left
        → numbering.symbol_of number ≡ Some symbol → TakesSome front entries texts codes numbers symbols longer
        → NumbersAscend numbering.number symbols × (IsListed symbols symbol ⊎ All (λ other. numbering.number other < numbering.number symbol) symbols)
    some-next front entries texts codes numbers symbols longer number left symbol more named some =
        let ahead = rw more at some.6 in
        let next = next-of _ entries symbols some.1 number left ahead in
        let same : next.symbol ≡ symbol = same_Some _ _ (sym (next-symbol numbered entries some.1 number left next) ∙ named) in
        let place = taken ordered (front ++ fresh front some.0) entries symbols next.text next.rest next.symbol ahead.distinct ahead.numbered
        (ahead.new ∙ ap (λ rest. (front ++ fresh front some.0) ++ fresh (front ++ fresh front some.0) rest) next.texts_are) next.stands in
        (ascend numbering _ symbols (ordered _) ahead.numbered, rw (← same) (taken-known _ entries symbols next.text next.rest next.symbol place))

    -- and a number after it fits
    pub some-fits : ((texts : List Text) (text : Text) → numbering.place texts < numbering.place (texts ++ text ∷ [])) → (front entries texts : List Text) (codes numbers : List ℕ) (symbols : List S) (longer : List ℕ)
        → (number : ℕ) (left : List ℕ) (symbol : S) → numbers ≡ number ∷ left → numbering.symbol_of number ≡ Some symbol → TakesSome front entries texts codes numbers symbols longer → numbering.number symbol < 2 ^ 64 - 1
    some-fits grows front entries texts codes numbers symbols longer number left symbol more named some =
        let ahead = rw more at some.6 in
        let next = next-of _ entries symbols some.1 number left ahead in
        let same : next.symbol ≡ symbol = same_Some _ _ (sym (next-symbol numbered entries some.1 number left next) ∙ named) in
        rw (← same) (number-fits numbering numbered grows entries next.symbol next.text ahead.fits next.stands)

    -- the number has a symbol
    pub some-symbol : (front entries texts : List Text) (codes numbers : List ℕ) (symbols : List S) (longer : List ℕ) (number : ℕ) (left : List ℕ) → numbers ≡ number ∷ left
        → numbering.symbol_of number ≡ None → TakesSome front entries texts codes numbers symbols longer → ⊥
    some-symbol front entries texts codes numbers symbols longer number left more unnamed some =
        let next = next-of _ entries symbols some.1 number left (rw more at some.6) in
        none-some _ (sym unnamed ∙ next-symbol numbered entries some.1 number left next)

    -- one more text
    pub some-more : (front entries texts : List Text) (codes numbers : List ℕ) (symbols : List S) (longer : List ℕ) (number : ℕ) (left : List ℕ) (symbol : S) (after : List S) (index : ℕ) → numbers ≡ number ∷ left
        → numbering.symbol_of number ≡ Some symbol → (IsListed symbols symbol → after ≡ symbols) → (All (λ other. numbering.number other < numbering.number symbol) symbols → after ≡ symbols ++ symbol ∷ [])
        → slice_get after index ≡ Some symbol → TakesSome front entries texts codes numbers symbols longer → TakesSome front entries texts codes left after (longer ++ index ∷ [])
    some-more front entries texts codes numbers symbols longer number left symbol after index more named listed beyond at some =
        let so_far = some.0 in
        let now = front ++ fresh front so_far in
        let ahead = rw more at some.6 in
        let next = next-of now entries symbols some.1 number left ahead in
        let same : next.symbol ≡ symbol = same_Some _ _ (sym (next-symbol numbered entries some.1 number left next) ∙ named) in
        let stands : StandsFor numbering entries symbol next.text = rw same at next.stands in
        let place = taken ordered now entries symbols next.text next.rest symbol ahead.distinct ahead.numbered
        (ahead.new ∙ ap (λ rest. now ++ fresh now rest) next.texts_are) stands in
        let there = taken-at ordered now entries symbols next.text next.rest symbol ahead.numbered place after index listed beyond at in
        let longer_front : now ++ fresh now (next.text ∷ []) ≡ front ++ fresh front (so_far ++ next.text ∷ []) =
        append_assoc front (fresh front so_far) (fresh now (next.text ∷ [])) ∙ ap (λ more. front ++ more) (sym (fresh-append front so_far (next.text ∷ []))) in (
          so_far ++ next.text ∷ [],
          next.rest,
          some.2 ++ index ∷ [],
          some.3 ∙ ap (λ rest. so_far ++ rest) next.texts_are ∙ sym (append_assoc so_far (next.text ∷ []) next.rest),
          ap (λ all. all ++ index ∷ []) some.4 ∙ append_assoc codes some.2 (index ∷ []),
          subst (λ list. AreCodes list (some.2 ++ index ∷ []) (so_far ++ next.text ∷ [])) longer_front
              (all_zipped_more (λ c r. slice_get (now ++ fresh now (next.text ∷ [])) c ≡ Some r) some.2 so_far index next.text (codes-stay now (fresh now (next.text ∷ [])) some.2 so_far some.5) there.1),
          record {
            distinct = ahead.distinct;
            numbered = rw longer_front at there.0;
            new = place.new ∙ ap (λ (f : List Text). f ++ fresh f next.rest) longer_front;
            fits = ahead.fits;
            pending = next.pending;
            stand = next.stand;
            numbers_are = next.numbers_are;
          },
        )
