-- What an interner keeps to, when a text is looked for and when one is put last.
use Rattle.std.proofs.Common.{◌≡◌, ℕ, ◌+◌, ◌<◌, List, [], ◌∷◌, ◌++◌, length, refl, sym, ap, subst, ◌∙◌, arith, Option, Some, None, Ok, IsSome}
use Rattle.std.specs.Prelude.{◌↔◌, IfSome, option_and_then, ◌≢◌, ◌^◌, slice_get, take}
use Rattle.std.proofs.lemmas.Option.{slice_get-get_or, slice_get_within, get_or_from_slice_get}
use Rattle.std.proofs.lemmas.Grind.{common_steps}
use Rattle.std.proofs.lemmas.List.{length_push}
use Rattle.std.proofs.lemmas.List.Quantifiers.{all_pairs_push}
use Rattle.string_interner.specs.Text.{Text, IsDistinct, first}
use Rattle.string_interner.specs.Backend.{IsValidList, Appends}
use Rattle.string_interner.specs.Entry.{entry_text}
use Rattle.string_interner.specs.Slots.{symbols}
use Rattle.string_interner.specs.TextIndex.{Adds, AddsEntry, FindsEntry, IsNewText}
use Rattle.string_interner.specs.Index.{AddsPair, Fits, IsAbsent, SameMap, look_up, text_of}
use Rattle.string_interner.specs.Interner.{Finds, IsInternerList, IsSoundInterner, entry_symbol, known_symbol}
use Rattle.string_interner.specs.InternAll.{IsKnown, IsResolved}
use Rattle.string_interner.specs.StandsFor.{StandsFor}
use Rattle.string_interner.specs.EntryLaws.{entry_text-adds, entry_text-at, entry_text-is}
use Rattle.string_interner.proofs.Lemmas.Backend.IsValidList.{valid-take, distinct-take}
use Rattle.string_interner.proofs.Lemmas.Texts.First.{first_within, first_is, first_none}
use Rattle.string_interner.proofs.Lemmas.Interner.StandsFor.{one_entry, finds-known}
use Rattle.string_interner.proofs.Lemmas.Index.IsWhole.{IsWhole, Fits-added, text_of-added, IsAbsent-added, IsWhole-added, look_up-known}
use Rattle.string_interner.specs.Numbering.{Numbering}

module _ {S : Type 0} (numbering : Numbering S) where
  -- the first texts of an interner's list are an interner's
  pub list-take : ((texts : List Text) (text : Text) → numbering.place texts < numbering.place (texts ++ text ∷ [])) → (len : ℕ) (old new : List Text) → new ≡ take len old
      → IsInternerList numbering old → IsInternerList numbering new
  list-take grows len old new is list = record {
    distinct = subst IsDistinct (sym is) (distinct-take len old list.distinct);
    valid = subst (IsValidList numbering.symbol_of numbering.place) (sym is) (valid-take numbering.symbol_of numbering.place grows len old list.valid);
  }

  -- with no symbol the text is new
  pub known_none : (texts : List Text) (t : Text) → IsValidList numbering.symbol_of numbering.place texts → known_symbol numbering texts t ≡ None → first texts t ≡ None
  known_none texts t valid h = none_of (first texts t) refl h
    where
      none_of : (o : Option ℕ) → first texts t ≡ o → option_and_then (entry_symbol numbering texts) o ≡ None → first texts t ≡ None
      none_of None e h = e
      none_of (Some i) e h = let s : IsSome (numbering.symbol_of (numbering.place (take i texts))) = valid.has_symbols i (first_within texts t i e) in absurd (grind (arith, common_steps))

  -- a text has a symbol exactly if it is known
  pub known-symbol : (texts : List Text) (t : Text) → IsValidList numbering.symbol_of numbering.place texts → IsSome (known_symbol numbering texts t) ↔ IsSome (first texts t)
  known-symbol texts t valid = of (first texts t) refl
    where
      of : (o : Option ℕ) → first texts t ≡ o → IsSome (option_and_then (entry_symbol numbering texts) o) ↔ IsSome o
      of None e = (λ h. h, λ h. h)
      of (Some i) e = (λ _. refl, λ _. valid.has_symbols i (first_within texts t i e))

  -- the symbol that stands for a text is its known symbol
  pub known-stands : (texts : List Text) → IsDistinct texts → (t : Text) (s : S) → StandsFor numbering texts s t → known_symbol numbering texts t ≡ Some s
  known-stands texts distinct t s stands =
      let within = slice_get_within texts stands.index t stands.entry in
      let of : (o : Option ℕ) → first texts t ≡ o → option_and_then (entry_symbol numbering texts) o ≡ Some s = elim [
        | None ↦ λ f. absurd (first_none texts t f stands.index [] within (get_or_from_slice_get texts stands.index t [] stands.entry))
        | Some j ↦ λ f.
            let here : slice_get texts j ≡ Some t = slice_get-get_or texts j [] (first_within texts t j f) ∙ ap Some (first_is texts t j f) in
            let same = one_entry texts t stands.index j distinct stands.entry here in
            ap (λ n. numbering.symbol_of (numbering.place (take n texts))) (sym same) ∙ stands.symbol_is
      ] in
      of (first texts t) refl

  -- a new text has no known symbol
  pub known-none : (texts : List Text) (t : Text) → first texts t ≡ None → known_symbol numbering texts t ≡ None
  known-none texts t is_new = ap (option_and_then (entry_symbol numbering texts)) is_new

  -- an interner without texts
  pub interned-none : (indexes : (S → Option Text) → Type 0) (entries : ℕ) (texts : List Text) → texts ≡ [] → numbering.place [] ≡ 0 → entries ≡ 0 → indexes (λ _. None)
      → IsSoundInterner numbering indexes entries texts
  interned-none indexes entries texts none starts zero whole = rw none (record {
    texts = record { distinct = λ i j d l m. absurd (omega arith); valid = record { utf8 = λ k d within. absurd (omega arith); has_symbols = λ i within. absurd (omega arith); fits = omega arith } };
    whole = whole;
    count = zero;
  })

module _ {S : Type 0} (numbering : Numbering S) where
  -- what is known of a text is found
  pub finds : (texts : List Text) (t : Text) (found : Option S) → IsValidList numbering.symbol_of numbering.place texts → found ≡ known_symbol numbering texts t → Finds numbering texts t found
  finds texts t found valid is = record {
    symbol = is;
    known = subst (λ o. IsSome o ↔ IsSome (first texts t)) (sym is) (known-symbol numbering texts t valid);
    stands = finds-known numbering texts t found valid is;
  }

module _ {S : Type 0} (numbering : Numbering S)
    (numbered : (i : ℕ) (s : S) → numbering.symbol_of i ≡ Some s → (numbering.number s ≡ i) × (i < 2 ^ 64))
    (injective : (a b : S) → numbering.number a ≡ numbering.number b → a ≡ b)
    (grows : (texts : List Text) (text : Text) → numbering.place texts < numbering.place (texts ++ text ∷ []))
    (texts : List Text) (distinct : IsDistinct texts) (valid : IsValidList numbering.symbol_of numbering.place texts) where
  abbrev entry : S → Option Text
  entry = entry_text numbering texts

  -- the symbol of an entry with this text is its known symbol
  pub known-entry : (t : Text) (s : S) → entry s ≡ Some t → known_symbol numbering texts t ≡ Some s
  known-entry t s e =
      let r = entry_text-is numbering texts s t e in
      let at : (j : ℕ) → first texts t ≡ Some j → (o : Option S) → IsSome o → entry_symbol numbering texts j ≡ o → o ≡ Some s = λ j f. elim [
        | None ↦ λ some is. absurd (cc)
        | Some u ↦ λ some is.
            let here : slice_get texts j ≡ Some t = slice_get-get_or texts j [] (first_within texts t j f) ∙ ap Some (first_is texts t j f) in
            let same = one_entry texts t r.0 j distinct r.2 here in
            ap Some (injective u s ((numbered (numbering.place (take j texts)) u is).0 ∙ ap (λ n. numbering.place (take n texts)) (sym same) ∙ r.1.begins))
      ] in
      let of : (o : Option ℕ) → first texts t ≡ o → option_and_then (entry_symbol numbering texts) o ≡ Some s = elim [
        | None ↦ λ f. absurd (first_none texts t f r.0 [] r.1.within (get_or_from_slice_get texts r.0 t [] r.2))
        | Some j ↦ λ f. at j f (entry_symbol numbering texts j) (valid.has_symbols j (first_within texts t j f)) refl
      ] in
      of (first texts t) refl

  -- a number whose entry has the text is known of it
  pub resolved-known : (symbol_of : ℕ → Option S) (guess : Option ℕ) (t : Text) → IsResolved symbol_of entry guess t → IsKnown symbol_of numbering texts t guess
  resolved-known symbol_of None t is = tt
  resolved-known symbol_of (Some number) t is = of (symbol_of number) is
    where
      of : (o : Option S) → IfSome o (λ s. entry s ≡ Some t) → IfSome o (λ s. StandsFor numbering texts s t)
      of None is = tt
      of (Some s) is = finds-known numbering texts t (Some s) valid (sym (known-entry t s is))

  -- a text that is no entry's is new
  pub new-text : (t : Text) → IsNewText entry t → first texts t ≡ None
  new-text t none =
      let at : (j : ℕ) → first texts t ≡ Some j → (o : Option S) → IsSome o → entry_symbol numbering texts j ≡ o → ⊥ = λ j f. elim [
        | None ↦ λ some is. absurd (cc)
        | Some u ↦ λ some is.
            let l = first_within texts t j f in
            none u (entry_text-at numbering grows texts u j l (numbered (numbering.place (take j texts)) u is).0 ∙ slice_get-get_or texts j [] l ∙ ap Some (first_is texts t j f))
      ] in
      let of : (o : Option ℕ) → first texts t ≡ o → o ≡ None = elim [
        | None ↦ λ f. refl
        | Some j ↦ λ f. absurd (at j f (entry_symbol numbering texts j) (valid.has_symbols j (first_within texts t j f)) refl)
      ] in
      of (first texts t) refl

  -- what a look-up in the entries found is the known symbol
  pub known-found : (t : Text) (found : Option S) → FindsEntry entry t found → found ≡ known_symbol numbering texts t
  known-found t None is_new = sym (known-none numbering texts t (new-text t is_new))
  known-found t (Some s) is = sym (known-entry t s is)

  -- a new text that is put last is one entry more
  pub adds-entry : (t : Text) (s : S) (more : List Text) → first texts t ≡ None → Appends numbering.symbol_of numbering.place texts t (Ok s) more → AddsEntry entry (entry_text numbering more) s t
  adds-entry t s more is_new put =
      let adds : Adds entry (entry_text numbering more) s t = rw put.1 (entry_text-adds numbering numbered injective grows texts t s put.0) in record {
        new_text = λ u e. let r = entry_text-is numbering texts u t e in first_none texts t is_new r.0 [] r.1.within (get_or_from_slice_get texts r.0 t [] r.2);
        adds = adds;
      }

  -- an index that takes it is one of the longer list
  pub interned-added : (old new : (S → Option Text) → Type 0) (entries more_entries : ℕ) (t : Text) (s : S) (more : List Text) → entries ≡ length texts → old entry → first texts t ≡ None
      → Appends numbering.symbol_of numbering.place texts t (Ok s) more → IsValidList numbering.symbol_of numbering.place more → more_entries ≡ entries + 1 → (AddsEntry entry (entry_text numbering more) s t → old entry → new (entry_text numbering more))
      → IsSoundInterner numbering new more_entries more
  interned-added old new entries more_entries t s more count whole is_new put more_kept one_more adds = record {
    texts = record { distinct = rw put.1 (all_pairs_push (λ a b. a ≢ b) texts t distinct (first_none texts t is_new)); valid = more_kept };
    whole = adds (adds-entry t s more is_new put) whole;
    count = (let long = ap length put.1 ∙ length_push texts t in omega arith);
  }

-- the invariant of an interner, of an index that has these slots
abbrev pub IsFilled : {S : Type 0} → Numbering S → (Text → ℕ) → List Text → List (Option S) → Type 0
IsFilled numbering code texts slots = IsSoundInterner numbering (λ entry. IsWhole entry code slots) (length (symbols slots)) texts

module _ {S : Type 0} (numbering : Numbering S)
    (numbered : (i : ℕ) (s : S) → numbering.symbol_of i ≡ Some s → (numbering.number s ≡ i) × (i < 2 ^ 64))
    (injective : (a b : S) → numbering.number a ≡ numbering.number b → a ≡ b)
    (grows : (texts : List Text) (text : Text) → numbering.place texts < numbering.place (texts ++ text ∷ []))
    (code : Text → ℕ) (texts : List Text) (slots : List (Option S)) (is : IsFilled numbering code texts slots) where
  abbrev entries : List Text → S → Option Text
  entries = entry_text numbering

  -- what is found under a text is its known symbol
  look_up-finds : (t : Text) → look_up (entries texts) slots t ≡ known_symbol numbering texts t
  look_up-finds = look_up-known numbering numbered grows code texts slots is.texts.valid is.whole

  -- the same of a list that is known by an equation
  pub sought : (lent : List Text) (found : Option S) (t : Text) → found ≡ look_up (entries lent) slots t → lent ≡ texts → known_symbol numbering texts t ≡ found
  sought lent found t e same = sym (look_up-finds t) ∙ ap (λ (xs : List Text). look_up (entries xs) slots t) (sym same) ∙ sym e

  -- slots that hold the same map, of as many symbols
  pub interned-same : (bigger : List (Option S)) → Fits (entries texts) code bigger → SameMap (entries texts) slots bigger
      → length (symbols bigger) ≡ length (symbols slots) → IsFilled numbering code texts bigger
  interned-same bigger fits same count = record {
    texts = record { distinct = is.texts.distinct; valid = is.texts.valid };
    whole = record { fits = fits; whole = λ s u e. same u ∙ is.whole.whole s u e };
    count = count ∙ is.count;
  }

  -- a text that is put last
  module _ (t : Text) (s : S) (more : List Text) (new_text : first texts t ≡ None) (put : Appends numbering.symbol_of numbering.place texts t (Ok s) more) where
    adds : Adds (entries texts) (entries more) s t
    adds = rw put.1 (entry_text-adds numbering numbered injective grows texts t s put.0)

    absent : look_up (entries texts) slots t ≡ None
    absent = look_up-finds t ∙ ap (option_and_then (entry_symbol numbering texts)) new_text

    -- the index still fits
    pub fits-more : Fits (entries more) code slots
    fits-more = Fits-added (entries texts) (entries more) code slots slots s t is.whole is.whole.fits (λ u. refl) adds

    -- its symbol may be inserted
    pub absent-more : IsAbsent (entries more) slots s
    absent-more = IsAbsent-added (entries texts) (entries more) code slots slots s t is.whole is.whole.fits (λ u. refl) adds absent

    -- it has the text
    pub text-more : text_of (entries more) s ≡ t
    text-more = text_of-added (entries texts) (entries more) code slots slots s t is.whole is.whole.fits (λ u. refl) adds

    -- once it is inserted the index has each text again
    pub interned-more : (new : List (Option S)) → IsValidList numbering.symbol_of numbering.place more → Fits (entries more) code new → AddsPair (entries more) slots new s
        → length (symbols new) ≡ length (symbols slots) + 1 → IsFilled numbering code more new
    interned-more new valid fits pair count = record {
      texts = record { distinct = rw put.1 (all_pairs_push (λ a b. a ≢ b) texts t is.texts.distinct (first_none texts t new_text)); valid = valid };
      whole = IsWhole-added (entries texts) (entries more) code slots slots s t is.whole is.whole.fits (λ u. refl) adds absent new fits pair;
      count = (let d = is.count in let e = ap length put.1 ∙ length_push texts t in omega arith);
    }
