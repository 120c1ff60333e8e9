-- Which text a symbol stands for: where a list gets longer, what is found, and the laws of such symbols.
use Rattle.std.proofs.Common.{◌≡◌, ℕ, ◌<◌, List, [], ◌∷◌, ◌++◌, length, take, ◌≤◌, get_or, Option, Some, None, Result, Ok, Err, arith, refl, sym, ap, ◌∙◌, subst, inl, inr, zero, suc, add-one, false, true}
use Rattle.std.specs.Prelude.{slice_get, MatchOption, IsOkAnd, IfOk, IsSome, IsTrue, Bool, ◌↔◌, ◌⊎◌, ◌^◌, ◌≢◌, option_and_then}
use Rattle.std.proofs.lemmas.Bool.{cases_lt}
use Rattle.std.proofs.lemmas.Option.{slice_get_within, slice_get-get_or, get_or_from_slice_get, same_Some}
use Rattle.std.proofs.lemmas.List.{length-append, get_or_append_left, take_at, take_more, take-append-le}
use Rattle.std.proofs.Math.Seq.{get_or-append_seam}
use Rattle.std.proofs.lemmas.List.Quantifiers.{all_pairs_push}
use Rattle.string_interner.specs.Text.{Text, IsDistinct, first}
use Rattle.string_interner.specs.Backend.{BeginsAt, IsPlace, IsValidList, Appends}
use Rattle.string_interner.specs.Interner.{Interns, entry_symbol, known_symbol}
use Rattle.string_interner.specs.StandsFor.{StandsFor, KeepsSymbols, FindsSymbol, TellsApart, NumbersInOrder}
use Rattle.string_interner.specs.EntryLaws.{entry_text-at}
use Rattle.string_interner.specs.declared.backend.InternError.{InternError}
use Rattle.string_interner.specs.declared.backend.InternError.TheVariants.{NoSymbol, Memory}
use Rattle.string_interner.proofs.Lemmas.Texts.First.{first_within, first_is, first_none}
use Rattle.string_interner.specs.Numbering.{Numbering}

-- an entry stays where the list gets longer
entry_stays : (xs ys : List Text) (i : ℕ) (text : Text) → slice_get xs i ≡ Some text → slice_get (xs ++ ys) i ≡ Some text
entry_stays xs ys i text is =
    let within = slice_get_within xs i text is in
    slice_get-get_or (xs ++ ys) i text (omega (arith, length-append xs ys))
    ∙ ap Some (get_or_append_left xs ys text i within ∙ get_or_from_slice_get xs i text text is)

-- two entries of distinct texts that are one text are one entry
pub one_entry : (texts : List Text) (text : Text) (i j : ℕ) → IsDistinct texts → slice_get texts i ≡ Some text → slice_get texts j ≡ Some text → i ≡ j
one_entry texts text i j distinct at_i at_j =
    let is_i = get_or_from_slice_get texts i text text at_i in
    let is_j = get_or_from_slice_get texts j text text at_j in
    elim (cases_lt i j) [
      | inl below ↦ absurd (distinct i j text below (slice_get_within texts j text at_j) (is_i ∙ sym is_j))
      | inr not_below ↦ elim (cases_lt j i) [
        | inl above ↦ absurd (distinct j i text above (slice_get_within texts i text at_i) (is_j ∙ sym is_i))
        | inr not_above ↦ omega arith
      ]
    ]

module _ {S : Type 0} (numbering : Numbering S) where
  -- symbols are kept where nothing changes, and where texts come behind
  pub keeps-same : (old new : List Text) → new ≡ old → KeepsSymbols numbering old new
  keeps-same old new same = rw same (λ symbol text stands. stands)

  pub keeps-append : (old more new : List Text) → new ≡ old ++ more → KeepsSymbols numbering old new
  keeps-append old more new is = rw is (λ symbol text stands.
      let within = slice_get_within old stands.index text stands.entry in
      let upto : stands.index ≤ length old = omega arith in record {
        index = stands.index;
        entry = entry_stays old more stands.index text stands.entry;
        symbol_is = rw (take-append-le stands.index old more upto) stands.symbol_is;
      })

  -- a text that is interned changes nothing, or is new and comes behind
  pub record IsPushed (old : List Text) (text : Text) (new : List Text) : Type 0 where
    pub is_new : first old text ≡ None
    pub pushed : new ≡ old ++ text ∷ []

  pub same_or_pushed : (old : List Text) (text : Text) (outcome : Result S InternError) (new : List Text) → Interns numbering old text outcome new → (new ≡ old) ⊎ IsPushed old text new
  same_or_pushed old text outcome new interns = of (first old text) refl outcome interns
    where
      of : (o : Option ℕ) → first old text ≡ o → (outcome : Result S InternError) → MatchOption o (Appends numbering.symbol_of numbering.place old text outcome new)
          (λ i. IsOkAnd outcome (λ symbol. entry_symbol numbering old i ≡ Some symbol) × (new ≡ old)) → (new ≡ old) ⊎ IsPushed old text new
      of (Some i) e outcome known = inl known.1
      of None e (Ok symbol) put = inr (record { is_new = e; pushed = put.1 })
      of None e (Err NoSymbol) put = inl put.1
      of None e (Err (Memory error)) put = inl put.1

  pub keeps-interned : (old : List Text) (text : Text) (outcome : Result S InternError) (new : List Text) → Interns numbering old text outcome new → KeepsSymbols numbering old new
  keeps-interned old text outcome new interns = elim (same_or_pushed old text outcome new interns) [
    | inl same ↦ keeps-same old new same
    | inr more ↦ keeps-append old (text ∷ []) new more.pushed
  ]

  pub distinct-interned : (old : List Text) (text : Text) (outcome : Result S InternError) (new : List Text) → Interns numbering old text outcome new → IsDistinct old → IsDistinct new
  distinct-interned old text outcome new interns distinct = elim (same_or_pushed old text outcome new interns) [
    | inl same ↦ subst IsDistinct (sym same) distinct
    | inr more ↦ rw more.pushed (all_pairs_push (λ a b. a ≢ b) old text distinct (first_none old text more.is_new))
  ]

  -- the symbol of the first entry that is a text stands for it
  stands-first : (texts : List Text) (text : Text) (i : ℕ) (symbol : S) → first texts text ≡ Some i → entry_symbol numbering texts i ≡ Some symbol → StandsFor numbering texts symbol text
  stands-first texts text i symbol is symbol_is = record {
    index = i;
    entry = slice_get-get_or texts i [] (first_within texts text i is) ∙ ap Some (first_is texts text i is);
    symbol_is = symbol_is;
  }

  -- the symbol that interning returns stands for the text
  pub stands-interned : (old : List Text) (text : Text) (outcome : Result S InternError) (new : List Text) → Interns numbering old text outcome new → IfOk outcome (λ symbol. StandsFor numbering new symbol text)
  stands-interned old text (Err error) new interns = tt
  stands-interned old text (Ok symbol) new interns = of (first old text) refl interns
    where
      of : (o : Option ℕ) → first old text ≡ o → MatchOption o (Appends numbering.symbol_of numbering.place old text (Ok symbol) new)
          (λ i. (entry_symbol numbering old i ≡ Some symbol) × (new ≡ old)) → StandsFor numbering new symbol text
      of (Some i) e known = rw known.1 (stands-first old text i symbol e known.0)
      of None e put = rw put.1 (record {
        index = length old;
        entry = slice_get-get_or (old ++ text ∷ []) (length old) [] (omega (arith, length-append old (text ∷ []))) ∙ ap Some (get_or-append_seam old text [] []);
        symbol_is = rw (take_at old (text ∷ []) (length old) refl) put.0;
      })

  -- what is found under a text stands for it, and where nothing is found nothing does
  pub finds-known : (texts : List Text) (text : Text) (found : Option S) → IsValidList numbering.symbol_of numbering.place texts → found ≡ known_symbol numbering texts text → FindsSymbol numbering texts text found
  finds-known texts text found kept is = rw is (of (first texts text) refl)
    where
      at : (i : ℕ) → first texts text ≡ Some i → (o : Option S) → IsSome o → entry_symbol numbering texts i ≡ o → FindsSymbol numbering texts text o
      at i e None some is = absurd (let no : false ≡ true = some in cc)
      at i e (Some symbol) some is = stands-first texts text i symbol e is

      of : (o : Option ℕ) → first texts text ≡ o → FindsSymbol numbering texts text (option_and_then (entry_symbol numbering texts) o)
      of None e = λ symbol stands. first_none texts text e stands.index text (slice_get_within texts stands.index text stands.entry) (get_or_from_slice_get texts stands.index text text stands.entry)
      of (Some i) e = at i e (entry_symbol numbering texts i) (kept.has_symbols i (first_within texts text i e)) refl

  module _ (numbered : (i : ℕ) (s : S) → numbering.symbol_of i ≡ Some s → (numbering.number s ≡ i) × (i < 2 ^ 64)) where
    -- at a symbol's number the text that it stands for is read
    pub stands-read : ((texts : List Text) (i : ℕ) → IsValidList numbering.symbol_of numbering.place texts → i < length texts → numbering.read texts (numbering.place (take i texts)) ≡ slice_get texts i)
        → (texts : List Text) (symbol : S) (text : Text) → IsValidList numbering.symbol_of numbering.place texts → StandsFor numbering texts symbol text → numbering.read texts (numbering.number symbol) ≡ Some text
    stands-read reads texts symbol text kept stands =
        rw ((numbered (numbering.place (take stands.index texts)) symbol stands.symbol_is).0) (reads texts stands.index kept (slice_get_within texts stands.index text stands.entry) ∙ stands.entry)

    -- a symbol at whose number an entry begins stands for that entry's text
    pub stands-placed : ((a b : S) → numbering.number a ≡ numbering.number b → a ≡ b) → (texts : List Text) (symbol : S) (text : Text) → IsValidList numbering.symbol_of numbering.place texts
        → IsPlace numbering.place texts (numbering.number symbol) → ((i : ℕ) → BeginsAt numbering.place texts (numbering.number symbol) i → slice_get texts i ≡ Some text) → StandsFor numbering texts symbol text
    stands-placed injective texts symbol text kept place each = record {
      index = place.0;
      entry = each place.0 place.1;
      symbol_is = of (entry_symbol numbering texts place.0) (kept.has_symbols place.0 place.1.within) refl;
    }
      where
        of : (o : Option S) → IsSome o → entry_symbol numbering texts place.0 ≡ o → o ≡ Some symbol
        of None some is = absurd (let no : false ≡ true = some in cc)
        of (Some other) some is = ap Some (injective other symbol ((numbered (numbering.place (take place.0 texts)) other is).0 ∙ place.1.begins))

    module _ (grows : (texts : List Text) (text : Text) → numbering.place texts < numbering.place (texts ++ text ∷ [])) where
      -- the entry that begins at a symbol's number is the text that the symbol stands for
      pub stands-at : (texts : List Text) (symbol : S) (text : Text) (i : ℕ) → StandsFor numbering texts symbol text → BeginsAt numbering.place texts (numbering.number symbol) i → slice_get texts i ≡ Some text
      stands-at texts symbol text i stands begins =
          let here = entry_text-at numbering grows texts symbol i begins.within (sym begins.begins) in
          let there = entry_text-at numbering grows texts symbol stands.index (slice_get_within texts stands.index text stands.entry) ((numbered (numbering.place (take stands.index texts)) symbol stands.symbol_is).0) in
          sym here ∙ there ∙ stands.entry

      one_more : (texts : List Text) (j : ℕ) → j < length texts → numbering.place (take j texts) < numbering.place (take (suc j) texts)
      one_more texts j within =
          let longer : take (suc j) texts ≡ take j texts ++ get_or texts j [] ∷ [] = ap (λ (n : ℕ). take n texts) (sym (add-one j)) ∙ take_more texts j [] within in
          subst (λ (list : List Text). numbering.place (take j texts) < numbering.place list) (sym longer) (grows (take j texts) (get_or texts j []))

      -- a later entry has a greater place
      pub later : (texts : List Text) (i j : ℕ) → i < j → j ≤ length texts → numbering.place (take i texts) < numbering.place (take j texts)
      later texts i zero below within = absurd (omega arith)
      later texts i (suc j) below within =
          let here : j < length texts = omega arith in
          let step = one_more texts j here in
          elim (cases_lt i j) [
            | inl before ↦ let rest = later texts i j before (omega arith) in omega arith
            | inr not ↦ let same : i ≡ j = omega arith in
                subst (λ (n : ℕ). numbering.place (take n texts) < numbering.place (take (suc j) texts)) (sym same) step
          ]

      pub numbers_in_order : (texts : List Text) → NumbersInOrder numbering texts
      numbers_in_order texts s t a b before after less =
          let of_s = (numbered (numbering.place (take before.index texts)) s before.symbol_is).0 in
          let of_t = (numbered (numbering.place (take after.index texts)) t after.symbol_is).0 in
          let within = slice_get_within texts after.index b after.entry in
          let grown = later texts before.index after.index less (omega arith) in omega arith

      -- entries with one number are one entry
      one_number : (texts : List Text) (s t : S) (a b : Text) (for_a : StandsFor numbering texts s a) (for_b : StandsFor numbering texts t b) → numbering.number s ≡ numbering.number t → for_a.index ≡ for_b.index
      one_number texts s t a b for_a for_b same = elim (cases_lt for_a.index for_b.index) [
        | inl below ↦ let less = numbers_in_order texts s t a b for_a for_b below in absurd (omega arith)
        | inr not_below ↦ elim (cases_lt for_b.index for_a.index) [
          | inl above ↦ let less = numbers_in_order texts t s b a for_b for_a above in absurd (omega arith)
          | inr not_above ↦ omega arith
        ]
      ]

      pub tells_apart : (eq : S → S → Bool) → ((a b : S) → IsTrue (eq a b) ↔ (numbering.number a ≡ numbering.number b)) → (texts : List Text) → IsDistinct texts → TellsApart numbering eq texts
      tells_apart eq by_number texts distinct s t a b for_a for_b = (
        λ equal. let same = one_number texts s t a b for_a for_b ((by_number s t).0 equal) in
            same_Some a b (sym for_a.entry ∙ (ap (slice_get texts) same ∙ for_b.entry)),
        λ same. let at = one_entry texts b for_a.index for_b.index distinct (for_a.entry ∙ ap Some same) for_b.entry in
            let one : s ≡ t = same_Some s t (sym for_a.symbol_is ∙ (ap (entry_symbol numbering texts) at ∙ for_b.symbol_is)) in
            (by_number s t).1 (ap numbering.number one),
      )
