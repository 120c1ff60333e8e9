-- The laws of `entry_text`: the text of the entry that has a symbol, by the index of that entry.
-- Cited by the proofs of an index of entries, as one of your own.
use Rattle.std.proofs.Common.{◌≡◌, ℕ, zero, suc, ◌<◌, ◌≤◌, ◌⊎◌, Bool, true, false, List, [], ◌∷◌, ◌++◌, length, take, Option, Some, None, refl, sym, ap, ◌∙◌, inl, inr, arith}
use Rattle.std.specs.Prelude.{slice_get, IsSome, ◌==◌, ◌^◌, if◌then◌else◌}
use Rattle.std.proofs.lemmas.Bool.{cases_lt}
use Rattle.std.proofs.lemmas.List.{append_assoc, append-nil, length_push, take-append-le, take_all}
use Rattle.std.proofs.lemmas.Bool.Decides.{nat_tests}
use Rattle.std.proofs.lemmas.Option.{slice_get_within}
use Rattle.string_interner.specs.Text.{Text}
use Rattle.string_interner.specs.Backend.{BeginsAt, IsPlace, IsValidList}
use Rattle.string_interner.specs.Entry.{text_ahead, entry_text}
use Rattle.string_interner.specs.TextIndex.{Adds}
use Rattle.string_interner.specs.Numbering.{Numbering}

-- what is there is some value
some_value : {X : Type 0} (o : Option X) → IsSome o → (x : X) × (o ≡ Some x)
some_value None h = absurd (let e : false ≡ true = h in cc)
some_value (Some x) h = (x, refl)

module _ (place : List Text → ℕ) where
  -- the entry `i` of the texts ahead begins at `at`, and is the text
  pub record IsAhead (behind ahead : List Text) (at : ℕ) (text : Text) (i : ℕ) : Type 0 where
    pub begins : place (behind ++ take i ahead) ≡ at
    pub is : slice_get ahead i ≡ Some text

  later : (behind : List Text) (t : Text) (ts : List Text) (at : ℕ) (text : Text) → (i : ℕ) × IsAhead (behind ++ t ∷ []) ts at text i
      → (i : ℕ) × IsAhead behind (t ∷ ts) at text i
  later behind t ts at text r = (suc r.0, record { begins = ap place (sym (append_assoc behind (t ∷ []) (take r.0 ts))) ∙ r.1.begins; is = r.1.is })

  -- a text that is found ahead is that of an entry there
  pub text_ahead-is : (behind ahead : List Text) (at : ℕ) (text : Text) → text_ahead place behind ahead at ≡ Some text
      → (i : ℕ) × IsAhead behind ahead at text i
  text_ahead-is behind [] at text e = absurd (cc)
  text_ahead-is behind (t ∷ ts) at text e =
      let by : (b : Bool) → (place behind == at) ≡ b → (if b then Some t else text_ahead place (behind ++ t ∷ []) ts at) ≡ Some text
      → (i : ℕ) × IsAhead behind (t ∷ ts) at text i =
      elim [
        | true ↦ λ f g. let h : place behind ≡ at = grind (arith, nat_tests, f) in (0, record { begins = ap place (append-nil behind) ∙ h; is = g })
        | false ↦ λ f g. later behind t ts at text (text_ahead-is (behind ++ t ∷ []) ts at text g)
      ] in
      by (place behind == at) refl e

  module _ (grows : (texts : List Text) (text : Text) → place texts < place (texts ++ text ∷ [])) where
    -- more texts have no smaller place
    pub places_grow : (behind ahead : List Text) → place behind ≤ place (behind ++ ahead)
    places_grow behind [] = let e = ap place (append-nil behind) in omega arith
    places_grow behind (t ∷ ts) =
        let a = grows behind t in let b = places_grow (behind ++ t ∷ []) ts in let e = ap place (append_assoc behind (t ∷ []) ts) in omega arith

    -- at the place of an entry ahead its text is found
    pub text_ahead-at : (behind ahead : List Text) (i : ℕ) → i < length ahead → text_ahead place behind ahead (place (behind ++ take i ahead)) ≡ slice_get ahead i
    text_ahead-at behind [] i h = absurd (omega arith)
    text_ahead-at behind (t ∷ ts) zero h =
        let e = ap place (append-nil behind) in let f : (place behind == place (behind ++ [])) ≡ true = grind (arith, nat_tests) in rw f refl
    text_ahead-at behind (t ∷ ts) (suc i) h =
        let a = grows behind t in let b = places_grow (behind ++ t ∷ []) (take i ts) in let e = append_assoc behind (t ∷ []) (take i ts) in let d = ap place e in
        let f : (place behind == place (behind ++ t ∷ take i ts)) ≡ false = grind (arith, nat_tests) in
        rw (f, ← e) (text_ahead-at (behind ++ t ∷ []) ts i (omega arith))

module _ {S : Type 0} (numbering : Numbering S) where
  -- the entry of a symbol begins at the symbol's number
  pub entry_text-is : (texts : List Text) (symbol : S) (text : Text) → entry_text numbering texts symbol ≡ Some text
      → (i : ℕ) × (BeginsAt numbering.place texts (numbering.number symbol) i) × (slice_get texts i ≡ Some text)
  entry_text-is texts symbol text e =
      let r = text_ahead-is numbering.place [] texts (numbering.number symbol) text e in
      (r.0, record { within = slice_get_within texts r.0 text r.1.is; begins = r.1.begins }, r.1.is)

  -- so an entry begins there
  pub entry_text-IsPlace : (texts : List Text) (symbol : S) → IsSome (entry_text numbering texts symbol) → IsPlace numbering.place texts (numbering.number symbol)
  entry_text-IsPlace texts symbol h = let t = some_value (entry_text numbering texts symbol) h in let r = entry_text-is texts symbol t.0 t.1 in (r.0, r.1)

  -- a text that is the one of each entry that begins there is the text
  pub entry_text-resolved : (texts : List Text) (symbol : S) (text : Text) → IsSome (entry_text numbering texts symbol)
      → ((i : ℕ) → BeginsAt numbering.place texts (numbering.number symbol) i → slice_get texts i ≡ Some text) → entry_text numbering texts symbol ≡ Some text
  entry_text-resolved texts symbol text h each =
      let t = some_value (entry_text numbering texts symbol) h in let r = entry_text-is texts symbol t.0 t.1 in t.1 ∙ sym r.2 ∙ each r.0 r.1

  -- what is read at the number of an entry's symbol is the entry's text
  pub entry_text-read : ((texts : List Text) (i : ℕ) → IsValidList numbering.symbol_of numbering.place texts → i < length texts → numbering.read texts (numbering.place (take i texts)) ≡ slice_get texts i)
      → (texts : List Text) (symbol : S) → IsValidList numbering.symbol_of numbering.place texts → IsSome (entry_text numbering texts symbol)
      → entry_text numbering texts symbol ≡ numbering.read texts (numbering.number symbol)
  entry_text-read reads texts symbol valid h =
      let t = some_value (entry_text numbering texts symbol) h in let r = entry_text-is texts symbol t.0 t.1 in
      t.1 ∙ sym r.2 ∙ sym (reads texts r.0 valid r.1.within) ∙ ap (numbering.read texts) r.1.begins

  -- the symbol of the place of an entry has that entry's text
  pub entry_text-at : ((texts : List Text) (text : Text) → numbering.place texts < numbering.place (texts ++ text ∷ [])) → (texts : List Text) (symbol : S) (i : ℕ)
      → i < length texts → numbering.number symbol ≡ numbering.place (take i texts) → entry_text numbering texts symbol ≡ slice_get texts i
  entry_text-at grows texts symbol i h e = rw e (text_ahead-at numbering.place grows [] texts i h)

slice_get-append : {X : Type 0} (xs ys : List X) (i : ℕ) → i < length xs → slice_get (xs ++ ys) i ≡ slice_get xs i
slice_get-append [] ys i h = absurd (omega arith)
slice_get-append (x ∷ xs) ys zero h = refl
slice_get-append (x ∷ xs) ys (suc i) h = slice_get-append xs ys i (omega arith)

slice_get-push : {X : Type 0} (xs : List X) (x : X) → slice_get (xs ++ x ∷ []) (length xs) ≡ Some x
slice_get-push [] x = refl
slice_get-push (y ∷ xs) x = slice_get-push xs x

module _ {S : Type 0} (numbering : Numbering S)
    (numbered : (i : ℕ) (s : S) → numbering.symbol_of i ≡ Some s → (numbering.number s ≡ i) × (i < 2 ^ 64))
    (injective : (a b : S) → numbering.number a ≡ numbering.number b → a ≡ b)
    (grows : (texts : List Text) (text : Text) → numbering.place texts < numbering.place (texts ++ text ∷ [])) where
  -- a text that is put last is one entry more
  pub entry_text-adds : (texts : List Text) (text : Text) (symbol : S) → numbering.symbol_of (numbering.place texts) ≡ Some symbol
      → Adds (entry_text numbering texts) (entry_text numbering (texts ++ text ∷ [])) symbol text
  entry_text-adds texts text symbol e =
      let n : numbering.number symbol ≡ numbering.place texts = (numbered (numbering.place texts) symbol e).0 in
      let more = texts ++ text ∷ [] in let long = length_push texts text in
      let whole : take (length texts) more ≡ texts = take-append-le (length texts) texts (text ∷ []) (omega arith) ∙ take_all (length texts) texts (omega arith) in
      record {
        added = entry_text-at numbering grows more symbol (length texts) (omega arith) (n ∙ sym (ap numbering.place whole)) ∙ slice_get-push texts text;
        kept = λ s t h.
            let r = entry_text-is numbering texts s t h in let w = r.1.within in
            let same : take r.0 more ≡ take r.0 texts = take-append-le r.0 texts (text ∷ []) (omega arith) in
            entry_text-at numbering grows more s r.0 (omega arith) (sym r.1.begins ∙ sym (ap numbering.place same)) ∙ slice_get-append texts (text ∷ []) r.0 w ∙ r.2;
        only = λ s t h.
            let r = entry_text-is numbering more s t h in let w = r.1.within in
            elim (cases_lt r.0 (length texts)) as (λ _. (entry_text numbering texts s ≡ Some t) ⊎ (s ≡ symbol)) [
              | inl l ↦
                  (let same : take r.0 more ≡ take r.0 texts = take-append-le r.0 texts (text ∷ []) (omega arith) in
                  inl (entry_text-at numbering grows texts s r.0 l (sym r.1.begins ∙ ap numbering.place same) ∙ sym (slice_get-append texts (text ∷ []) r.0 l) ∙ r.2))
              | inr l ↦ (let last : r.0 ≡ length texts = omega arith in inr (injective s symbol (sym r.1.begins ∙ ap (λ i. numbering.place (take i more)) last ∙ ap numbering.place whole ∙ sym n)))
            ];
      }
