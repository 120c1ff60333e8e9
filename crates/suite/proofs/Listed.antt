-- A list of symbols as an index: what a search of it found, and how it takes one entry more, or all of a backend.
use Rattle.std.proofs.Common.{◌≡◌, ℕ, ◌+◌, ◌<◌, ◌≤◌, ◌⊎◌, true, false, List, [], ◌∷◌, ◌++◌, length, get_or, Option, Some, None, IsSome, refl, sym, ap, subst, ◌∙◌, inl, inr, arith}
use Rattle.std.specs.Prelude.{◌^◌, slice_get}
use Rattle.std.specs.List.{Contains}
use Rattle.std.specs.Option.{is_some}
use Rattle.std.specs.Str.{bytes_eq}
use Rattle.std.proofs.lemmas.Bool.{cases_lt}
use Rattle.std.proofs.lemmas.List.{append_assoc, append-nil, length-append, length_push}
use Rattle.std.proofs.lemmas.List.Elements.{Contains-append_left, Contains-push, Contains-push_cases}
use Rattle.std.proofs.lemmas.Option.{slice_get_read, same_Some}
use Rattle.std.proofs.lemmas.Slice.Eq.{bytes_eq-Decides}
use Rattle.string_interner.specs.Text.{Text}
use Rattle.string_interner.specs.Numbering.{Numbering}
use Rattle.string_interner.specs.Backend.{BeginsAt, IsPlace}
use Rattle.string_interner.specs.Entry.{entry_text}
use Rattle.string_interner.specs.TextIndex.{IsNewText}
use Rattle.string_interner.specs.Iter.{entries}
use Rattle.string_interner.specs.EntryLaws.{entry_text-adds, entry_text-IsPlace, entry_text-resolved}
use Rattle.suite.specs.LinearIndex.{IsListed}

module _ {S : Type 0} (entry : S → Option Text) (text : Text) (symbols : List S) where
  -- none of the first `n` symbols has the text
  abbrev pub IsMissed : ℕ → Type 0
  IsMissed n = (k : ℕ) (s : S) → k < n → get_or symbols k s ≡ s → entry s ≡ Some text → ⊥

  pub missed-next : (n : ℕ) (symbol : S) → n < length symbols → symbol ≡ get_or symbols n symbol → (entry symbol ≡ Some text → ⊥) → IsMissed n → IsMissed (n + 1)
  missed-next n symbol l at other missed = λ k s less is e. elim (cases_lt k n) as (λ _. ⊥) [
    | inl before ↦ missed k s before is e
    | inr after ↦
        (let same : k ≡ n = omega arith in
        let a = slice_get_read symbols (length symbols) n symbol refl l at in
        let b = slice_get_read symbols (length symbols) n s refl l (sym (subst (λ j. get_or symbols j s ≡ s) same is)) in
        other (subst (λ x. entry x ≡ Some text) (same_Some s symbol (sym b ∙ a)) e))
  ]

  -- where no symbol has the text, no entry has
  pub missed-all : (n : ℕ) → length symbols ≤ n → IsListed entry symbols → IsMissed n → IsNewText entry text
  missed-all n all listed missed = λ s e. let c = listed.whole s text e in let l = c.1 in missed c.0 s (omega arith) c.2 e

module _ {S : Type 0} (old more : S → Option Text) (symbols : List S) (symbol : S) (text : Text) where
  -- one entry more, and its symbol
  pub IsListed-more : more symbol ≡ Some text → ((s : S) (t : Text) → old s ≡ Some t → more s ≡ Some t)
      → ((s : S) (t : Text) → more s ≡ Some t → (old s ≡ Some t) ⊎ (s ≡ symbol)) → IsListed old symbols → IsListed more (symbols ++ symbol ∷ [])
  IsListed-more added kept only listed = record {
    whole = λ s t e. elim (only s t e) as (λ _. Contains (symbols ++ symbol ∷ []) s) [
      | inl was ↦ Contains-append_left symbols (symbol ∷ []) s (listed.whole s t was)
      | inr is ↦ subst (Contains (symbols ++ symbol ∷ [])) (sym is) (Contains-push symbols symbol)
    ];
    entries = λ s c. elim (Contains-push_cases symbols symbol s c) as (λ _. IsSome (more s)) [
      | inl was ↦ still s (old s) refl (listed.entries s was)
      | inr is ↦ subst (λ x. IsSome (more x)) is (ap is_some added)
    ];
  }
    where
      still : (s : S) (o : Option Text) → old s ≡ o → IsSome o → IsSome (more s)
      still s (Some t) e h = ap is_some (kept s t e)
      still s None e h = absurd (let d : false ≡ true = h in cc)

-- where a walk over the texts stands: the symbols of these are in the list, and those are ahead
pub record IsPut {S : Type 0} (numbering : Numbering S) (texts behind ahead : List Text) (symbols : List S) : Type 0 where
  pub done : List Text
  pub todo : List Text
  pub all : texts ≡ done ++ todo
  pub listed : IsListed (entry_text numbering done) symbols
  pub count : length symbols ≡ length done
  pub same : entries numbering behind ahead ≡ entries numbering done todo

module _ {S : Type 0} (numbering : Numbering S)
    (numbered : (i : ℕ) (s : S) → numbering.symbol_of i ≡ Some s → (numbering.number s ≡ i) × (i < 2 ^ 64))
    (injective : (a b : S) → numbering.number a ≡ numbering.number b → a ≡ b)
    (grows : (texts : List Text) (text : Text) → numbering.place texts < numbering.place (texts ++ text ∷ [])) (texts : List Text) where
  pub put-start : IsPut numbering texts [] texts []
  put-start = record {
    done = [];
    todo = texts;
    all = refl;
    listed = record { whole = λ s t e. absurd (cc); entries = λ s h. let l = h.1 in absurd (omega arith) };
    count = refl;
    same = refl;
  }

  step : (done todo behind ahead : List Text) (symbols : List S) (s : S) (t : Text) → texts ≡ done ++ todo → IsListed (entry_text numbering done) symbols
      → length symbols ≡ length done → entries numbering done todo ≡ (Some s, t) ∷ entries numbering behind ahead
      → (length symbols < length texts) × IsPut numbering texts behind ahead (symbols ++ s ∷ [])
  step done [] behind ahead symbols s t all listed count e = absurd (cc)
  step done (u ∷ us) behind ahead symbols s t all listed count e =
      let more = done ++ u ∷ [] in
      let head : ◌≡◌ {A = Option S × Text} (numbering.symbol_of (numbering.place done), u) (Some s, t) = cc in
      let rest : entries numbering more us ≡ entries numbering behind ahead = cc in
      let adds = entry_text-adds numbering numbered injective grows done u s (ap (λ p. p.0) head) in
      let long : length texts ≡ length (done ++ u ∷ us) = ap length all in let sum = length-append done (u ∷ us) in
      let one = length_push symbols s in let other = length_push done u in (
        omega arith,
        record {
          done = more;
          todo = us;
          all = all ∙ sym (append_assoc done (u ∷ []) us);
          listed = IsListed-more (entry_text numbering done) (entry_text numbering more) symbols s u adds.added adds.kept adds.only listed;
          count = omega arith;
          same = sym rest;
        },
      )

  -- one more symbol is put, for which there is room where there is room for all
  pub put-next : (behind ahead behind' ahead' : List Text) (symbols : List S) (s : S) (t : Text) → IsPut numbering texts behind ahead symbols
      → entries numbering behind ahead ≡ (Some s, t) ∷ entries numbering behind' ahead'
      → (length symbols < length texts) × IsPut numbering texts behind' ahead' (symbols ++ s ∷ [])
  put-next behind ahead behind' ahead' symbols s t p e = step p.done p.todo behind' ahead' symbols s t p.all p.listed p.count (sym p.same ∙ e)

  finished : (done todo : List Text) (symbols : List S) → texts ≡ done ++ todo → IsListed (entry_text numbering done) symbols → length symbols ≡ length done
      → entries numbering done todo ≡ [] → IsListed (entry_text numbering texts) symbols × (length symbols ≡ length texts)
  finished done [] symbols all listed count e = rw (all ∙ append-nil done) (listed, count)
  finished done (u ∷ us) symbols all listed count e = absurd (cc)

  -- once none is ahead, all are
  pub put-end : (behind ahead : List Text) (symbols : List S) → IsPut numbering texts behind ahead symbols → entries numbering behind ahead ≡ []
      → IsListed (entry_text numbering texts) symbols × (length symbols ≡ length texts)
  put-end behind ahead symbols p e = finished p.done p.todo symbols p.all p.listed p.count (sym p.same ∙ e)

-- a symbol that stands in the list at `i`, whose entry is asked for its text
module _ {S : Type 0} (numbering : Numbering S) (texts : List Text) (symbols : List S) (listed : IsListed (entry_text numbering texts) symbols)
    (i : ℕ) (symbol : S) (within : i < length symbols) (at : symbol ≡ get_or symbols i symbol) where
  is_entry : IsSome (entry_text numbering texts symbol)
  is_entry = listed.entries symbol (i, within, sym at)

  -- its number is a place
  pub listed-place : IsPlace numbering.place texts (numbering.number symbol)
  listed-place = entry_text-IsPlace numbering texts symbol is_entry

  module _ (found text : Text) (each : (k : ℕ) → BeginsAt numbering.place texts (numbering.number symbol) k → slice_get texts k ≡ Some found) where
    has : entry_text numbering texts symbol ≡ Some found
    has = entry_text-resolved numbering texts symbol found is_entry each

    pub listed-hit : bytes_eq found text ≡ true → entry_text numbering texts symbol ≡ Some text
    listed-hit same = has ∙ ap Some ((bytes_eq-Decides found text).0 same)

    pub listed-miss : bytes_eq found text ≡ false → entry_text numbering texts symbol ≡ Some text → ⊥
    listed-miss other e =
        let same : bytes_eq found text ≡ true = (bytes_eq-Decides found text).1 (same_Some found text (sym has ∙ e)) in
        let d : true ≡ false = sym same ∙ other in absurd (cc)
