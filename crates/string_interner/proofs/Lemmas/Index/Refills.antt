-- The symbols of all entries put into empty slots, one after another.
use Rattle.std.proofs.Common.{◌≡◌, ℕ, ◌-◌, ◌<◌, ◌≢◌, ◌%◌, Bool, true, false, List, [], ◌∷◌, ◌++◌, length, get_or, Option, Some, None, refl, sym, ap, subst, ◌∙◌, arith}
use Rattle.std.specs.Prelude.{◌^◌}
use Rattle.std.specs.List.{Contains}
use Rattle.std.specs.Str.{bytes_eq}
use Rattle.std.proofs.lemmas.List.{append_assoc, append-nil, length-append, get_or_append_left, get_or-append_right}
use Rattle.std.proofs.lemmas.Slice.Eq.{bytes_eq-Decides}
use Rattle.string_interner.specs.Text.{Text, IsDistinct, first}
use Rattle.string_interner.specs.Backend.{IsValidList}
use Rattle.string_interner.specs.Iter.{entries}
use Rattle.string_interner.specs.Entry.{entry_text}
use Rattle.string_interner.specs.Slots.{symbols}
use Rattle.string_interner.specs.Index.{Fits, text_of}
use Rattle.string_interner.specs.Probe.{FillsSlot}
use Rattle.string_interner.proofs.Lemmas.Index.Slots.{none, Contains-symbols}
use Rattle.string_interner.proofs.Lemmas.Texts.First.{first_new}
use Rattle.string_interner.proofs.Lemmas.Backend.IsValidList.{valid-front}
use Rattle.string_interner.proofs.Lemmas.Index.Inserts.{AddsPair-put, Fits-put}
use Rattle.string_interner.proofs.Lemmas.Interner.IsSoundInterner.{IsFilled, fits-more, absent-more, text-more, interned-more}
use Rattle.string_interner.proofs.Lemmas.Index.LookUp.{FillsSlot-symbols, text_in-from}
use Rattle.string_interner.specs.Numbering.{Numbering}

-- slots without symbols fit all entries
pub Fits-none : {S : Type 0} (entry : S → Option Text) (code : Text → ℕ) (slots : List (Option S)) → symbols slots ≡ [] → Fits entry code slots
Fits-none {S} entry code slots e =
    let gone : (s : S) → Contains slots (Some s) → ⊥ = λ s h. none s (subst (λ (xs : List S). Contains xs s) e (Contains-symbols slots s h)) in
    record {
      entries = λ s h. absurd (gone s h);
      distinct = λ j k t a b. absurd (let r = text_in-from entry slots j t a in gone r.0 r.1.0);
      placed = λ s t h r. absurd (gone s h);
    }

-- what comes after a front of distinct texts is new to it
distinct-next : (xs ys : List Text) (t : Text) → IsDistinct (xs ++ t ∷ ys) → first xs t ≡ None
distinct-next xs ys t d =
    let long = length-append xs (t ∷ ys) in let z : length xs - length xs ≡ 0 = omega arith in
    let last : get_or (xs ++ t ∷ ys) (length xs) [] ≡ t = get_or-append_right xs (t ∷ ys) (length xs) (length xs) [] refl (omega arith) ∙ ap (λ n. get_or (t ∷ ys) n []) z in
    first_new xs t (λ k h.
    let apart : get_or xs k [] ≢ t = λ e. d k (length xs) [] h (omega arith) (get_or_append_left xs (t ∷ ys) [] k h ∙ e ∙ sym last) in
    let by : (b : Bool) → bytes_eq (get_or xs k []) t ≡ b → bytes_eq (get_or xs k []) t ≡ false =
    elim [ true ↦ λ q. absurd (apart ((bytes_eq-Decides (get_or xs k []) t).0 q)) | false ↦ λ q. q ] in
    by (bytes_eq (get_or xs k []) t) refl)

-- where a walk over the texts stands: these are in the slots, and those are ahead
pub record IsPlaced {S : Type 0} (numbering : Numbering S) (code : Text → ℕ)
    (texts behind ahead : List Text) (slots : List (Option S)) : Type 0 where
  pub done : List Text
  pub todo : List Text
  pub all : texts ≡ done ++ todo
  pub interned : IsFilled numbering code done slots
  pub same : entries numbering behind ahead ≡ entries numbering done todo

module _ {S : Type 0} (numbering : Numbering S)
    (numbered : (i : ℕ) (s : S) → numbering.symbol_of i ≡ Some s → (numbering.number s ≡ i) × (i < 2 ^ 64))
    (injective : (a b : S) → numbering.number a ≡ numbering.number b → a ≡ b)
    (grows : (texts : List Text) (text : Text) → numbering.place texts < numbering.place (texts ++ text ∷ []))
    (code : Text → ℕ) (texts : List Text) (valid : IsValidList numbering.symbol_of numbering.place texts) (distinct : IsDistinct texts) where
  pub placed-start : (slots : List (Option S)) → symbols slots ≡ [] → IsPlaced numbering code texts [] texts slots
  placed-start slots e = record {
    done = [];
    todo = texts;
    all = refl;
    interned = record {
      texts = record { distinct = λ i j d l m. absurd (omega arith); valid = valid-front numbering.symbol_of numbering.place grows [] texts valid };
      whole = record { fits = Fits-none (entry_text numbering []) code slots e; whole = λ s t q. absurd (cc) };
      count = ap length e;
    };
    same = refl;
  }

  step : (done todo behind ahead : List Text) (slots new : List (Option S)) (s : S) (t : Text) → texts ≡ done ++ todo
      → IsFilled numbering code done slots → entries numbering done todo ≡ (Some s, t) ∷ entries numbering behind ahead
      → FillsSlot slots new (code t % length slots) s → IsPlaced numbering code texts behind ahead new
  step done [] behind ahead slots new s t all is e puts = absurd (cc)
  step done (u ∷ us) behind ahead slots new s t all is e puts =
      let more = done ++ u ∷ [] in let front : texts ≡ more ++ us = all ∙ sym (append_assoc done (u ∷ []) us) in
      let head : ◌≡◌ {A = Option S × Text} (numbering.symbol_of (numbering.place done), u) (Some s, t) = cc in let rest : entries numbering more us ≡ entries numbering behind ahead = cc in
      let new_text = distinct-next done us u (rw all at distinct) in
      let put : (numbering.symbol_of (numbering.place done) ≡ Some s) × (more ≡ done ++ u ∷ []) = (ap (λ p. p.0) head, refl) in
      let fits = fits-more numbering numbered injective grows code done slots is u s more new_text put in
      let absent = absent-more numbering numbered injective grows code done slots is u s more new_text put in
      let text = text-more numbering numbered injective grows code done slots is u s more new_text put in
      let at : FillsSlot slots new (code (text_of (entry_text numbering more) s) % length slots) s = subst (λ x. FillsSlot slots new (code x % length slots) s) (sym (ap (λ p. p.1) head) ∙ sym text) puts in
      record {
        done = more;
        todo = us;
        all = front;
        interned = interned-more numbering numbered injective grows code done slots is u s more new_text put new (valid-front numbering.symbol_of numbering.place grows more us (rw front at valid))
            (Fits-put (entry_text numbering more) code slots new s fits absent at) (AddsPair-put (entry_text numbering more) code slots new s fits absent at) (FillsSlot-symbols slots new _ s at);
        same = sym rest;
      }

  -- one more entry is put
  pub placed-next : (behind ahead behind' ahead' : List Text) (slots new : List (Option S)) (s : S) (t : Text) → IsPlaced numbering code texts behind ahead slots
      → entries numbering behind ahead ≡ (Some s, t) ∷ entries numbering behind' ahead' → FillsSlot slots new (code t % length slots) s
      → IsPlaced numbering code texts behind' ahead' new
  placed-next behind ahead behind' ahead' slots new s t p e puts = step p.done p.todo behind' ahead' slots new s t p.all p.interned (sym p.same ∙ e) puts

  finished : (done todo : List Text) (slots : List (Option S)) → texts ≡ done ++ todo → IsFilled numbering code done slots
      → entries numbering done todo ≡ [] → IsFilled numbering code texts slots
  finished done [] slots all is e = rw (all ∙ append-nil done) is
  finished done (u ∷ us) slots all is e = absurd (cc)

  -- once none is ahead, all are
  pub placed-end : (behind ahead : List Text) (slots : List (Option S)) → IsPlaced numbering code texts behind ahead slots
      → entries numbering behind ahead ≡ [] → IsFilled numbering code texts slots
  placed-end behind ahead slots p e = finished p.done p.todo slots p.all p.interned (sym p.same ∙ e)
