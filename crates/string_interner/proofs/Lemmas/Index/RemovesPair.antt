-- A slot that is emptied: no probe for another symbol's text meets it, so all others are still found.
use Rattle.std.proofs.Common.{◌≡◌, ℕ, zero, suc, ◌+◌, ◌<◌, ◌≢◌, ◌%◌, Bool, true, false, cond, List, [], ◌∷◌, Option, Some, None, length, get_or, set, refl, sym, ap, subst, ◌∙◌, inl, inr, arith}
use Rattle.std.proofs.lemmas.Bool.{cases_lt}
use Rattle.std.proofs.lemmas.List.{length-set, get_or-set_same, get_or-set_other, get_or_default, get_or_past}
use Rattle.std.proofs.lemmas.List.Elements.{Contains-get_or}
use Rattle.std.proofs.lemmas.Slice.Eq.{bytes_eq-Decides}
use Rattle.std.specs.List.{Contains}
use Rattle.std.specs.Option.{IsSome, option_and_then}
use Rattle.std.specs.Str.{bytes_eq}
use Rattle.string_interner.specs.Text.{Text}
use Rattle.string_interner.specs.Slots.{front_cluster, probed, symbols}
use Rattle.string_interner.specs.Index.{Fits, RemovesPair, has_text, look_up, text_in, text_of}
use Rattle.string_interner.specs.Probe.{FillsSlot, IsBetween}
use Rattle.string_interner.proofs.Lemmas.Index.Inserts.{text_of_is}
use Rattle.string_interner.proofs.Lemmas.Index.IsBetween.{AreReached-of, IsBetween-before, IsBetween-last, IsReached, of-AreReached, text_in-at}
use Rattle.string_interner.proofs.Lemmas.Index.IsWhole.{look_up-text}
use Rattle.string_interner.proofs.Lemmas.Index.LookUp.{FillsSlot-look_up, FillsSlot-symbols, FirstIs, first_is}
use Rattle.string_interner.proofs.Lemmas.Index.Slots.{symbols-in}

module _ {S : Type 0} where
  -- what was emptied is filled again
  refill : (slots : List (Option S)) (k : ℕ) (s : S) → k < length slots → get_or slots k None ≡ Some s → set (set slots k None) k (Some s) ≡ slots
  refill [] k s l e = absurd (omega arith)
  refill (y ∷ rest) zero s l e = ap (λ o. o ∷ rest) (sym e)
  refill (y ∷ rest) (suc k) s l e = ap (λ xs. y ∷ xs) (refill rest k s (omega arith) e)

  -- what is found is in a slot
  pub look_up-in : (entry : S → Option Text) (slots : List (Option S)) (t : Text) (s : S) → look_up entry slots t ≡ Some s → Contains slots (Some s)
  look_up-in entry slots t s e =
      let f : FirstIs (has_text entry t) (symbols slots) (Some s) = subst (FirstIs (has_text entry t) (symbols slots)) e (first_is (has_text entry t) (symbols slots)) in
      symbols-in slots s f.0

module _ {S : Type 0} (entry : S → Option Text) (code : Text → ℕ) (slots : List (Option S)) where
  -- the probes for the symbols from `from` on and before `to` do not meet the slot `from`
  abbrev pub AreBehind : ℕ → ℕ → Type 0
  AreBehind from to = (k : ℕ) (s : S) (t : Text) → k < length slots → get_or slots k None ≡ Some s → entry s ≡ Some t → IsBetween from k to → k ≢ from → k ≢ to
      → ¬ IsBetween (code t % length slots) from k

  module _ (fits : Fits entry code slots) (at free : ℕ) (symbol : S) (l : at < length slots) (m : free < length slots) (here : get_or slots at None ≡ Some symbol) (empty : get_or slots free None ≡ None)
      (behind : AreBehind at free) where
    abbrev new : List (Option S)
    new = set slots at None

    abbrev text : Text
    text = text_of entry symbol

    has_it : entry symbol ≡ Some text
    has_it = text_of_is entry symbol (fits.entries symbol (subst (Contains slots) here (Contains-get_or slots at None l)))

    pub length-emptied : length new ≡ length slots
    length-emptied = length-set slots at None

    -- what is in a slot was there, and is not the symbol
    record WasThere (k : ℕ) (s : S) : Type 0 where
      within : k < length slots
      other : k ≢ at
      is : get_or slots k None ≡ Some s

    was : (k : ℕ) (s : S) → get_or new k None ≡ Some s → WasThere k s
    was k s e =
        let ne : k ≢ at = λ q. (let z : None ≡ Some s = sym (ap (λ j. get_or new j None) q ∙ get_or-set_same slots at None None l) ∙ e in cc) in
        let is : get_or slots k None ≡ Some s = sym (get_or-set_other slots at k None None ne) ∙ e in
        record {
          within = elim (cases_lt k (length slots)) as (λ _. k < length slots) [ inl b ↦ b | inr b ↦ absurd (let z : None ≡ Some s = sym (get_or_past slots k None b) ∙ is in cc) ];
          other = ne;
          is = is;
        }

    was_in : (s : S) → Contains new (Some s) → (k : ℕ) × WasThere k s
    was_in s c = (c.0, was c.0 s (get_or_default new c.0 None (Some s) c.1 ∙ c.2))

    -- and so has a text that was there
    text_was : (k : ℕ) (t : Text) → text_in entry new k ≡ Some t → (k ≢ at) × (text_in entry slots k ≡ Some t)
    text_was k t e =
        let ne : k ≢ at = λ q. (let z : None ≡ Some t = sym (ap (λ j. text_in entry new j) q ∙ ap (λ o. option_and_then entry o) (get_or-set_same slots at None None l)) ∙ e in cc) in
        (ne, sym (ap (λ o. option_and_then entry o) (get_or-set_other slots at k None None ne)) ∙ e)

    entries : (s : S) → Contains new (Some s) → IsSome (entry s)
    entries s c = let w = was_in s c in fits.entries s (w.0, w.1.within, get_or_default slots w.0 (Some s) None w.1.within ∙ w.1.is)

    still_reached : (k : ℕ) (s : S) (t : Text) → k < length new → get_or new k None ≡ Some s → entry s ≡ Some t → IsReached new (code t % length new) k
    still_reached k s t n e is j h x =
        let w = was k s e in let z = length-emptied in
        let home = code t % length slots in
        let reached = AreReached-of entry code slots fits k s t w.within w.is is in
        let x' : IsBetween (code t % length slots) j k = subst (λ c. IsBetween (code t % c) j k) z x in
        let not_free : ¬ IsBetween (code t % length slots) free k = λ y. (let f = reached free m y in let g : false ≡ true = subst IsSome empty f in cc) in
        let ne : j ≢ at = λ q. (let y : IsBetween (code t % length slots) at k = subst (λ a. IsBetween (code t % length slots) a k) q x' in
        let nf : k ≢ free = λ r. not_free (subst (λ a. IsBetween (code t % length slots) free a) (sym r) (IsBetween-last (code t % length slots) free)) in
        behind k s t w.within w.is is (IsBetween-before (code t % length slots) at k free y not_free) w.other nf y) in
        subst IsSome (sym (get_or-set_other slots at j None None ne)) (reached j (omega arith) x')

    pub Fits-emptied : Fits entry code new
    Fits-emptied = of-AreReached entry code new entries (λ j k t a b. fits.distinct j k t (text_was j t a).1 (text_was k t b).1) still_reached

    -- to put the symbol back would fill the slot again
    fills : FillsSlot new slots (code text % length new) symbol
    fills = record {
      at = at;
      in_range = let z = length-emptied in omega arith;
      was_empty = get_or-set_same slots at None None l;
      written = sym (refill slots at symbol l here);
      placed = subst (λ c. Contains (front_cluster (probed slots (code text % c))) symbol) (sym length-emptied)
          (fits.placed symbol text (at, l, get_or_default slots at (Some symbol) None l ∙ here) has_it);
    }

    new_text : look_up entry new text ≡ None
    new_text =
        let by : (o : Option S) → look_up entry new text ≡ o → o ≡ None = elim [
          | None ↦ λ e. refl
          | Some s ↦ λ e. absurd (
              let w = was_in s (look_up-in entry new text s e) in
              let k = fits.distinct w.0 at text (text_in-at entry code slots w.0 s text w.1.is (look_up-text entry new text s e)) (text_in-at entry code slots at symbol text here has_it) in
              w.1.other k)
        ] in
        by (look_up entry new text) refl

    pub RemovesPair-emptied : RemovesPair entry slots new symbol
    RemovesPair-emptied q =
        let e : look_up entry slots q ≡ cond (bytes_eq q text) (Some symbol) (look_up entry new q) =
        FillsSlot-look_up new slots _ symbol fills entry code Fits-emptied text has_it new_text refl q in
        let cases : (b : Bool) → bytes_eq q text ≡ b → look_up entry slots q ≡ cond b (Some symbol) (look_up entry new q) → look_up entry new q ≡ cond b None (look_up entry slots q) = elim [
          | true ↦ λ f g. ap (look_up entry new) ((bytes_eq-Decides q text).0 f) ∙ new_text
          | false ↦ λ f g. sym g
        ] in
        cases (bytes_eq q text) refl e

    pub symbols-emptied : length (symbols slots) ≡ length (symbols new) + 1
    symbols-emptied = FillsSlot-symbols new slots _ symbol fills
