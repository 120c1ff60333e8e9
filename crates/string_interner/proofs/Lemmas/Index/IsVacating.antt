-- A symbol that is being taken out of slots: it changes places until no probe for another one meets its slot.
use Rattle.std.proofs.Common.{◌≡◌, ℕ, ◌+◌, ◌<◌, ◌≤◌, ◌≢◌, ◌%◌, List, [], Option, Some, None, length, get_or, set, sym, ap, subst, ◌∙◌, inl, inr, arith, cond}
use Rattle.std.proofs.lemmas.Bool.{cases_eq}
use Rattle.std.proofs.lemmas.List.{length-set, get_or-set_same}
use Rattle.std.specs.Option.{unwrap_or}
use Rattle.std.specs.Str.{bytes_eq}
use Rattle.string_interner.specs.Text.{Text}
use Rattle.string_interner.specs.Slots.{symbols}
use Rattle.string_interner.specs.Index.{Fits, RemovesPair, text_of}
use Rattle.string_interner.specs.Probe.{Follows, IsBetween, Rebuilt}
use Rattle.string_interner.proofs.Lemmas.Index.IsAhead.{IsAfter, IsAfter-more, IsAhead, IsAhead-end, IsAhead-more}
use Rattle.string_interner.proofs.Lemmas.Index.IsBetween.{IsBetween-next, IsBetween-none}
use Rattle.string_interner.proofs.Lemmas.Index.Rebuilt.{Rebuilt-same}
use Rattle.string_interner.proofs.Lemmas.Index.RemovesPair.{AreBehind, Fits-emptied, RemovesPair-emptied, symbols-emptied}
use Rattle.string_interner.proofs.Lemmas.Index.Slots.{empty-slot}
use Rattle.string_interner.proofs.Lemmas.Index.Swapped.{Rebuilt-swapped, length-swapped}

text_is : {S : Type 0} (entry : S → Option Text) (u : S) (t : Text) → entry u ≡ Some t → text_of entry u ≡ t
text_is entry u t e = ap (λ o. unwrap_or o []) e

module _ {S : Type 0} (entry : S → Option Text) (code : Text → ℕ) (old : List (Option S)) where
  -- The symbol is in the slot `hole`, and all are where their probes find them. The probes for those from there on and before `next` do not meet it.
  pub record IsVacating (slots : List (Option S)) (symbol : S) (hole next : ℕ) : Type 0 where
    pub rebuilt : Rebuilt entry code old slots
    pub size : length slots ≡ length old
    pub within : hole < length slots
    pub here : get_or slots hole None ≡ Some symbol
    pub behind : AreBehind entry code slots hole next

  -- The walk is at the slot `next`, and has come to no empty slot.
  pub record IsWalking (slots : List (Option S)) (start i next : ℕ) : Type 0 where
    pub begins : start < length old
    pub after : IsAfter (length old) start i next
    pub ahead : (k : ℕ) → k < length old → get_or slots k None ≡ None → IsAhead (length old) start i k

  module _ (slots : List (Option S)) (start i next : ℕ) (w : IsWalking slots start i next) where
    -- a filled slot is passed, and no other slot was emptied
    pub IsWalking-more : (more : List (Option S)) (u : S) (after : ℕ) → i < length old → get_or slots next None ≡ Some u
        → ((k : ℕ) → k < length old → get_or more k None ≡ None → get_or slots k None ≡ None) → Follows (length old) next after → IsWalking more start (i + 1) after
    IsWalking-more more u after l e keeps f = record {
      begins = w.begins;
      after = IsAfter-more (length old) start w.begins i next after l w.after f;
      ahead = λ k n q.
          let was = keeps k n q in
          let ne : k ≢ next = λ r. (let z : None ≡ Some u = sym was ∙ ap (λ j. get_or slots j None) r ∙ e in cc) in
          IsAhead-more (length old) start w.begins i next k n w.after ne (w.ahead k n was);
    }

    -- so it does not come round
    pub IsWalking-ends : length old ≤ i → length slots ≡ length old → length (symbols slots) < length slots → ⊥
    IsWalking-ends le size free =
        let e = empty-slot slots free in let l : e.0 < length old = (let a = e.1 in omega arith) in IsAhead-end (length old) start w.begins i e.0 l le (w.ahead e.0 l e.2)

  module _ (slots : List (Option S)) (symbol : S) (hole next : ℕ) (v : IsVacating slots symbol hole next) (m : next < length slots) where
    -- a probe that meets the symbol's slot
    pub IsVacating-moved : (u : S) (after : ℕ) → get_or slots next None ≡ Some u → IsBetween (code (text_of entry u) % length slots) hole next → Follows (length slots) next after
        → IsVacating (set (set slots hole (Some u)) next (Some symbol)) symbol next after
    IsVacating-moved u after e x f =
        let r = Rebuilt-swapped entry code slots v.rebuilt.fits hole next symbol u v.within m v.here e x in
        let n = length-swapped entry code slots v.rebuilt.fits hole next symbol u v.within m v.here e x in
        let l : next < length (set (set slots hole (Some u)) next (Some symbol)) = omega arith in
        record {
          rebuilt = record { fits = r.fits; count = r.count ∙ v.rebuilt.count; to = λ s c. r.to s (v.rebuilt.to s c); from = λ s c. v.rebuilt.from s (r.from s c) };
          size = n ∙ v.size;
          within = l;
          here = get_or-set_same (set slots hole (Some u)) next (Some symbol) None (let a = length-set slots hole (Some u) in omega arith);
          behind = λ k s t j is has y ne nf. absurd (IsBetween-none (length (set (set slots hole (Some u)) next (Some symbol))) next after k j l (subst (λ c. Follows c next after) (sym n) f) y ne nf);
        }

    -- one that does not
    pub IsVacating-passed : (u : S) (after : ℕ) → get_or slots next None ≡ Some u → ¬ IsBetween (code (text_of entry u) % length slots) hole next → Follows (length slots) next after
        → IsVacating slots symbol hole after
    IsVacating-passed u after e x f = record {
      rebuilt = v.rebuilt;
      size = v.size;
      within = v.within;
      here = v.here;
      behind = λ k s t j is has y ne nf. elim (cases_eq k next) as (λ _. ¬ IsBetween (code t % length slots) hole k) [
        | inl q ↦
            (let both : Some s ≡ Some u = sym is ∙ ap (λ a. get_or slots a None) q ∙ e in let same : s ≡ u = cc in
            let text : text_of entry u ≡ t = text_is entry u t (sym (ap entry same) ∙ has) in
            λ z. x (subst (λ a. IsBetween (code a % length slots) hole next) (sym text) (subst (λ a. IsBetween (code t % length slots) hole a) q z)))
        | inr no_end ↦ v.behind k s t j is has (IsBetween-next (length slots) hole next after k j v.within f y ne nf) ne no_end
      ];
    }

    -- where the cluster ends, the symbol's slot is emptied
    module _ (e : get_or slots next None ≡ None) where
      pub Fits-vacated : Fits entry code (set slots hole None)
      Fits-vacated = Fits-emptied entry code slots v.rebuilt.fits hole next symbol v.within m v.here e v.behind

      pub RemovesPair-vacated : Fits entry code old → RemovesPair entry old (set slots hole None) symbol
      RemovesPair-vacated fits q =
          RemovesPair-emptied entry code slots v.rebuilt.fits hole next symbol v.within m v.here e v.behind q
          ∙ ap (λ o. cond (bytes_eq q (text_of entry symbol)) None o) (Rebuilt-same entry code old slots fits v.rebuilt q)

      pub symbols-vacated : length (symbols old) ≡ length (symbols (set slots hole None)) + 1
      symbols-vacated = sym v.rebuilt.count ∙ symbols-emptied entry code slots v.rebuilt.fits hole next symbol v.within m v.here e v.behind
