-- What is stored beside symbols, as symbols are put and entries come.
use Rattle.std.proofs.Common.{◌≡◌, ◌≢◌, ℕ, List, [], Option, Some, None, get_or, set, sym, ap, subst, ◌∙◌, inl, inr, arith}
use Rattle.std.proofs.lemmas.List.{length-set, get_or-set_same, get_or-set_other}
use Rattle.std.proofs.lemmas.List.Elements.{Contains-get_or}
use Rattle.std.proofs.lemmas.Bool.{cases_eq}
use Rattle.std.specs.List.{Contains}
use Rattle.string_interner.specs.Text.{Text}
use Rattle.string_interner.specs.Slots.{symbols}
use Rattle.string_interner.specs.Index.{Fits, text_of}
use Rattle.string_interner.specs.Layout.{Fills, IsCoded, KeepsFilled, SlotLayout}
use Rattle.string_interner.specs.Probe.{FillsSlot, IsFree}
use Rattle.string_interner.proofs.Lemmas.Index.Slots.{none, Contains-symbols}
use Rattle.string_interner.proofs.Lemmas.Index.Inserts.{text_of_is}

module _ {S : Type 0} (stores : ℕ → ℕ) (entry : S → Option Text) (code : Text → ℕ) where
  -- without symbols nothing is stored that counts
  pub IsCoded-none : (slots : List (Option S)) (stored : ℕ → ℕ) → symbols slots ≡ [] → IsCoded stores entry code slots stored
  IsCoded-none slots stored e k s t l f h =
      absurd (none s (subst (λ (xs : List S). Contains xs s) e (Contains-symbols slots s (subst (Contains slots) f (Contains-get_or slots k None l)))))

  -- what is stored stays right where each entry keeps its text
  pub IsCoded-kept : (more : S → Option Text) (slots : List (Option S)) (stored : ℕ → ℕ) → ((s : S) (t : Text) → entry s ≡ Some t → more s ≡ Some t)
      → Fits entry code slots → IsCoded stores entry code slots stored → IsCoded stores more code slots stored
  IsCoded-kept more slots stored keeps fits is k s t l e h =
      let there = fits.entries s (subst (Contains slots) e (Contains-get_or slots k None l)) in
      let old = text_of_is entry s there in
      let both : Some t ≡ Some (text_of entry s) = sym h ∙ keeps s (text_of entry s) old in let same : t ≡ text_of entry s = cc in
      is k s (text_of entry s) l e old ∙ ap (λ x. stores (code x)) (sym same)

  module _ (slots : List (Option S)) (stored more : ℕ → ℕ) (at : ℕ) (others : (k : ℕ) → k ≢ at → more k ≡ stored k) (coded : IsCoded stores entry code slots stored) where
    -- a slot has another symbol, and what its text's code stores
    pub IsCoded-set : (symbol : S) (text : Text) → entry symbol ≡ Some text → more at ≡ stores (code text) → IsCoded stores entry code (set slots at (Some symbol)) more
    IsCoded-set symbol text is agrees k s t l e h =
        let n = length-set slots at (Some symbol) in
        elim (cases_eq k at) as (λ _. more k ≡ stores (code t)) [
          | inl q ↦
              (let here : get_or (set slots at (Some symbol)) k None ≡ Some symbol = ap (λ j. get_or (set slots at (Some symbol)) j None) q ∙ get_or-set_same slots at (Some symbol) None (omega arith) in
              let both : Some s ≡ Some symbol = sym e ∙ here in let same : s ≡ symbol = cc in
              let texts : Some t ≡ Some text = sym h ∙ ap entry same ∙ is in let u : t ≡ text = cc in
              ap more q ∙ agrees ∙ ap (λ x. stores (code x)) (sym u))
          | inr ne ↦ others k ne ∙ coded k s t (omega arith) (sym (get_or-set_other slots at k (Some symbol) None ne) ∙ e) h
        ]

    -- or none
    pub IsCoded-unset : IsCoded stores entry code (set slots at None) more
    IsCoded-unset k s t l e h =
        let n = length-set slots at None in
        elim (cases_eq k at) as (λ _. more k ≡ stores (code t)) [
          | inl q ↦ absurd (let z : None ≡ Some s = sym (ap (λ j. get_or (set slots at None) j None) q ∙ get_or-set_same slots at None None (omega arith)) ∙ e in cc)
          | inr ne ↦ others k ne ∙ coded k s t (omega arith) (sym (get_or-set_other slots at k None None ne) ∙ e) h
        ]

module _ {S L : Type 0} (layout : SlotLayout S L) where
  -- a symbol and what is stored of its code are put into a free slot
  pub Fills-free : (old new : L) (home at : ℕ) (symbol : S) (code : ℕ) → IsFree (layout.slots old) home at → layout.slots new ≡ set (layout.slots old) at (Some symbol)
      → layout.stored new at ≡ layout.stores code → ((k : ℕ) → k ≢ at → layout.stored new k ≡ layout.stored old k) → Fills layout old new home symbol code
  Fills-free old new home at symbol code free e stored others =
      let p : FillsSlot (layout.slots old) (layout.slots new) home symbol = subst (λ (xs : List (Option S)). FillsSlot (layout.slots old) xs home symbol) (sym e) (free.1 symbol) in
      let here : get_or (layout.slots new) p.at None ≡ Some symbol = ap (λ xs. get_or xs p.at None) p.written ∙ get_or-set_same (layout.slots old) p.at (Some symbol) None p.in_range in
      let same : p.at ≡ at = elim (cases_eq p.at at) as (λ _. p.at ≡ at) [
        | inl q ↦ q
        | inr ne ↦ absurd (let a : get_or (layout.slots new) p.at None ≡ None = ap (λ xs. get_or xs p.at None) e ∙ get_or-set_other (layout.slots old) at p.at (Some symbol) None ne ∙ p.was_empty in
            let b : None ≡ Some symbol = sym a ∙ here in cc)
      ] in
      record { slot = p; stored = ap (layout.stored new) same ∙ stored; others = λ k ne. others k (subst (λ n. k ≢ n) same ne) }

  -- a put writes an empty slot, and no other
  pub Fills-keeps : (old new : L) (home : ℕ) (symbol : S) (code : ℕ) → Fills layout old new home symbol code → KeepsFilled layout old new
  Fills-keeps old new home symbol code p k s e =
      let other : k ≢ p.slot.at = λ q. (let empty : Some s ≡ None = sym e ∙ ap (λ j. get_or (layout.slots old) j None) q ∙ p.slot.was_empty in cc) in
      (ap (λ xs. get_or xs k None) p.slot.written ∙ get_or-set_other (layout.slots old) p.slot.at k (Some symbol) None other ∙ e, p.others k other)

  -- a symbol that is put with what its text's code stores
  pub IsCoded-put : (entry : S → Option Text) (code : Text → ℕ) (old new : L) (home : ℕ) (symbol : S) (c : ℕ) → Fills layout old new home symbol c
      → (text : Text) → entry symbol ≡ Some text → layout.stores c ≡ layout.stores (code text) → IsCoded layout.stores entry code (layout.slots old) (layout.stored old)
      → IsCoded layout.stores entry code (layout.slots new) (layout.stored new)
  IsCoded-put entry code old new home symbol c p text is agrees coded =
      subst (λ (xs : List (Option S)). IsCoded layout.stores entry code xs (layout.stored new)) (sym p.slot.written)
      (IsCoded-set layout.stores entry code (layout.slots old) (layout.stored old) (layout.stored new) p.slot.at p.others coded symbol text is (p.stored ∙ agrees))
