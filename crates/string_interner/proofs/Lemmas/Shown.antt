-- How far a look has come at words that another thread may be writing.
use Rattle.std.proofs.Common.{◌≡◌, ℕ, ◌+◌, ◌-◌, ◌^◌, ◌<◌, ◌≤◌, ◌%◌, ◌⊎◌, Bool, false, List, Option, Some, None, length, get_or, sym, ap, subst, ◌∙◌, inl, inr, arith}
use Rattle.std.proofs.lemmas.Bool.{cases_lt}
use Rattle.std.proofs.lemmas.List.{length-map}
use Rattle.std.proofs.lemmas.List.Elements.{Contains-get_or}
use Rattle.std.proofs.Math.ListN.{get_or-map}
use Rattle.std.specs.List.{Contains}
use Rattle.string_interner.specs.Text.{Text}
use Rattle.string_interner.specs.Symbol.{number_below}
use Rattle.string_interner.specs.Index.{has_text, look_up}
use Rattle.string_interner.specs.Probe.{Follows, Misses}
use Rattle.string_interner.specs.Shown.{AreSure, IsShown, number_slots, numbers_in}
use Rattle.string_interner.specs.Slots.{first_passing, probe_cluster, symbols}
use Rattle.string_interner.specs.Tagged.{stored_code, symbol_in}
use Rattle.string_interner.specs.Words.{slot_of}
use Rattle.string_interner.specs.declared.dedup.tagged.CodedSymbol.{CodedSymbol}
use Rattle.string_interner.proofs.Lemmas.Index.LookUp.{Fits-find}
use Rattle.string_interner.proofs.Lemmas.Index.ProbeLoop.{Stands, Stands-start, Stands-missed, Stands-empty, Stands-ends}
use Rattle.string_interner.proofs.Lemmas.Index.Vacancy.{mod_less}
use Rattle.string_interner.proofs.Lemmas.TaggedSlots.SymbolsIn.{symbols_in-at}
use Rattle.string_interner.proofs.Lemmas.WordSlots.{misses_coded}

-- what is in a slot of words
slot_at : (words : List ℕ) (at : ℕ) → get_or (number_slots words) at None ≡ slot_of (number_below (2 ^ 32 - 1)) (get_or words at 0)
slot_at words at = get_or-map (slot_of (number_below (2 ^ 32 - 1))) words at 0

pub length-numbers_in : (words : List ℕ) → length (numbers_in words) ≡ length words
length-numbers_in words = length-map (number_slots words) symbol_in ∙ length-map words (slot_of (number_below (2 ^ 32 - 1)))

module _ (text_of : ℕ → Option Text) (sure : List ℕ) (code : ℕ) (text : Text) where
  abbrev test : ℕ → Bool
  test = has_text text_of text

  abbrev slots : List (Option ℕ)
  slots = numbers_in sure

  -- no number has the text in the table
  abbrev IsAbsent : Type 0
  IsAbsent = look_up text_of slots text ≡ None

  -- all words that were passed are sure and miss; or one of them was 0 among the sure ones, which tells that the text is absent
  abbrev pub HasSeen : ℕ → ℕ → Type 0
  HasSeen steps at = Stands test slots (code % length slots) steps at ⊎ IsAbsent

  module _ (shown : IsShown text_of sure code text) (some : 0 < length sure) where
    free : length (symbols slots) < length slots
    free = let l = shown.load in let n = length-numbers_in sure in omega (arith, some)

    home : code % length slots < length slots
    home = let f = free in mod_less code (length slots) (omega arith)

    pub seen-start : HasSeen 0 (code % length slots)
    seen-start = inl (Stands-start test slots _ home free)

    -- a look that passed all words has seen that the text is absent
    pub seen-end : (steps at : ℕ) → HasSeen steps at → length sure ≤ steps → IsAbsent
    seen-end steps at seen all = elim seen as (λ _. IsAbsent) [
      | inl stands ↦ absurd (Stands-ends test slots _ home free steps at stands (let n = length-numbers_in sure in omega (arith, all)))
      | inr absent ↦ absent
    ]

    module _ (steps at word : ℕ) (here : 0 < get_or sure at 0 → word ≡ get_or sure at 0) (seen : HasSeen steps at) where
      -- an empty slot ends the probe
      empty : get_or (number_slots sure) at None ≡ None → IsAbsent
      empty none = elim seen as (λ _. IsAbsent) [
        | inl stands ↦
            sym (Fits-find text_of shown.fits.0 slots shown.fits.1.0.slots text) ∙ ap (λ c. first_passing test (probe_cluster slots c)) (sym shown.fits.1.1)
            ∙ (Stands-empty test slots _ home free steps at stands (symbols_in-at (number_slots sure) at None none)).0
        | inr absent ↦ absent
      ]

      -- and so does a sure word that is 0, whatever is read there
      unwritten : get_or sure at 0 ≡ 0 → IsAbsent
      unwritten z = empty (slot_at sure at ∙ ap (slot_of (number_below (2 ^ 32 - 1))) z)

      pub seen-empty : slot_of (number_below (2 ^ 32 - 1)) word ≡ None → IsAbsent
      seen-empty none = elim (cases_lt 0 (get_or sure at 0)) as (λ _. IsAbsent) [
        | inl some ↦ empty (slot_at sure at ∙ ap (slot_of (number_below (2 ^ 32 - 1))) (sym (here some)) ∙ none)
        | inr le ↦ unwritten (omega (arith, le))
      ]

      pub seen-missed : (is_sure : ℕ → Type 0) → AreSure is_sure sure → (item : CodedSymbol ℕ) → slot_of (number_below (2 ^ 32 - 1)) word ≡ Some item → at < length sure
          → (is_sure item.symbol → item.code ≡ stored_code code → test item.symbol ≡ false) → (next : ℕ) → Follows (length sure) at next → HasSeen (steps + 1) next
      seen-missed is_sure known item is within missed next after = elim (cases_lt 0 (get_or sure at 0)) as (λ _. HasSeen (steps + 1) next) [
        | inl some ↦
            let there : get_or (number_slots sure) at None ≡ Some item = slot_at sure at ∙ ap (slot_of (number_below (2 ^ 32 - 1))) (sym (here some)) ∙ is in
            let n = length-map sure (slot_of (number_below (2 ^ 32 - 1))) in let m = length-map (number_slots sure) symbol_in in
            let there_too = symbols_in-at (number_slots sure) at (Some item) there in
            let has_text_now = known item.symbol (subst (Contains slots) there_too (Contains-get_or slots at None (omega arith))) in
            let misses : Misses test slots at = misses_coded text_of _ (number_slots sure) shown.fits.1.0 text code shown.fits.1.1 at item (omega arith) there (missed has_text_now) in
            let count : length sure ≡ length slots = omega arith in
            elim seen as (λ _. HasSeen (steps + 1) next) [
              | inl stands ↦ inl (Stands-missed test slots _ home free steps at stands next misses (subst (λ n. Follows n at next) count after))
              | inr absent ↦ inr absent
            ]
        | inr le ↦ inr (unwritten (omega (arith, le)))
      ]
