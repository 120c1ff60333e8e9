-- What the two lists of a tagged index show as slots, and what keeps them together.
use Rattle.std.proofs.Common.{◌≡◌, ◌≢◌, ℕ, zero, suc, ◌+◌, ◌-◌, ◌<◌, ◌≤◌, List, [], ◌∷◌, map, replicate, Option, Some, None, length, get_or, set, refl, sym, ap, subst, ◌∙◌, inl, inr, arith}
use Rattle.std.specs.List.{zip}
use Rattle.std.proofs.lemmas.Bool.{cases_eq, cases_lt}
use Rattle.std.proofs.lemmas.List.{length-set, length-replicate, get_or-set_same, get_or-set_other, get_or-map, get_or-replicate, get_or_default, map-set}
use Rattle.std.proofs.lemmas.Slice.Zip.{length-zip, get_or-zip}
use Rattle.string_interner.specs.declared.dedup.tagged.CodedSymbol.{CodedSymbol}
use Rattle.string_interner.specs.Tagged.{HasAnotherTag, IsTagged, slot_in, slots_of, tag_of}

zero_at : (n k : ℕ) → ◌≡◌ {A = ℕ} (get_or (replicate n 0) k 0) 0
zero_at zero k = refl
zero_at (suc n) zero = refl
zero_at (suc n) (suc k) = zero_at n k

-- a list of one value keeps it
replicate-set : {X : Type 0} (n at : ℕ) (x : X) → set (replicate n x) at x ≡ replicate n x
replicate-set zero at x = refl
replicate-set (suc n) zero x = refl
replicate-set (suc n) (suc at) x = ap (λ rest. x ∷ rest) (replicate-set n at x)

-- what passes only tags that are set does not pass one that is not
pub within_unset : (tags : List ℕ) (at n count : ℕ) → at ≤ count → get_or tags count 0 ≡ 0 → ((j : ℕ) → j < n → get_or tags (at + j) 0 ≢ 0) → at + n ≤ count
within_unset tags at n count le end nz = elim (cases_lt count (at + n)) as (λ _. at + n ≤ count) [
  | inl l ↦ (let e : count ≡ at + (count - at) = omega arith in absurd (nz (count - at) (omega arith) (subst (λ (m : ℕ). get_or tags m 0 ≡ 0) e end)))
  | inr l ↦ l
]

module _ {S : Type 0} where
  slot_in-some : (tag : ℕ) (item : CodedSymbol S) → tag ≢ 0 → slot_in (tag, item) ≡ Some item
  slot_in-some zero item ne = absurd (ne refl)
  slot_in-some (suc tag) item ne = refl

  zip-set : (tags : List ℕ) (items : List (CodedSymbol S)) (at tag : ℕ) (item : CodedSymbol S) → zip (set tags at tag) (set items at item) ≡ set (zip tags items) at (tag, item)
  zip-set [] items at tag item = refl
  zip-set (t ∷ tags) [] zero tag item = refl
  zip-set (t ∷ tags) [] (suc at) tag item = refl
  zip-set (t ∷ tags) (i ∷ items) zero tag item = refl
  zip-set (t ∷ tags) (i ∷ items) (suc at) tag item = ap (λ rest. (t, i) ∷ rest) (zip-set tags items at tag item)

  -- without tags all slots are empty, whatever the items are
  zip-zeroes : (n : ℕ) (items : List (CodedSymbol S)) → length items ≤ n → map slot_in (zip (replicate n 0) items) ≡ replicate (length items) None
  zip-zeroes zero [] le = refl
  zip-zeroes zero (i ∷ items) le = absurd (omega arith)
  zip-zeroes (suc n) [] le = refl
  zip-zeroes (suc n) (i ∷ items) le = ap (λ rest. None ∷ rest) (zip-zeroes n items (omega arith))

  pub slots_of-zeroes : (count n : ℕ) (items : List (CodedSymbol S)) → (0 < count → n ≡ count + 16) → (0 < length items → length items ≡ count) → slots_of count (replicate n 0) items ≡ replicate count None
  slots_of-zeroes count n [] ahead all = refl
  slots_of-zeroes count n (i ∷ items) ahead all = let e = all (omega arith) in let a = ahead (omega arith) in zip-zeroes n (i ∷ items) (omega arith) ∙ ap (λ k. replicate k None) e

  none_at : (count k : ℕ) → ◌≡◌ {A = Option (CodedSymbol S)} (get_or (replicate count None) k None) None
  none_at zero k = refl
  none_at (suc count) zero = refl
  none_at (suc count) (suc k) = none_at count k

  slots_of-at : (count : ℕ) (tags : List ℕ) (items : List (CodedSymbol S)) (k : ℕ) (d : CodedSymbol S) → k < length items → k < length tags
      → get_or (slots_of count tags items) k None ≡ slot_in (get_or tags k 0, get_or items k d)
  slots_of-at count tags [] k d l t = absurd (omega arith)
  slots_of-at count tags (i ∷ items) k d l t =
      let n = length-zip tags (i ∷ items) in
      get_or-map slot_in (zip tags (i ∷ items)) k (0, d) None (omega arith) ∙ ap slot_in (get_or-zip tags (i ∷ items) k (0, d) t l)

  -- what a slot holds, by its tag
  pub slot_empty : (count : ℕ) (tags : List ℕ) (items : List (CodedSymbol S)) (capacity : ℕ) → IsTagged count tags items capacity → (at : ℕ) → at < count → get_or tags at 0 ≡ 0
      → get_or (slots_of count tags items) at None ≡ None
  slot_empty count tags [] capacity h at l e = none_at count at
  slot_empty count tags (i ∷ items) capacity h at l e =
      let n = h.all (omega arith) in let t = h.ahead (omega arith) in
      slots_of-at count tags (i ∷ items) at i (omega arith) (omega arith) ∙ ap (λ (t : ℕ). slot_in (t, get_or (i ∷ items) at i)) e

  pub record HasItem (items : List (CodedSymbol S)) (slot : Option (CodedSymbol S)) (at : ℕ) : Type 0 where
    pub item : CodedSymbol S
    pub filled : slot ≡ Some item
    pub is : (d : CodedSymbol S) → get_or items at d ≡ item

  pub slot_filled : (count : ℕ) (tags : List ℕ) (items : List (CodedSymbol S)) (capacity : ℕ) → IsTagged count tags items capacity → (at : ℕ) → at < count → get_or tags at 0 ≢ 0
      → HasItem items (get_or (slots_of count tags items) at None) at
  slot_filled count tags [] capacity h at l ne =
      let t = h.ahead (omega arith) in absurd (ne (ap (λ xs. get_or xs at 0) (h.unset refl) ∙ get_or-replicate (length tags) at 0 0 (omega arith)))
  slot_filled count tags (i ∷ items) capacity h at l ne = let n = h.all (omega arith) in let t = h.ahead (omega arith) in record {
    item = get_or (i ∷ items) at i;
    filled = slots_of-at count tags (i ∷ items) at i (omega arith) (omega arith) ∙ slot_in-some (get_or tags at 0) (get_or (i ∷ items) at i) ne;
    is = λ d. get_or_default (i ∷ items) at d i (omega arith);
  }

  -- a tag that is set is that of a slot
  pub within_set : (count : ℕ) (tags : List ℕ) (items : List (CodedSymbol S)) (capacity : ℕ) → IsTagged count tags items capacity → (at tag : ℕ) → at ≤ count → 0 < tag → get_or tags at 0 ≡ tag → at < count
  within_set count tags items capacity h at tag le some e = elim (cases_eq at count) as (λ _. at < count) [
    | inl q ↦ absurd (let z : get_or tags at 0 ≡ 0 = ap (λ j. get_or tags j 0) q ∙ h.end in omega arith)
    | inr ne ↦ omega arith
  ]

  -- slots whose tags are neither 0 nor this one are filled and have others
  pub others_passed : (count : ℕ) (tags : List ℕ) (items : List (CodedSymbol S)) (capacity : ℕ) → IsTagged count tags items capacity → (tag at n : ℕ) → at + n ≤ count
      → ((j : ℕ) → j < n → get_or tags (at + j) 0 ≢ tag) → ((j : ℕ) → j < n → get_or tags (at + j) 0 ≢ 0)
      → (k : ℕ) → at ≤ k → k < at + n → HasAnotherTag (slots_of count tags items) tag k
  others_passed count tags items capacity h tag at n within ne nz k from l =
      let e : at + (k - at) ≡ k = omega arith in let j : k - at < n = omega arith in
      let not_tag = subst (λ (m : ℕ). get_or tags m 0 ≢ tag) e (ne (k - at) j) in
      let there = slot_filled count tags items capacity h k (omega arith) (subst (λ (m : ℕ). get_or tags m 0 ≢ 0) e (nz (k - at) j)) in
      record { item = there.item; filled = there.filled; other = λ f. not_tag (h.tag k there.item there.filled ∙ f) }

  -- where there are no items yet, the first one may be written to all slots
  slots_of-filled : (count : ℕ) (tags : List ℕ) (items more : List (CodedSymbol S)) (capacity : ℕ) (item : CodedSymbol S) → IsTagged count tags items capacity
      → (length items ≡ 0 → more ≡ replicate count item) → (0 < length items → more ≡ items) → (length more ≡ count) × (slots_of count tags more ≡ slots_of count tags items)
  slots_of-filled count tags (i ∷ items) more capacity item h first same = let e = same (omega arith) in (ap length e ∙ h.all (omega arith), ap (slots_of count tags) e)
  slots_of-filled count tags [] more capacity item h first same =
      let n = ap length (first refl) ∙ length-replicate count item in
      (n, ap (λ xs. slots_of count xs more) (h.unset refl) ∙ slots_of-zeroes count (length tags) more h.ahead (λ some. n))

  zip_slots-set : (tags : List ℕ) (items : List (CodedSymbol S)) (at tag : ℕ) (item : CodedSymbol S) → tag ≢ 0
      → map slot_in (zip (set tags at tag) (set items at item)) ≡ set (map slot_in (zip tags items)) at (Some item)
  zip_slots-set tags items at tag item ne =
      ap (map slot_in) (zip-set tags items at tag item) ∙ map-set slot_in (zip tags items) at (tag, item) ∙ ap (set (map slot_in (zip tags items)) at) (slot_in-some tag item ne)

  slots_of-set : (count : ℕ) (tags : List ℕ) (items : List (CodedSymbol S)) (at tag : ℕ) (item : CodedSymbol S) → at < length items → tag ≢ 0
      → slots_of count (set tags at tag) (set items at item) ≡ set (slots_of count tags items) at (Some item)
  slots_of-set count tags [] at tag item l ne = absurd (omega arith)
  slots_of-set count tags (i ∷ items) zero tag item l ne = zip_slots-set tags (i ∷ items) zero tag item ne
  slots_of-set count tags (i ∷ items) (suc at) tag item l ne = zip_slots-set tags (i ∷ items) (suc at) tag item ne

  -- an item is put into a slot, after a first one was written to all
  module _ (count : ℕ) (tags : List ℕ) (items more : List (CodedSymbol S)) (capacity room : ℕ) (h : IsTagged count tags items capacity) (at tag : ℕ) (item : CodedSymbol S)
      (first : length items ≡ 0 → more ≡ replicate count item) (same : 0 < length items → more ≡ items) (le : capacity ≤ room) (l : at < count) (e : tag ≡ tag_of item.code) where
    pub slots_of-put : slots_of count (set tags at tag) (set more at item) ≡ set (slots_of count tags items) at (Some item)
    slots_of-put =
        let ready = slots_of-filled count tags items more capacity item h first same in let n = ready.0 in
        slots_of-set count tags more at tag item (omega arith) (λ z. omega arith) ∙ ap (λ xs. set xs at (Some item)) ready.1

    tagged_as : (k : ℕ) (i : CodedSymbol S) → get_or (set (slots_of count tags items) at (Some item)) k None ≡ Some i → get_or (set tags at tag) k 0 ≡ tag_of i.code
    tagged_as k i f = elim (cases_eq k at) as (λ _. get_or (set tags at tag) k 0 ≡ tag_of i.code) [
      | inl q ↦
          (let t = h.ahead (omega arith) in let n = h.counted in
          let both : Some item ≡ Some i = sym (ap (λ j. get_or (set (slots_of count tags items) at (Some item)) j None) q ∙ get_or-set_same (slots_of count tags items) at (Some item) None (omega arith)) ∙ f in
          let is : item ≡ i = cc in
          ap (λ j. get_or (set tags at tag) j 0) q ∙ get_or-set_same tags at tag 0 (omega arith) ∙ e ∙ ap (λ x. tag_of x.code) is)
      | inr ne ↦ get_or-set_other tags at k tag 0 ne ∙ h.tag k i (sym (get_or-set_other (slots_of count tags items) at k (Some item) None ne) ∙ f)
    ]

    pub IsTagged-put : IsTagged count (set tags at tag) (set more at item) room
    IsTagged-put =
        let n = (slots_of-filled count tags items more capacity item h first same).0 in let m = length-set more at item in let t = length-set tags at tag in
        let r = h.room in let a = h.ahead (omega arith) in record {
          counted = ap length slots_of-put ∙ length-set (slots_of count tags items) at (Some item) ∙ h.counted;
          ahead = λ some. omega arith;
          end = get_or-set_other tags at count tag 0 (λ q. absurd (omega arith)) ∙ h.end;
          tag = λ k i f. tagged_as k i (ap (λ xs. get_or xs k None) (sym slots_of-put) ∙ f);
          all = λ some. omega arith;
          unset = λ none. absurd (omega arith);
          room = omega arith;
        }

  -- a tag is set to 0
  zip_slots-unset : (tags : List ℕ) (items : List (CodedSymbol S)) (at : ℕ) → map slot_in (zip (set tags at 0) items) ≡ set (map slot_in (zip tags items)) at None
  zip_slots-unset [] items at = refl
  zip_slots-unset (t ∷ tags) [] zero = refl
  zip_slots-unset (t ∷ tags) [] (suc at) = refl
  zip_slots-unset (t ∷ tags) (i ∷ items) zero = refl
  zip_slots-unset (t ∷ tags) (i ∷ items) (suc at) = ap (λ rest. slot_in (t, i) ∷ rest) (zip_slots-unset tags items at)

  pub slots_of-unset : (count : ℕ) (tags : List ℕ) (items : List (CodedSymbol S)) (at : ℕ) → slots_of count (set tags at 0) items ≡ set (slots_of count tags items) at None
  slots_of-unset count tags [] at = sym (replicate-set count at None)
  slots_of-unset count tags (i ∷ items) at = zip_slots-unset tags (i ∷ items) at

  pub IsTagged-unset : (count : ℕ) (tags : List ℕ) (items : List (CodedSymbol S)) (capacity : ℕ) → IsTagged count tags items capacity → (at : ℕ) → at < count → IsTagged count (set tags at 0) items capacity
  IsTagged-unset count tags items capacity h at l =
      let slots = slots_of count tags items in let n = length-set tags at 0 in let t = h.ahead (omega arith) in record {
        counted = ap length (slots_of-unset count tags items at) ∙ length-set slots at None ∙ h.counted;
        ahead = λ some. omega arith;
        end = get_or-set_other tags at count 0 0 (λ q. absurd (omega arith)) ∙ h.end;
        tag = λ k i f. let is : get_or (set slots at None) k None ≡ Some i = ap (λ xs. get_or xs k None) (sym (slots_of-unset count tags items at)) ∙ f in
            elim (cases_eq k at) as (λ _. get_or (set tags at 0) k 0 ≡ tag_of i.code) [
              | inl q ↦ absurd (let d = h.counted in let z : None ≡ Some i = sym (ap (λ j. get_or (set slots at None) j None) q ∙ get_or-set_same slots at None None (omega arith)) ∙ is in cc)
              | inr ne ↦ get_or-set_other tags at k 0 0 ne ∙ h.tag k i (sym (get_or-set_other slots at k None None ne) ∙ is)
            ];
        all = h.all;
        unset = λ none. let z = h.unset none in ap (λ xs. set xs at 0) z ∙ replicate-set (length tags) at 0 ∙ ap (λ m. replicate m 0) (sym n);
        room = h.room;
      }

  -- tags that are all 0
  pub IsTagged-zeroes : (count n : ℕ) (items : List (CodedSymbol S)) (capacity : ℕ) → (0 < count → n ≡ count + 16) → (0 < length items → length items ≡ count) → count ≤ capacity
      → IsTagged count (replicate n 0) items capacity
  IsTagged-zeroes count n items capacity ahead all room =
      let none = slots_of-zeroes count n items ahead all in let m = length-replicate {A = ℕ} n 0 in record {
        counted = ap length none ∙ length-replicate count None;
        ahead = λ some. m ∙ ahead some;
        end = zero_at n count;
        tag = λ k i f. absurd (let e : None ≡ Some i = sym (ap (λ xs. get_or xs k None) none ∙ none_at count k) ∙ f in cc);
        all = all;
        unset = λ e. ap (λ k. replicate k 0) (sym m);
        room = room;
      }
