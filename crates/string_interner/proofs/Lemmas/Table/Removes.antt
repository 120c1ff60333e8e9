-- The symbols of a backend's last texts removed from a table, one after another.
use Rattle.std.proofs.Common.{◌≡◌, ◌≢◌, ℕ, ◌+◌, ◌<◌, ◌≤◌, ◌⊎◌, Bool, true, false, cond, List, [], ◌∷◌, ◌++◌, length, take, get_or, Option, Some, None, refl, sym, ap, ◌∙◌, inl, inr, arith}
use Rattle.std.specs.Prelude.{◌^◌}
use Rattle.std.proofs.lemmas.Bool.{cases_eq, cases_lt}
use Rattle.std.proofs.lemmas.List.{take-take, length-take-le, get_or-take}
use Rattle.std.proofs.lemmas.Option.{slice_get-get_or, get_or_from_slice_get}
use Rattle.std.proofs.lemmas.Slice.Eq.{bytes_eq-Decides}
use Rattle.std.specs.List.{Contains}
use Rattle.std.specs.Option.{unwrap_or}
use Rattle.std.specs.Str.{bytes_eq}
use Rattle.string_interner.specs.Text.{Text}
use Rattle.string_interner.specs.Backend.{BeginsAt}
use Rattle.string_interner.specs.Entry.{entry_text}
use Rattle.string_interner.specs.EntryLaws.{entry_text-at, entry_text-is}
use Rattle.string_interner.specs.Index.{RemovesPair, look_up, text_of}
use Rattle.string_interner.specs.Layout.{IsLayout, IsTable, SlotLayout}
use Rattle.string_interner.specs.Numbering.{Numbering}
use Rattle.string_interner.proofs.Lemmas.Index.Fits.{Fits-kept, look_up-kept}
use Rattle.string_interner.proofs.Lemmas.Index.Inserts.{text_of_is}
use Rattle.string_interner.proofs.Lemmas.Index.LookUp.{absent}
use Rattle.string_interner.proofs.Lemmas.Index.RemovesPair.{look_up-in}
use Rattle.string_interner.proofs.Lemmas.Interner.StandsFor.{later}
use Rattle.string_interner.proofs.Lemmas.Table.IsTable.{Fits-of, IsCoded-of, fits-of}

-- the table lacks the texts from `len` on and before `i`, and has all others
pub record Lacks {S L : Type 0} (layout : SlotLayout S L) (numbering : Numbering S) (code : Text → ℕ) (texts : List Text) (len : ℕ) (x : L) (i : ℕ) : Type 0 where
  pub fits : layout.fits (entry_text numbering texts) code x
  pub kept : (s : S) (t : Text) (j : ℕ) → entry_text numbering texts s ≡ Some t → BeginsAt numbering.place texts (numbering.number s) j → (j < len) ⊎ (i ≤ j)
      → look_up (entry_text numbering texts) (layout.slots x) t ≡ Some s
  pub gone : (s : S) (t : Text) (j : ℕ) → entry_text numbering texts s ≡ Some t → BeginsAt numbering.place texts (numbering.number s) j → len ≤ j → j < i
      → look_up (entry_text numbering texts) (layout.slots x) t ≡ None

module _ {S L : Type 0} (layout : SlotLayout S L) (laws : IsLayout layout) (numbering : Numbering S)
    (numbered : (i : ℕ) (s : S) → numbering.symbol_of i ≡ Some s → (numbering.number s ≡ i) × (i < 2 ^ 64))
    (injective : (a b : S) → numbering.number a ≡ numbering.number b → a ≡ b)
    (grows : (texts : List Text) (text : Text) → numbering.place texts < numbering.place (texts ++ text ∷ []))
    (code : Text → ℕ) (texts : List Text) (len : ℕ) (h : len ≤ length texts) where
  abbrev entry : S → Option Text
  entry = entry_text numbering texts

  pub Lacks-start : (x : L) → IsTable layout entry code x → Lacks layout numbering code texts len x len
  Lacks-start x table = record {
    fits = table.fits;
    kept = λ s t j is at from. table.whole s t is;
    gone = λ s t j is at from to. absurd (omega arith);
  }

  -- entries with one number are one
  one_entry : (i j : ℕ) → i < length texts → j < length texts → numbering.place (take i texts) ≡ numbering.place (take j texts) → i ≡ j
  one_entry i j l m e = elim (cases_lt i j) [
    | inl b ↦ absurd (let less = later numbering numbered grows texts i j b (omega arith) in omega arith)
    | inr b ↦ elim (cases_lt j i) [ inl d ↦ absurd (let less = later numbering numbered grows texts j i d (omega arith) in omega arith) | inr d ↦ omega arith ]
  ]

  module _ (x : L) (i : ℕ) (from : len ≤ i) (l : i < length texts) (lacks : Lacks layout numbering code texts len x i) (u : S) (is : numbering.symbol_of (numbering.place (take i texts)) ≡ Some u) where
    number_is : numbering.number u ≡ numbering.place (take i texts)
    number_is = (numbered (numbering.place (take i texts)) u is).0

    abbrev text : Text
    text = get_or texts i []

    has_text : entry u ≡ Some text
    has_text = entry_text-at numbering grows texts u i l number_is ∙ slice_get-get_or texts i [] l

    begins : BeginsAt numbering.place texts (numbering.number u) i
    begins = record { within = l; begins = sym number_is }

    found : look_up entry (layout.slots x) text ≡ Some u
    found = lacks.kept u text i has_text begins (inr (omega arith))

    -- the next symbol is in the table
    pub Lacks-has : Contains (layout.slots x) (Some u)
    Lacks-has = look_up-in entry (layout.slots x) text u found

    -- and once it is removed the table lacks one more
    pub Lacks-more : (new : L) → layout.fits entry code new → RemovesPair entry (layout.slots x) (layout.slots new) u → Lacks layout numbering code texts len new (i + 1)
    Lacks-more new fits pair =
        let text_is : text_of entry u ≡ text = text_of_entry in
        let at : (t : Text) → look_up entry (layout.slots new) t ≡ cond (bytes_eq t text) None (look_up entry (layout.slots x) t) =
        λ t. pair t ∙ ap (λ v. cond (bytes_eq t v) None (look_up entry (layout.slots x) t)) text_is in
        let same : (t : Text) → t ≡ text → look_up entry (layout.slots new) t ≡ None =
        λ t e. at t ∙ ap (λ b. cond b None (look_up entry (layout.slots x) t)) ((bytes_eq-Decides t text).1 e) in
        let other : (t : Text) → t ≢ text → look_up entry (layout.slots new) t ≡ look_up entry (layout.slots x) t =
        λ t ne. at t ∙ (let by : (b : Bool) → bytes_eq t text ≡ b → cond b None (look_up entry (layout.slots x) t) ≡ look_up entry (layout.slots x) t =
        elim [ true ↦ λ q. absurd (ne ((bytes_eq-Decides t text).0 q)) | false ↦ λ q. refl ] in by (bytes_eq t text) refl) in
        record {
          fits = fits;
          kept = λ s t j is_s b where_is.
              let before : look_up entry (layout.slots x) t ≡ Some s = lacks.kept s t j is_s b (sooner j where_is) in
              let ne : t ≢ text = λ e.
              (let both : Some s ≡ Some u = sym before ∙ ap (look_up entry (layout.slots x)) e ∙ found in let one : s ≡ u = cc in
              apart j where_is (one_entry j i b.within l (b.begins ∙ ap numbering.number one ∙ number_is))) in
              other t ne ∙ before;
          gone = λ s t j is_s b low high. elim (cases_eq j i) as (λ _. look_up entry (layout.slots new) t ≡ None) [
            | inl e ↦
                (let one : s ≡ u = injective s u (sym b.begins ∙ ap (λ k. numbering.place (take k texts)) e ∙ sym number_is) in
                let texts_are : Some t ≡ Some text = sym is_s ∙ ap entry one ∙ has_text in let q : t ≡ text = cc in
                same t q)
            | inr ne ↦
                (let before : look_up entry (layout.slots x) t ≡ None = lacks.gone s t j is_s b low (omega arith) in
                by_text (look_up entry (layout.slots x) t) (look_up entry (layout.slots new) t) t before (same t) (other t))
          ];
        }
      where
        text_of_entry : text_of entry u ≡ text
        text_of_entry = ap (λ o. unwrap_or o []) has_text

        sooner : (j : ℕ) → (j < len) ⊎ (i + 1 ≤ j) → (j < len) ⊎ (i ≤ j)
        sooner j (inl a) = inl a
        sooner j (inr a) = inr (omega arith)

        apart : (j : ℕ) → (j < len) ⊎ (i + 1 ≤ j) → j ≡ i → ⊥
        apart j (inl a) e = omega arith
        apart j (inr a) e = omega arith

        by_text : (a b : Option S) (t : Text) → a ≡ None → (t ≡ text → b ≡ None) → (t ≢ text → b ≡ a) → b ≡ None
        by_text a b t e one two = by (bytes_eq t text) refl
          where
            by : (c : Bool) → bytes_eq t text ≡ c → b ≡ None
            by true q = one ((bytes_eq-Decides t text).0 q)
            by false q = two (λ z. let y = (bytes_eq-Decides t text).1 z in let w : true ≡ false = sym y ∙ q in cc) ∙ e

  -- what lacks all of these has the first texts alone
  pub Lacks-end : (x : L) → Lacks layout numbering code texts len x (length texts) → IsTable layout (entry_text numbering (take len texts)) code x
  Lacks-end x lacks =
      let front = entry_text numbering (take len texts) in
      let n = length-take-le len texts h in
      let fits = Fits-of layout laws entry code x lacks.fits in
      let slots = layout.slots x in
      let kept : (s : S) → Contains slots (Some s) → front s ≡ entry s = λ s c. kept_in s c in
      record {
        fits = fits-of layout laws front code x (Fits-kept entry front slots kept code fits)
            (λ k s t m e is. IsCoded-of layout laws entry code x lacks.fits k s t m e (front_entry s t is).1);
        whole = λ s t is.
            let r = front_entry s t is in
            look_up-kept entry front slots kept t ∙ lacks.kept s t r.0.0 r.1 r.0.1 (inl r.0.2);
      }
    where
      begins_whole : (s : S) (j : ℕ) → BeginsAt numbering.place (take len texts) (numbering.number s) j → BeginsAt numbering.place texts (numbering.number s) j
      begins_whole s j b = let n = length-take-le len texts h in let w = b.within in record {
        within = omega arith;
        begins = ap numbering.place (sym (take-take j len texts (omega arith))) ∙ b.begins;
      }

      -- an entry of the front
      front_entry : (s : S) (t : Text) → entry_text numbering (take len texts) s ≡ Some t
          → ((j : ℕ) × BeginsAt numbering.place texts (numbering.number s) j × (j < len)) × (entry s ≡ Some t)
      front_entry s t is =
          let r = entry_text-is numbering (take len texts) s t is in let b = begins_whole s r.0 r.1 in
          let n = length-take-le len texts h in let l : r.0 < len = (let w = r.1.within in omega arith) in
          let e : get_or texts r.0 [] ≡ t = sym (get_or-take len texts r.0 [] l) ∙ get_or_from_slice_get (take len texts) r.0 t [] r.2 in
          ((r.0, b, l), entry_text-at numbering grows texts s r.0 b.within (sym b.begins) ∙ slice_get-get_or texts r.0 [] b.within ∙ ap Some e)

      kept_in : (s : S) → Contains (layout.slots x) (Some s) → entry_text numbering (take len texts) s ≡ entry s
      kept_in s c =
          let fits = Fits-of layout laws entry code x lacks.fits in
          let is = text_of_is entry s (fits.entries s c) in
          let r = entry_text-is numbering texts s (text_of entry s) is in
          let n = length-take-le len texts h in
          elim (cases_lt r.0 len) as (λ _. entry_text numbering (take len texts) s ≡ entry s) [
            | inl l ↦
                (let m : r.0 < length (take len texts) = omega arith in
                let e : get_or texts r.0 [] ≡ text_of entry s = get_or_from_slice_get texts r.0 (text_of entry s) [] r.2 in
                entry_text-at numbering grows (take len texts) s r.0 m (sym r.1.begins ∙ ap numbering.place (sym (take-take r.0 len texts (omega arith))))
                ∙ slice_get-get_or (take len texts) r.0 [] m ∙ ap Some (get_or-take len texts r.0 [] l ∙ e) ∙ sym is)
            | inr l ↦ absurd (absent entry code (layout.slots x) fits (text_of entry s) (lacks.gone s (text_of entry s) r.0 is r.1 (omega arith) r.1.within) s c is)
          ]
