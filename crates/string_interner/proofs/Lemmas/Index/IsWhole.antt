-- Slots that have the text of each entry: what they find, and how they take an entry more, or a text that is put last.
use Rattle.std.proofs.Common.{◌≡◌, ℕ, Bool, true, false, cond, List, [], Option, Some, None, refl, sym, ap, subst, ◌∙◌, inl, inr, ◌<◌, ◌∷◌, ◌++◌, take, IsSome}
use Rattle.std.specs.List.{Contains}
use Rattle.std.specs.Option.{is_some, unwrap_or}
use Rattle.std.specs.Str.{bytes_eq}
use Rattle.std.proofs.lemmas.Slice.Eq.{bytes_eq-Decides}
use Rattle.string_interner.specs.Text.{Text, first}
use Rattle.string_interner.specs.Slots.{symbols}
use Rattle.string_interner.specs.Index.{AddsPair, Fits, IsAbsent, SameMap, has_text, look_up, text_of}
use Rattle.string_interner.specs.Layout.{IsTable, plain_layout}
use Rattle.string_interner.specs.TextIndex.{Adds, FindsEntry, IsNewText}
use Rattle.string_interner.specs.EntryLaws.{entry_text-is, entry_text-at}
use Rattle.string_interner.proofs.Lemmas.Index.Inserts.{text_of_is}
use Rattle.string_interner.proofs.Lemmas.Index.LookUp.{FirstIs, first_is, entry_from_has}
use Rattle.string_interner.proofs.Lemmas.Index.Fits.{Fits-kept, look_up-kept}
use Rattle.std.specs.Prelude.{◌^◌, option_and_then}
use Rattle.std.proofs.lemmas.Option.{slice_get-get_or, get_or_from_slice_get}
use Rattle.string_interner.specs.Backend.{IsValidList}
use Rattle.string_interner.specs.Entry.{entry_text}
use Rattle.string_interner.specs.Interner.{entry_symbol, known_symbol}
use Rattle.string_interner.proofs.Lemmas.Texts.First.{first_within, first_is as text_at_first, first_none}
use Rattle.string_interner.specs.Numbering.{Numbering}

-- the slots fit, and have the text of each entry
abbrev pub IsWhole : {S : Type 0} → (S → Option Text) → (Text → ℕ) → List (Option S) → Type 0
IsWhole entry code slots = IsTable plain_layout entry code slots

-- the symbol that is found under a text has that text
pub look_up-text : {S : Type 0} (entry : S → Option Text) (slots : List (Option S)) (t : Text) (s : S) → look_up entry slots t ≡ Some s → entry s ≡ Some t
look_up-text entry slots t s e =
    let f : FirstIs (has_text entry t) (symbols slots) (Some s) =
    subst (FirstIs (has_text entry t) (symbols slots)) e (first_is (has_text entry t) (symbols slots)) in
    entry_from_has entry t s f.1

module _ {S : Type 0} (old more : S → Option Text) (code : Text → ℕ) (slots bigger : List (Option S)) (symbol : S) (t : Text)
    (ix : IsWhole old code slots) (fits : Fits old code bigger) (same : SameMap old slots bigger) where
  module _ (adds : Adds old more symbol t) where
    kept : (s : S) → Contains bigger (Some s) → more s ≡ old s
    kept s h = let is = text_of_is old s (fits.entries s h) in adds.kept s (text_of old s) is ∙ sym is

    -- one entry more: the slots still fit
    pub Fits-added : Fits more code bigger
    Fits-added = Fits-kept old more bigger kept code fits

    -- the symbol has the text
    pub text_of-added : text_of more symbol ≡ t
    text_of-added = ap (λ o. unwrap_or o []) adds.added

    module _ (absent : look_up old slots t ≡ None) where
      -- and its text is not there yet
      pub IsAbsent-added : IsAbsent more bigger symbol
      IsAbsent-added = record {
        is_entry = ap is_some adds.added;
        new_text = ap (look_up more bigger) text_of-added ∙ look_up-kept old more bigger kept t ∙ same t ∙ absent;
      }

      -- with its symbol inserted they are whole again
      pub IsWhole-added : (new : List (Option S)) → Fits more code new → AddsPair more bigger new symbol → IsWhole more code new
      IsWhole-added new f pair = record {
        fits = f;
        whole = λ s u e.
            let p : look_up more new u ≡ cond (bytes_eq u t) (Some symbol) (look_up more bigger u) =
            pair u ∙ ap (λ v. cond (bytes_eq u v) (Some symbol) (look_up more bigger u)) text_of-added in
            p ∙ (elim (adds.only s u e) as (λ _. cond (bytes_eq u t) (Some symbol) (look_up more bigger u) ≡ Some s) [
              | inl was ↦
                  (let w = ix.whole s u was in
                  let by : (b : Bool) → bytes_eq u t ≡ b → cond b (Some symbol) (look_up more bigger u) ≡ Some s =
                  elim [
                    | true ↦ λ q. absurd (let z = (bytes_eq-Decides u t).0 q in
                        let y : None ≡ Some s = sym absent ∙ ap (look_up old slots) (sym z) ∙ w in cc)
                    | false ↦ λ q. look_up-kept old more bigger kept u ∙ same u ∙ w
                  ] in
                  by (bytes_eq u t) refl)
              | inr h ↦
                  (let a : Some u ≡ Some t = sym e ∙ ap more h ∙ adds.added in let b : u ≡ t = cc in
                  ap (λ b. cond b (Some symbol) (look_up more bigger u)) ((bytes_eq-Decides u t).1 b) ∙ ap Some (sym h))
            ]);
      }

-- where no entry has a text, nothing is found under it
pub look_up-none : {S : Type 0} (entry : S → Option Text) (slots : List (Option S)) (t : Text) → IsNewText entry t → look_up entry slots t ≡ None
look_up-none {S = S} entry slots t none =
    let by : (o : Option S) → look_up entry slots t ≡ o → o ≡ None = elim [ None ↦ λ e. refl | Some s ↦ λ e. absurd (none s (look_up-text entry slots t s e)) ] in
    by (look_up entry slots t) refl

-- what a look-up found, where the slots hold each entry
pub found-entry : {S : Type 0} (entry : S → Option Text) (code : Text → ℕ) (slots : List (Option S)) (t : Text) (found : Option S) → IsWhole entry code slots → found ≡ look_up entry slots t
    → FindsEntry entry t found
found-entry entry code slots t (Some s) whole e = look_up-text entry slots t s (sym e)
found-entry entry code slots t None whole e = λ s is. let n : None ≡ Some s = e ∙ whole.whole s t is in cc

module _ {S : Type 0} (numbering : Numbering S)
    (numbered : (i : ℕ) (s : S) → numbering.symbol_of i ≡ Some s → (numbering.number s ≡ i) × (i < 2 ^ 64))
    (grows : (texts : List Text) (text : Text) → numbering.place texts < numbering.place (texts ++ text ∷ []))
    (code : Text → ℕ) (texts : List Text) (slots : List (Option S))
    (valid : IsValidList numbering.symbol_of numbering.place texts) (whole : IsWhole (entry_text numbering texts) code slots) where
  -- a text that is found is known
  found_known : (t : Text) (s : S) → look_up (entry_text numbering texts) slots t ≡ Some s → first texts t ≡ None → ⊥
  found_known t s e new =
      let r = entry_text-is numbering texts s t (look_up-text (entry_text numbering texts) slots t s e) in
      first_none texts t new r.0 [] r.1.within (get_or_from_slice_get texts r.0 t [] r.2)

  -- a known text is found under the symbol of its first entry
  known_found : (t : Text) (i : ℕ) → first texts t ≡ Some i → look_up (entry_text numbering texts) slots t ≡ entry_symbol numbering texts i
  known_found t i e =
      let l = first_within texts t i e in
      let by : (o : Option S) → entry_symbol numbering texts i ≡ o → IsSome o → look_up (entry_text numbering texts) slots t ≡ entry_symbol numbering texts i =
      elim [
        | None ↦ λ q h. absurd (cc)
        | Some s ↦ λ q h. whole.whole s t
            (entry_text-at numbering grows texts s i l (numbered (numbering.place (take i texts)) s q).0 ∙ slice_get-get_or texts i [] l ∙ ap Some (text_at_first texts t i e)) ∙ sym q
      ] in
      by (entry_symbol numbering texts i) refl (valid.has_symbols i l)

  -- so what is found under a text is its known symbol
  pub look_up-known : (t : Text) → look_up (entry_text numbering texts) slots t ≡ known_symbol numbering texts t
  look_up-known t =
      let by : (o : Option ℕ) → first texts t ≡ o → look_up (entry_text numbering texts) slots t ≡ option_and_then (entry_symbol numbering texts) o =
      elim [
        | None ↦ λ e.
            (let none : (p : Option S) → look_up (entry_text numbering texts) slots t ≡ p → p ≡ None =
            elim [ None ↦ λ q. refl | Some s ↦ λ q. absurd (found_known t s q e) ] in
            none (look_up (entry_text numbering texts) slots t) refl)
        | Some i ↦ λ e. known_found t i e
      ] in
      by (first texts t) refl
