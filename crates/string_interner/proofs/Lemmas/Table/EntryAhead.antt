-- The entry that the iteration over a backend comes to.
use Rattle.std.proofs.Common.{◌≡◌, ℕ, ◌<◌, List, [], ◌∷◌, ◌++◌, Option, Some, length, take, refl, sym, ap, ◌∙◌, arith}
use Rattle.std.specs.Prelude.{◌^◌, slice_get}
use Rattle.std.proofs.lemmas.List.{length-append, take-append-le, take_all}
use Rattle.string_interner.specs.Text.{Text}
use Rattle.string_interner.specs.Iter.{entries}
use Rattle.string_interner.specs.Entry.{entry_text}
use Rattle.string_interner.specs.EntryLaws.{entry_text-at}
use Rattle.string_interner.specs.Numbering.{Numbering}
use Rattle.string_interner.proofs.Lemmas.Index.Refills.{IsPlaced}

slice_get-middle : {X : Type 0} (xs : List X) (y : X) (ys : List X) → slice_get (xs ++ y ∷ ys) (length xs) ≡ Some y
slice_get-middle [] y ys = refl
slice_get-middle (x ∷ xs) y ys = slice_get-middle xs y ys

module _ {S : Type 0} (numbering : Numbering S)
    (numbered : (i : ℕ) (s : S) → numbering.symbol_of i ≡ Some s → (numbering.number s ≡ i) × (i < 2 ^ 64))
    (grows : (texts : List Text) (text : Text) → numbering.place texts < numbering.place (texts ++ text ∷ []))
    (code : Text → ℕ) (texts behind ahead behind' ahead' : List Text) (slots : List (Option S)) (s : S) (t : Text) where
  at_front : (done todo : List Text) → texts ≡ done ++ todo → entries numbering done todo ≡ (Some s, t) ∷ entries numbering behind' ahead'
      → entry_text numbering texts s ≡ Some t
  at_front done [] all e = absurd (cc)
  at_front done (u ∷ us) all e =
      let head : ◌≡◌ {A = Option S × Text} (numbering.symbol_of (numbering.place done), u) (Some s, t) = cc in
      let n : numbering.number s ≡ numbering.place done = (numbered (numbering.place done) s (ap (λ p. p.0) head)).0 in
      let long = ap length all ∙ length-append done (u ∷ us) in
      let front : take (length done) texts ≡ done = ap (take (length done)) all ∙ take-append-le (length done) done (u ∷ us) (omega arith) ∙ take_all (length done) done (omega arith) in
      entry_text-at numbering grows texts s (length done) (omega arith) (n ∙ sym (ap numbering.place front))
      ∙ ap (λ xs. slice_get xs (length done)) all ∙ slice_get-middle done u us ∙ ap Some (ap (λ p. p.1) head)

  -- the text that the iteration comes to is that of its symbol's entry
  pub entry-ahead : IsPlaced numbering code texts behind ahead slots → entries numbering behind ahead ≡ (Some s, t) ∷ entries numbering behind' ahead'
      → entry_text numbering texts s ≡ Some t
  entry-ahead p e = at_front p.done p.todo p.all (sym p.same ∙ e)
