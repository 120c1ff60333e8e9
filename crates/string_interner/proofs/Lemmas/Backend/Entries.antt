-- What a walk over the entries of a list yields, and where it ends.
use Rattle.std.proofs.Common.{ℕ, Bor, None, Bool, true, false, ◌≡◌, ◌<◌, ◌+◌, List, [], ◌∷◌, ◌++◌, length, take, drop, Option, Some, map, refl, sym, ap, ◌∙◌}
use Rattle.std.specs.Prelude.{slice_get, is_some, not}
use Rattle.std.specs.Iterator.{YieldsFirstBy}
use Rattle.string_interner.specs.Text.{texts_eq, Text}
use Rattle.std.proofs.lemmas.List.{take_more, drop_more}
use Rattle.std.proofs.lemmas.Option.{get_or_from_slice_get}
use Rattle.string_interner.specs.Iter.{IterState, entries}
use Rattle.string_interner.specs.Numbering.{Numbering}

-- the first of what is left, from the index i on
pub entries-drop : {S : Type 0} (numbering : Numbering S) (texts : List Text) (i j : ℕ) (s : S) (t : Text) → i < length texts → j ≡ i + 1 → numbering.symbol_of (numbering.place (take i texts)) ≡ Some s → slice_get texts i ≡ Some t
    → entries numbering (take i texts) (drop i texts) ≡ (Some s, t) ∷ entries numbering (take j texts) (drop j texts)
entries-drop numbering texts i j s t h ej es et =
    rw (ej, drop_more texts i t h, get_or_from_slice_get texts i t t et, es, take_more texts i t h, get_or_from_slice_get texts i t t et) refl

map-entries : {S : Type 0} (numbering : Numbering S) (front texts : List Text) → map (λ (e : Option S × Text). e.1) (entries numbering front texts) ≡ texts
map-entries numbering front [] = refl
map-entries numbering front (t ∷ ts) = ap (λ xs. t ∷ xs) (map-entries numbering (front ++ t ∷ []) ts)

-- what an iterator yields is the first text that is to come
pub first_entry : {S : Type 0} (numbering : Numbering S) (front texts front' texts' : List Text) (s : Option S) (t : Text) → entries numbering front texts ≡ (s, t) ∷ entries numbering front' texts' → texts ≡ t ∷ texts'
first_entry {S = S} numbering front texts front' texts' s t e = sym (map-entries numbering front texts) ∙ (ap (map (λ (e : Option S × Text). e.1)) e ∙ ap (λ xs. t ∷ xs) (map-entries numbering front' texts'))

pub no_entry : {S : Type 0} (numbering : Numbering S) (front texts : List Text) → entries numbering front texts ≡ [] → texts ≡ []
no_entry {S = S} numbering front texts e = sym (map-entries numbering front texts) ∙ ap (map (λ (e : Option S × Text). e.1)) e

-- nothing is to come exactly where no entry is
pub no_more : {S : Type 0} (numbering : Numbering S) (s t : IterState) (r : Option (S × Bor Text)) (b : Bool) → YieldsFirstBy (λ (x : S × Bor Text). (Some x.0, x.1.now)) (λ (s : IterState). entries numbering s.behind s.ahead) s r t → is_some r ≡ not b → b ≡ texts_eq [] s.ahead
no_more numbering s t None true y e = rw (no_entry numbering s.behind s.ahead y.0) refl
no_more numbering s t None false y e = cc
no_more numbering s t (Some x) true y e = cc
no_more numbering s t (Some x) false y e = rw (first_entry numbering s.behind s.ahead t.behind t.ahead (Some x.0) x.1.now y) refl
