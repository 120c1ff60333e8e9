-- Writing a list element after element, and reading one.
use Rattle.std.proofs.Common.{◌≡◌, ℕ, ◌+◌, ◌<◌, List, [], ◌∷◌, ◌++◌, length, drop, get_or, map, refl, sym, ap, subst, ◌∙◌, arith, Bool, true, false, Some, None, Result, Ok, Err, IsSome}
use Rattle.std.specs.Prelude.{◌≢◌, MatchResult}
use Rattle.std.specs.Str.{bytes_eq}
use Rattle.std.proofs.Math.Seq.{take-append_seam, get_or-append_seam}
use Rattle.std.proofs.lemmas.Grind.{common_steps}
use Rattle.std.proofs.lemmas.List.{append_assoc, append-nil, map-append, length-append, get_or_append_left, drop_more}
use Rattle.std.proofs.lemmas.Slice.Eq.{bytes_eq-Decides}
use Rattle.serde_json.specs.Data.{Data, string, Items, item}
use Rattle.serde_json.specs.Find.{as_str}
use Rattle.serde_json.specs.View.{view, items_of, items_view}
use Rattle.serde_json.specs.declared.value.Value.{Value}
use Rattle.string_interner.specs.Text.{Text, IsDistinct, first}
use Rattle.string_interner.specs.Backend.{IsValidList}
use Rattle.string_interner.specs.Interner.{InternerContents, Interns}
use Rattle.string_interner.specs.Json.{json_of_texts, refused, ReadsElements, ReadsArray, GivesBack, ReadsBack}
use Rattle.string_interner.proofs.Lemmas.Texts.First.{first_new}
use Rattle.string_interner.specs.declared.backend.InternError.{InternError}
use Rattle.string_interner.specs.declared.backend.InternError.TheVariants.{NoSymbol as InternNoSymbol, Memory as InternMemory}
use Rattle.string_interner.specs.declared.json.JsonError.{JsonError}
use Rattle.string_interner.specs.Numbering.{Numbering}

-- in a loop that writes each of a list: what is written and what is ahead stay all
pub written_on : {X Y Z : Type 0} (f : X → Z) (g : Y → Z) (kept more : List X) (x : X) (y : Y) (ahead ahead' : List Y) (all : List Z)
    → map f kept ++ map g ahead ≡ all → ahead ≡ y ∷ ahead' → more ≡ kept ++ x ∷ [] → f x ≡ g y → map f more ++ map g ahead' ≡ all
written_on {X} {Y} {Z} f g kept more x y ahead ahead' all e s m same =
    rw (m, map-append f kept (x ∷ []), append_assoc, same) (ap (λ (zs : List Z). map f kept ++ zs) (sym (ap (map g) s)) ∙ e)

-- and once nothing is ahead, what is written is all
pub written_over : {X Y Z : Type 0} (f : X → Z) (g : Y → Z) (kept : List X) (ahead : List Y) (all : List Z)
    → map f kept ++ map g ahead ≡ all → ahead ≡ [] → map f kept ≡ all
written_over {X} {Y} {Z} f g kept ahead all e s = sym (append-nil (map f kept)) ∙ (ap (λ (zs : List Z). map f kept ++ zs) (sym (ap (map g) s)) ∙ e)

-- a text that no earlier one equals is new to those before it
pub new_text : (front : List Text) (text : Text) (texts : List Text) → IsDistinct (front ++ text ∷ texts) → first front text ≡ None
new_text front text texts distinct = first_new front text (λ k h.
    let other : get_or front k [] ≢ text =
    (let d = distinct k (length front) [] h (rw (length-append front (text ∷ texts)) (omega arith)) in
    rw (get_or_append_left front (text ∷ texts) [] k h, get_or-append_seam front text texts []) at d) in
    differs (bytes_eq (get_or front k []) text) (λ e. other ((bytes_eq-Decides (get_or front k []) text).0 e)))
  where
    differs : (b : Bool) → (b ≡ true → ⊥) → b ≡ false
    differs true h = absurd (h refl)
    differs false h = refl

-- the next of the elements that are left
pub next_element : (elements : List Value) (i : ℕ) (element : Value) → i < length elements → element ≡ get_or elements i element
    → items_view (drop i elements) ≡ item (view element) (items_view (drop (i + 1) elements))
next_element elements i element h is = ap items_view (drop_more elements i element h ∙ ap (λ v. v ∷ drop (i + 1) elements) (sym is))

module _ {S : Type 0} (numbering : Numbering S) where
  -- the next element is a string, and its text is refused
  pub reads_refused : (old : List Text) (i : ℕ) (element : Data) (rest all : Items) (outcome : Result InternerContents JsonError) → all ≡ item element rest
      → (text : Text) (error : InternError) (mid : List Text) → as_str element ≡ Some text → Interns numbering old text (Err error) mid
      → outcome ≡ Err (refused error) → ReadsElements numbering old i all outcome
  reads_refused old i element rest all outcome is text error mid is_text interns e = rw (is, is_text) (Err error, mid, interns, e)

  -- the next element is a string, and its text is interned
  pub reads_more : (old : List Text) (i : ℕ) (element : Data) (rest all : Items) (outcome : Result InternerContents JsonError) → all ≡ item element rest
      → (text : Text) (symbol : S) (mid : List Text) → as_str element ≡ Some text → Interns numbering old text (Ok symbol) mid
      → ReadsElements numbering mid (i + 1) rest outcome → ReadsElements numbering old i all outcome
  reads_more old i element rest all outcome is text symbol mid is_text interns more = rw (is, is_text) (Ok symbol, mid, interns, more)

  -- the place before a text of a kept list has a symbol
  has_symbol : (front : List Text) (text : Text) (texts : List Text) → IsValidList numbering.symbol_of numbering.place (front ++ text ∷ texts) → IsSome (numbering.symbol_of (numbering.place front))
  has_symbol front text texts kept =
      let s = kept.has_symbols (length front) (rw (length-append front (text ∷ texts)) (omega arith)) in
      rw (take-append_seam front (text ∷ texts)) at s

  -- where the next text is new and has a symbol, it is put last, or memory was refused
  gives_next : (old : List Text) (text : Text) (all : List Text) (outcome : Result InternerContents JsonError) (interned : Result S InternError) (mid : List Text) (More : List Text → Type 0)
      → first old text ≡ None → IsSome (numbering.symbol_of (numbering.place old)) → Interns numbering old text interned mid
      → MatchResult interned (λ _. More mid) (λ error. outcome ≡ Err (refused error)) → (More (old ++ text ∷ []) → GivesBack all outcome) → GivesBack all outcome
  gives_next old text all outcome (Ok symbol) mid More new has interns more on = let put = rw new at interns in on (subst More put.1 more)
  gives_next old text all outcome (Err InternNoSymbol) mid More new has interns more on = let put = rw new at interns in let none = put.0 in absurd (grind (arith, common_steps, none, has))
  gives_next old text all outcome (Err (InternMemory error)) mid More new has interns more on = rw more tt

  -- reading on from the front of a list of distinct texts gives the list back
  gives_rest : (front texts : List Text) (i : ℕ) (outcome : Result InternerContents JsonError) → IsDistinct (front ++ texts) → IsValidList numbering.symbol_of numbering.place (front ++ texts)
      → ReadsElements numbering front i (items_of (map string texts)) outcome → GivesBack (front ++ texts) outcome
  gives_rest front [] i (Ok interner) distinct kept read = read ∙ sym (append-nil front)
  gives_rest front [] i (Err error) distinct kept read = absurd read
  gives_rest front (text ∷ texts) i outcome distinct kept read =
      let seam : (front ++ text ∷ []) ++ texts ≡ front ++ text ∷ texts = append_assoc front (text ∷ []) texts in
      gives_next front text (front ++ text ∷ texts) outcome read.0 read.1 (λ mid. ReadsElements numbering mid (i + 1) (items_of (map string texts)) outcome)
      (new_text front text texts distinct) (has_symbol front text texts kept) read.2 read.3
      (λ more. subst (λ all. GivesBack all outcome) seam
      (gives_rest (front ++ text ∷ []) texts (i + 1) outcome (subst IsDistinct (sym seam) distinct) (subst (IsValidList numbering.symbol_of numbering.place) (sym seam) kept) more))

  -- so does reading its JSON form
  pub gives_back : (value : Data) (outcome : Result InternerContents JsonError) → ReadsArray numbering value outcome
      → (texts : List Text) → IsDistinct texts → IsValidList numbering.symbol_of numbering.place texts → value ≡ json_of_texts texts → GivesBack texts outcome
  gives_back value outcome reads texts distinct kept is = let read = rw is at reads in gives_rest [] texts 0 outcome distinct kept read

  pub reads_back : (value : Data) (outcome : Result InternerContents JsonError) → ReadsArray numbering value outcome → ReadsBack numbering value outcome
  reads_back value outcome reads texts are is = gives_back value outcome reads texts are.distinct are.valid is
