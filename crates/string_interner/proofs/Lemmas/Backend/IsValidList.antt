-- What a backend keeps to holds of one more text.
-- The first texts of a list keep to what the list keeps to.
use Rattle.std.proofs.Common.{ℕ, ◌<◌, ◌≤◌, ◌^◌, List, [], ◌∷◌, ◌++◌, length, take, arith, Option, IsSome, below_more, drop, sym, ◌∙◌, subst}
use Rattle.std.specs.Str.{IsUtf8}
use Rattle.std.proofs.lemmas.List.{length_push, take-append-le, take_all, length-append, get_or_append_left, take-append-drop}
use Rattle.std.proofs.lemmas.List.Elements.{All-push}
use Rattle.string_interner.specs.Text.{Text, IsDistinct}
use Rattle.string_interner.specs.Backend.{IsValidList}
use Rattle.string_interner.specs.EntryLaws.{places_grow}

-- one more text is kept
pub valid-more : {S : Type 0} (symbol_of : ℕ → Option S) (place : List Text → ℕ) (xs : List Text) (t : Text) → IsValidList symbol_of place xs → IsUtf8 t → IsSome (symbol_of (place xs)) → place (xs ++ t ∷ []) < 2 ^ 64 → IsValidList symbol_of place (xs ++ t ∷ [])
valid-more symbol_of place xs t k u s fits = record {
  utf8 = All-push IsUtf8 xs t k.utf8 u;
  has_symbols = λ i h. below_more (λ i. IsSome (symbol_of (place (take i (xs ++ t ∷ []))))) (length xs)
      (λ i h. let l : i ≤ length xs = omega arith in rw (take-append-le i xs (t ∷ []) l) (k.has_symbols i h))
      (rw (take-append-le (length xs) xs (t ∷ []) (omega arith), take_all (length xs) xs (omega arith)) s)
      i (omega (arith, length_push xs t));
  fits = fits;
}

-- no text stands there twice
pub distinct-front : (xs ys : List Text) → IsDistinct (xs ++ ys) → IsDistinct xs
distinct-front xs ys d i j x l m = λ e. d i j x l (let a = length-append xs ys in omega arith)
    (get_or_append_left xs ys x i (omega arith) ∙ e ∙ sym (get_or_append_left xs ys x j m))

pub distinct-take : (len : ℕ) (xs : List Text) → IsDistinct xs → IsDistinct (take len xs)
distinct-take len xs d = distinct-front (take len xs) (drop len xs) (subst IsDistinct (sym (take-append-drop len xs)) d)

module _ {S : Type 0} (symbol_of : ℕ → Option S) (place : List Text → ℕ) (grows : (texts : List Text) (text : Text) → place texts < place (texts ++ text ∷ [])) where
  -- a backend may keep them
  pub valid-front : (xs ys : List Text) → IsValidList symbol_of place (xs ++ ys) → IsValidList symbol_of place xs
  valid-front xs ys k = record {
    utf8 = λ i d h. subst IsUtf8 (get_or_append_left xs ys d i h) (k.utf8 i d (omega (arith, length-append xs ys)));
    has_symbols = λ i h. let l : i ≤ length xs = omega arith in subst (λ front. IsSome (symbol_of (place front))) (take-append-le i xs ys l) (k.has_symbols i (omega (arith, length-append xs ys)));
    fits = omega (arith, k.fits, places_grow place grows xs ys);
  }

  pub valid-take : (len : ℕ) (xs : List Text) → IsValidList symbol_of place xs → IsValidList symbol_of place (take len xs)
  valid-take len xs k = valid-front (take len xs) (drop len xs) (subst (IsValidList symbol_of place) (sym (take-append-drop len xs)) k)
