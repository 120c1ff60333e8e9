-- The laws of a backend whose places are 0, 1, 2, .. without gaps: the next place is the count of texts.
-- Cited by `StringBackend` and `BucketBackend`.
use Rattle.std.specs.Prelude.{◌≡◌, ℕ, ◌<◌, List, [], ◌∷◌, ◌++◌, length, take, slice_get, refl}
use Rattle.std.proofs.Common.{◌≤◌, arith}
use Rattle.std.proofs.lemmas.List.{length_push, length-take-le}
use Rattle.string_interner.specs.Text.{Text}

-- one more text has a greater count
pub length_grows : (texts : List Text) (text : Text) → length texts < length (texts ++ text ∷ [])
length_grows texts text = rw (length_push texts text) (omega arith)

-- reading at the count of texts before an entry gives that entry
pub reads_at_length : (texts : List Text) (i : ℕ) → i < length texts → slice_get texts (length (take i texts)) ≡ slice_get texts i
reads_at_length texts i h = let l : i ≤ length texts = omega arith in rw (length-take-le i texts l) refl
