-- Two lists are equal exactly where what they lie in is.
-- Lists of texts that are compared index by index.
use Rattle.std.proofs.Common.{ℕ, ◌≡◌, ◌∙◌, List, refl, sym, ap, Bool, true, false, ◌+◌, ◌<◌, [], length, take, drop, ◌++◌, Some, arith}
use Rattle.std.specs.Prelude.{◌&&◌, slice_get, not}
use Rattle.std.specs.Bool.{Decides}
use Rattle.std.specs.Str.{bytes_eq}
use Rattle.std.proofs.lemmas.Slice.Eq.{bytes_eq-Decides, slice_eq-Decides}
use Rattle.string_interner.specs.Text.{Text, texts_eq}
use Rattle.string_interner.specs.StringBackend.{cut, joined, ends_of, IsCut}
use Rattle.std.proofs.lemmas.Bool.{not-true, not-false}
use Rattle.std.proofs.lemmas.List.{take_all, take_more_same, take_at, drop_at}
use Rattle.std.proofs.lemmas.Option.{get_or_from_slice_get}

pub texts_eq-Decides : (xs ys : List Text) → Decides (texts_eq xs ys) (xs ≡ ys)
texts_eq-Decides xs ys = slice_eq-Decides bytes_eq-Decides xs ys (texts_eq xs ys) refl

both : (a b : Bool) → (a && b) ≡ true → (a ≡ true) × (b ≡ true)
both true true h = (refl, refl)
both true false h = (refl, h)
both false b h = (h, (cc))

pub same_tests : (a b : Bool) → (a ≡ true → b ≡ true) → (b ≡ true → a ≡ true) → a ≡ b
same_tests true b f g = sym (f refl)
same_tests false true f g = g refl
same_tests false false f g = refl

-- the bytes and the ends are the same exactly where the texts are
pub cut_eq : (b c d e : List ℕ) → IsCut b d (cut 0 b d) → IsCut c e (cut 0 c e) → (bytes_eq b c && bytes_eq d e) ≡ texts_eq (cut 0 b d) (cut 0 c e)
cut_eq b c d e k l = same_tests (bytes_eq b c && bytes_eq d e) (texts_eq (cut 0 b d) (cut 0 c e))
    (λ h. let t = both (bytes_eq b c) (bytes_eq d e) h in (texts_eq-Decides (cut 0 b d) (cut 0 c e)).1 (rw ((bytes_eq-Decides b c).0 t.0, (bytes_eq-Decides d e).0 t.1) refl))
    (λ h. let s = (texts_eq-Decides (cut 0 b d) (cut 0 c e)).0 h in
    let f : b ≡ c = k.bytes_are ∙ (ap joined s ∙ sym l.bytes_are) in
    let g : d ≡ e = k.ends_are ∙ (ap (ends_of 0) s ∙ sym l.ends_are) in
    rw ((bytes_eq-Decides b c).1 f, (bytes_eq-Decides d e).1 g) refl)

-- lists that are divided at the same length are equal exactly where both parts are
pub bytes_eq-append : (a b c d : List ℕ) → length a ≡ length c → (bytes_eq a c && bytes_eq b d) ≡ bytes_eq (a ++ b) (c ++ d)
bytes_eq-append a b c d n = same_tests (bytes_eq a c && bytes_eq b d) (bytes_eq (a ++ b) (c ++ d))
    (λ h. let t = both (bytes_eq a c) (bytes_eq b d) h in (bytes_eq-Decides (a ++ b) (c ++ d)).1 (rw ((bytes_eq-Decides a c).0 t.0, (bytes_eq-Decides b d).0 t.1) refl))
    (λ h. let s = (bytes_eq-Decides (a ++ b) (c ++ d)).0 h in
    let f : a ≡ c = sym (take_at a b (length a) refl) ∙ (ap (λ (l : List ℕ). take (length a) l) s ∙ take_at c d (length a) (sym n)) in
    let g : b ≡ d = sym (drop_at a b (length a) refl) ∙ (ap (λ (l : List ℕ). drop (length a) l) s ∙ drop_at c d (length a) (sym n)) in
    rw ((bytes_eq-Decides a c).1 f, (bytes_eq-Decides b d).1 g) refl)

false_unless : (b : Bool) → (b ≡ true → false ≡ true) → false ≡ b
false_unless true h = h refl
false_unless false h = refl

-- lists of numbers that are the same up to their length
pub bytes_eq-same : (xs ys : List ℕ) (n : ℕ) → length xs ≡ n → length ys ≡ n → take n xs ≡ take n ys → true ≡ bytes_eq xs ys
bytes_eq-same xs ys n hx hy same = sym ((bytes_eq-Decides xs ys).1 (sym (take_all n xs (omega arith)) ∙ (same ∙ take_all n ys (omega arith))))

some_same : (x y : Text) → Some x ≡ Some y → x ≡ y
some_same x y e = cc

-- lists that differ at an index are not the same
pub texts_eq-differ : (xs ys : List Text) (i : ℕ) (x y : Text) → slice_get xs i ≡ Some x → slice_get ys i ≡ Some y → not (bytes_eq x y) ≡ true → false ≡ texts_eq xs ys
texts_eq-differ xs ys i x y ex ey differ = false_unless (texts_eq xs ys) (λ same.
    let e : Some x ≡ Some y = sym ex ∙ (ap (λ (zs : List Text). slice_get zs i) ((texts_eq-Decides xs ys).0 same) ∙ ey) in
    sym (not-true (bytes_eq x y) differ) ∙ (bytes_eq-Decides x y).1 (some_same x y e))

-- lists that are the same up to an index, and at it
pub take-same_more : (xs ys : List Text) (i : ℕ) (x y : Text) → slice_get xs i ≡ Some x → slice_get ys i ≡ Some y → not (bytes_eq x y) ≡ false → i < length xs → i < length ys → take i xs ≡ take i ys → take (i + 1) xs ≡ take (i + 1) ys
take-same_more xs ys i x y ex ey same hx hy before =
    take_more_same xs ys i [] hx hy before (get_or_from_slice_get xs i x [] ex ∙ ((bytes_eq-Decides x y).0 (not-false (bytes_eq x y) same) ∙ sym (get_or_from_slice_get ys i y [] ey)))

-- lists that are the same up to their length
pub texts_eq-same : (xs ys : List Text) (n : ℕ) → length xs ≡ n → length ys ≡ n → take n xs ≡ take n ys → true ≡ texts_eq xs ys
texts_eq-same xs ys n hx hy same =
    let e : xs ≡ ys = sym (take_all n xs (omega arith)) ∙ (same ∙ take_all n ys (omega arith)) in
    sym ((texts_eq-Decides xs ys).1 e)
