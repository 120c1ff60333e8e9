-- Texts that are joined and cut at their ends: where each begins and ends, and what one more or fewer text does.
use Rattle.std.proofs.Common.{add-one, suc, zero, ◌≡◌, ℕ, ◌+◌, ◌-◌, ◌<◌, ◌≤◌, ◌^◌, List, [], ◌∷◌, ◌++◌, length, take, drop, refl, sym, ap, ◌∙◌, arith, All, Option, Some, IsSome, get_or}
use Rattle.std.specs.Prelude.{slice_get, slice_range}
use Rattle.std.specs.Str.{IsUtf8, IsCharBoundary}
use Rattle.std.proofs.lemmas.Grind.{common_steps}
use Rattle.std.proofs.lemmas.List.{append_assoc, length-take-le, length-append, take_at, drop_at, length_push, take-append-drop, take_more, drop_more}
use Rattle.std.proofs.lemmas.Option.{slice_get-get_or}
use Rattle.std.proofs.lemmas.List.Elements.{All-push, All-head, All-tail, All-take, All-drop}
use Rattle.std.proofs.lemmas.Str.{IsUtf8-append, IsUtf8-nil, IsCharBoundary-at_seam}
use Rattle.string_interner.specs.Text.{Text}
use Rattle.string_interner.specs.Backend.{IsValidList, IsPlace}
use Rattle.string_interner.proofs.Lemmas.Backend.IsValidList.{valid-take, valid-more}
use Rattle.string_interner.specs.StringBackend.{cut, joined, ends_of, start_at, IsCut, IsJoined}
use Rattle.string_interner.specs.ByIndexLaws.{length_grows}

-- texts that are joined and cut again are the texts
pub cut-joined : (from : ℕ) (texts : List Text) → cut from (joined texts) (ends_of from texts) ≡ texts
cut-joined from [] = refl
cut-joined from (t ∷ ts) =
    let n : (from + length t) - from ≡ length t = omega arith in
    rw (n, take_at t (joined ts) (length t) refl, drop_at t (joined ts) (length t) refl, cut-joined (from + length t) ts) refl

pub joined-append : (xs ys : List Text) → joined (xs ++ ys) ≡ joined xs ++ joined ys
joined-append [] ys = refl
joined-append (x ∷ xs) ys = rw (joined-append xs ys) (sym (append_assoc x (joined xs) (joined ys)))

pub joined-push : (xs : List Text) (t : Text) → joined (xs ++ t ∷ []) ≡ joined xs ++ t
joined-push [] t = grind (arith, common_steps)
joined-push (x ∷ xs) t = rw (joined-push xs t) (sym (append_assoc x (joined xs) t))

pub ends_of-push : (from : ℕ) (xs : List Text) (t : Text) → ends_of from (xs ++ t ∷ []) ≡ ends_of from xs ++ (from + length (joined xs) + length t) ∷ []
ends_of-push from [] t = grind (arith, common_steps)
ends_of-push from (x ∷ xs) t =
    let e : from + length x + length (joined xs) + length t ≡ from + length (x ++ joined xs) + length t = simp length-append (omega arith) in
    rw (ends_of-push (from + length x) xs t, e) refl

pub joined-IsUtf8 : (xs : List Text) → All IsUtf8 xs → IsUtf8 (joined xs)
joined-IsUtf8 [] u = IsUtf8-nil
joined-IsUtf8 (x ∷ xs) u = IsUtf8-append x (joined xs) (All-head IsUtf8 x xs u) (joined-IsUtf8 xs (All-tail IsUtf8 x xs u))

-- where the entry i ends
pub end_of : (from : ℕ) (xs : List Text) (i : ℕ) → i < length xs → get_or (ends_of from xs) i 0 ≡ from + length (joined (take i xs)) + length (get_or xs i [])
end_of from [] i h = absurd (omega arith)
end_of from (x ∷ xs) zero h = omega arith
end_of from (x ∷ xs) (suc i) h =
    let l : i < length xs = omega arith in
    rw (end_of (from + length x) xs i l, length-append x (joined (take i xs))) (omega arith)

-- where the entry i begins
pub start_of : (xs : List Text) (i : ℕ) → i ≤ length xs → start_at (ends_of 0 xs) i ≡ length (joined (take i xs))
start_of xs zero h = refl
start_of xs (suc i) h =
    let l : i < length xs = omega arith in
    let m = take_more xs i [] l in
    rw (end_of 0 xs i l, ← add-one, m, joined-push (take i xs) (get_or xs i []), length-append (joined (take i xs)) (get_or xs i [])) (omega arith)

-- a place between two texts is a boundary
pub seam : (xs : List Text) (i : ℕ) → All IsUtf8 xs → IsCharBoundary (joined xs) (length (joined (take i xs)))
seam xs i u = IsCharBoundary-at_seam (joined xs) (joined (take i xs)) (joined (drop i xs)) (ap joined (sym (take-append-drop i xs)) ∙ joined-append (take i xs) (drop i xs)) (joined-IsUtf8 (drop i xs) (All-drop IsUtf8 i xs u))

-- what stands before, in and after an entry
joined_split : (xs : List Text) (i : ℕ) → i < length xs → joined xs ≡ joined (take i xs) ++ (get_or xs i [] ++ joined (drop (i + 1) xs))
joined_split xs i h =
    let d : joined (drop i xs) ≡ get_or xs i [] ++ joined (drop (i + 1) xs) = ap joined (drop_more xs i [] h) in
    rw (← d, ← joined-append (take i xs) (drop i xs), take-append-drop i xs) refl

-- the text that ends at the end i is the entry i
pub part_at : (bytes ends : List ℕ) (xs : List Text) → IsCut bytes ends xs → (i : ℕ) → i < length xs → slice_get xs i ≡ Some (slice_range bytes (start_at ends i) (get_or ends i 0))
part_at bytes ends xs k i h =
    let e : get_or (ends_of 0 xs) i 0 - length (joined (take i xs)) ≡ length (get_or xs i []) = omega (arith, end_of 0 xs i h) in
    rw (slice_get-get_or xs i [] h, k.bytes_are, k.ends_are, start_of xs i (omega arith), e) (rw (joined_split xs i h, drop_at (joined (take i xs)) (get_or xs i [] ++ joined (drop (i + 1) xs)) (length (joined (take i xs))) refl, take_at (get_or xs i []) (joined (drop (i + 1) xs)) (length (get_or xs i [])) refl) refl)

pub start_boundary : (bytes ends : List ℕ) (xs : List Text) → IsCut bytes ends xs → (i : ℕ) → i ≤ length xs → IsCharBoundary bytes (start_at ends i)
start_boundary bytes ends xs k i h = rw (k.bytes_are, k.ends_are, start_of xs i h) (seam xs i k.utf8)

pub cut-more : (bytes ends : List ℕ) (xs : List Text) (t : Text) → IsCut bytes ends xs → IsUtf8 t → IsCut (bytes ++ t) (ends ++ (length bytes + length t) ∷ []) (xs ++ t ∷ [])
cut-more bytes ends xs t k u = record {
  bytes_are = rw (k.bytes_are, joined-push xs t) refl;
  ends_are = rw (k.ends_are, k.bytes_are, ends_of-push 0 xs t) (ap (λ n. ends_of 0 xs ++ (n + length t) ∷ []) (omega arith));
  utf8 = All-push IsUtf8 xs t k.utf8 u;
}

-- the texts are those that the bytes and the ends give
pub cut-IsCut : (bytes ends : List ℕ) (xs : List Text) → IsCut bytes ends xs → cut 0 bytes ends ≡ xs
cut-IsCut bytes ends xs k = rw (k.bytes_are, k.ends_are) (cut-joined 0 xs)

pub start_le_end : (bytes ends : List ℕ) (xs : List Text) → IsCut bytes ends xs → (i : ℕ) → i < length xs → start_at ends i ≤ get_or ends i 0
start_le_end bytes ends xs k i h = rw (k.ends_are, start_of xs i (omega arith), end_of 0 xs i h) (omega arith)

pub cut_length : (from : ℕ) (bytes ends : List ℕ) → length (cut from bytes ends) ≡ length ends
cut_length from bytes [] = refl
cut_length from bytes (e ∷ es) = ap (λ n. suc n) (cut_length e (drop (e - from) bytes) es)

-- of a backend that numbers its texts from 0 on
pub place_within : (texts : List Text) (at : ℕ) → IsPlace length texts at → at < length texts
place_within texts at p = let l : p.0 ≤ length texts = omega (arith, p.1.within) in omega (arith, length-take-le p.0 texts l, p.1.begins, p.1.within)

pub symbol_at : {S : Type 0} (symbol_of : ℕ → Option S) (texts : List Text) (at : ℕ) → IsValidList symbol_of length texts → at < length texts → IsSome (symbol_of at)
symbol_at symbol_of texts at k h = let l : at ≤ length texts = omega arith in rw length-take-le at (k.has_symbols at h)

-- one more text is stored
pub stored-more : {S : Type 0} (symbol_of : ℕ → Option S) (bytes ends more_bytes more_ends : List ℕ) (t : Text) → IsJoined symbol_of bytes ends (cut 0 bytes ends) → IsUtf8 t → IsSome (symbol_of (length (cut 0 bytes ends))) → length more_ends < 2 ^ 64 → more_bytes ≡ bytes ++ t → more_ends ≡ ends ++ length more_bytes ∷ [] →
    (cut 0 more_bytes more_ends ≡ cut 0 bytes ends ++ t ∷ []) × IsJoined symbol_of more_bytes more_ends (cut 0 more_bytes more_ends)
stored-more symbol_of bytes ends more_bytes more_ends t k u s small eb ee =
    let xs = cut 0 bytes ends in
    let n : length more_bytes ≡ length bytes + length t = rw eb (length-append bytes t) in
    let m : IsCut more_bytes more_ends (xs ++ t ∷ []) = rw (ee, n, eb) (cut-more bytes ends xs t k.parts u) in
    let e : length more_ends ≡ length ends + 1 = rw ee (length_push ends (length more_bytes)) in
    let fits : length (xs ++ t ∷ []) < 2 ^ 64 = omega (arith, length_push xs t, cut_length 0 bytes ends) in
    let is = cut-IsCut more_bytes more_ends (xs ++ t ∷ []) m in
    (is, rw is (record { parts = m; valid = valid-more symbol_of length xs t k.valid u s fits }))

take-ends_of : (from len : ℕ) (xs : List Text) → take len (ends_of from xs) ≡ ends_of from (take len xs)
take-ends_of from zero xs = refl
take-ends_of from (suc len) [] = refl
take-ends_of from (suc len) (x ∷ xs) = ap (λ ends. (from + length x) ∷ ends) (take-ends_of (from + length x) len xs)

-- the first texts are those of the bytes up to the end of the last of them
cut-take : (bytes ends : List ℕ) (xs : List Text) (len : ℕ) → IsCut bytes ends xs → len ≤ length xs → IsCut (take (start_at ends len) bytes) (take len ends) (take len xs)
cut-take bytes ends xs len k h = record {
  bytes_are =
      (let split : joined xs ≡ joined (take len xs) ++ joined (drop len xs) = ap joined (sym (take-append-drop len xs)) ∙ joined-append (take len xs) (drop len xs) in
      rw (k.bytes_are, k.ends_are, start_of xs len h, split) (take_at (joined (take len xs)) (joined (drop len xs)) (length (joined (take len xs))) refl));
  ends_are = rw k.ends_are (take-ends_of 0 len xs);
  utf8 = All-take IsUtf8 len xs k.utf8;
}

-- the first texts stay stored
pub stored-take : {S : Type 0} (symbol_of : ℕ → Option S) (bytes ends fewer_bytes fewer_ends : List ℕ) (len : ℕ) → IsJoined symbol_of bytes ends (cut 0 bytes ends) → len ≤ length ends → fewer_bytes ≡ take (start_at ends len) bytes → fewer_ends ≡ take len ends →
    (cut 0 fewer_bytes fewer_ends ≡ take len (cut 0 bytes ends)) × IsJoined symbol_of fewer_bytes fewer_ends (cut 0 fewer_bytes fewer_ends)
stored-take symbol_of bytes ends fewer_bytes fewer_ends len k h eb ee =
    let xs = cut 0 bytes ends in
    let m : IsCut fewer_bytes fewer_ends (take len xs) = rw (eb, ee) (cut-take bytes ends xs len k.parts (omega (arith, cut_length 0 bytes ends))) in
    let is = cut-IsCut fewer_bytes fewer_ends (take len xs) m in
    (is, rw is (record { parts = m; valid = valid-take symbol_of length length_grows len xs k.valid }))
