-- A buffer and the texts that it spells: they are fixed by its bytes, and one more goes to the end.
use Rattle.std.proofs.Common.{◌≡◌, ℕ, zero, suc, ◌+◌, ◌<◌, ◌≤◌, ◌^◌, List, [], ◌∷◌, ◌++◌, length, take, drop, Option, IsSome, refl, sym, ap, ◌∙◌, append_assoc, arith}
use Rattle.std.specs.Str.{IsUtf8, bytes_eq}
use Rattle.std.proofs.lemmas.List.{take_at, drop_at, length-append, append-nil, length_push, length-take-le, take-append-drop}
use Rattle.std.proofs.lemmas.List.Concat.{flat_map-append, flat_map-cons}
use Rattle.std.proofs.lemmas.List.Sums.{sum_by-cons}
use Rattle.std.proofs.lemmas.Slice.Eq.{bytes_eq-Decides}
use Rattle.string_interner.specs.Text.{Text, texts_eq}
use Rattle.string_interner.specs.Spelling.{spell, digits, front_len, front_value, after_front}
use Rattle.string_interner.specs.BufferBackend.{entry_of, bytes_of, entry_len, place_of, front_texts, IsSpelled}
use Rattle.string_interner.specs.BufferLaws.{length-spell, spell-IsChain, value-spell, front_len-chain, front_value-chain, after_front-chain, entry_len-positive, length-bytes_of, place_grows}
use Rattle.string_interner.proofs.Lemmas.Backend.IsValidList.{valid-take, valid-more}
use Rattle.string_interner.proofs.Lemmas.Texts.Equal.{texts_eq-Decides, same_tests}

-- what stands at the front of an entry
pub record IsEntryFront (bytes : List ℕ) (t x : List ℕ) : Type 0 where
  pub len : front_len bytes ≡ digits (length t)
  pub number : front_value bytes ≡ length t
  pub after : after_front bytes ≡ t ++ x
  pub whole : length bytes ≡ entry_len t + length x

pub entry_front : (t x : List ℕ) → IsEntryFront (entry_of t ++ x) t x
entry_front t x =
    let e : entry_of t ++ x ≡ spell (length t) ++ (t ++ x) = append_assoc (spell (length t)) t x in
    let chain = spell-IsChain (length t) in
    record {
      len = ap front_len e ∙ front_len-chain (spell (length t)) (t ++ x) chain ∙ length-spell (length t);
      number = ap front_value e ∙ front_value-chain (spell (length t)) (t ++ x) chain ∙ value-spell (length t);
      after = ap after_front e ∙ after_front-chain (spell (length t)) (t ++ x) chain;
      whole = omega (arith, length-append (entry_of t) x, length-append (spell (length t)) t, length-spell (length t));
    }

-- no entry begins another one
pub entry_of-apart : (t u x y : List ℕ) → entry_of t ++ x ≡ entry_of u ++ y → (t ≡ u) × (x ≡ y)
entry_of-apart t u x y e =
    let f = entry_front t x in
    let g = entry_front u y in
    let len : length t ≡ length u = sym f.number ∙ ap front_value e ∙ g.number in
    let after : t ++ x ≡ u ++ y = sym f.after ∙ ap after_front e ∙ g.after in (
      sym (take_at t x (length t) refl) ∙ ap (take (length t)) after ∙ take_at u y (length t) (sym len),
      sym (drop_at t x (length t) refl) ∙ ap (drop (length t)) after ∙ drop_at u y (length t) (sym len),
    )

bytes_of-some : (t : Text) (ts : List Text) → bytes_of (t ∷ ts) ≡ [] → ⊥
bytes_of-some t ts e =
    let none : length (entry_of t ++ bytes_of ts) ≡ 0 = ap length (sym (flat_map-cons entry_of t ts) ∙ e) in
    omega (arith, (entry_front t (bytes_of ts)).whole, entry_len-positive t)

-- the bytes fix the list
pub bytes_of-apart : (ls ms : List Text) → bytes_of ls ≡ bytes_of ms → ls ≡ ms
bytes_of-apart [] [] e = refl
bytes_of-apart [] (m ∷ ms) e = absurd (bytes_of-some m ms (sym e))
bytes_of-apart (l ∷ ls) [] e = absurd (bytes_of-some l ls e)
bytes_of-apart (l ∷ ls) (m ∷ ms) e =
    let p = entry_of-apart l m (bytes_of ls) (bytes_of ms) (sym (flat_map-cons entry_of l ls) ∙ e ∙ flat_map-cons entry_of m ms) in
    let first : l ≡ m = p.0 in
    let others : ls ≡ ms = bytes_of-apart ls ms p.1 in
    cc

-- the texts in the bytes of texts are the texts
pub front_texts-bytes_of : (texts : List Text) → front_texts (length texts) (bytes_of texts) ≡ texts
front_texts-bytes_of [] = refl
front_texts-bytes_of (t ∷ ts) =
    let f = entry_front t (bytes_of ts) in
    let c : bytes_of (t ∷ ts) ≡ entry_of t ++ bytes_of ts = flat_map-cons entry_of t ts in
    let number : front_value (bytes_of (t ∷ ts)) ≡ length t = ap front_value c ∙ f.number in
    let after : after_front (bytes_of (t ∷ ts)) ≡ t ++ bytes_of ts = ap after_front c ∙ f.after in
    rw (number, after, take_at t (bytes_of ts) (length t) refl, drop_at t (bytes_of ts) (length t) refl, front_texts-bytes_of ts) refl

pub length-front_texts : (count : ℕ) (buffer : List ℕ) → length (front_texts count buffer) ≡ count
length-front_texts zero buffer = refl
length-front_texts (suc count) buffer = ap suc (length-front_texts count (drop (front_value buffer) (after_front buffer)))

length-le-place_of : (texts : List Text) → length texts ≤ place_of texts
length-le-place_of [] = omega arith
length-le-place_of (t ∷ ts) = omega (arith, length-le-place_of ts, sum_by-cons entry_len t ts, entry_len-positive t)

-- each text takes a byte at least
pub count_below : {S : Type 0} (symbol_of : ℕ → Option S) (buffer : List ℕ) (count : ℕ) → IsSpelled symbol_of buffer (front_texts count buffer) → count ≤ length buffer
count_below symbol_of buffer count is =
    omega (arith, ap length is.bytes_are, length-bytes_of (front_texts count buffer), length-le-place_of (front_texts count buffer), length-front_texts count buffer)

bytes_of-push : (texts : List Text) (t : Text) → bytes_of (texts ++ t ∷ []) ≡ bytes_of texts ++ entry_of t
bytes_of-push texts t = flat_map-append entry_of texts (t ∷ []) ∙ ap (λ (b : List ℕ). bytes_of texts ++ b) (flat_map-cons entry_of t [] ∙ append-nil (entry_of t))

-- one more text is spelled
pub spelled-more : {S : Type 0} (symbol_of : ℕ → Option S) (buffer more_buffer : List ℕ) (count : ℕ) (t : Text) → IsSpelled symbol_of buffer (front_texts count buffer) → IsUtf8 t → IsSome (symbol_of (place_of (front_texts count buffer))) → length more_buffer < 2 ^ 64 → more_buffer ≡ (buffer ++ spell (length t)) ++ t →
    (front_texts (count + 1) more_buffer ≡ front_texts count buffer ++ t ∷ []) × IsSpelled symbol_of more_buffer (front_texts (count + 1) more_buffer)
spelled-more symbol_of buffer more_buffer count t is utf8 has small e =
    let texts : List Text = front_texts count buffer in
    let bytes_are : more_buffer ≡ bytes_of (texts ++ t ∷ []) = e ∙ append_assoc buffer (spell (length t)) t ∙ ap (λ (b : List ℕ). b ++ entry_of t) is.bytes_are ∙ sym (bytes_of-push texts t) in
    let n : count + 1 ≡ length (texts ++ t ∷ []) = omega (arith, length_push texts t, length-front_texts count buffer) in
    let texts_are : front_texts (count + 1) more_buffer ≡ texts ++ t ∷ [] = ap (λ (k : ℕ). front_texts k more_buffer) n ∙ ap (front_texts (length (texts ++ t ∷ []))) bytes_are ∙ front_texts-bytes_of (texts ++ t ∷ []) in
    let fits : place_of (texts ++ t ∷ []) < 2 ^ 64 = omega (arith, ap length bytes_are, length-bytes_of (texts ++ t ∷ [])) in
    (texts_are, rw texts_are (record { bytes_are = bytes_are; valid = valid-more symbol_of place_of texts t is.valid utf8 has fits }))

-- the first texts stay spelled
pub spelled-take : {S : Type 0} (symbol_of : ℕ → Option S) (buffer fewer_buffer : List ℕ) (count len : ℕ) → IsSpelled symbol_of buffer (front_texts count buffer) → len ≤ count → fewer_buffer ≡ take (place_of (take len (front_texts count buffer))) buffer →
    (front_texts len fewer_buffer ≡ take len (front_texts count buffer)) × IsSpelled symbol_of fewer_buffer (front_texts len fewer_buffer)
spelled-take symbol_of buffer fewer_buffer count len is h e =
    let texts : List Text = front_texts count buffer in
    let front = take len texts in
    let split : bytes_of texts ≡ bytes_of front ++ bytes_of (drop len texts) = ap bytes_of (sym (take-append-drop len texts)) ∙ flat_map-append entry_of front (drop len texts) in
    let bytes_are : fewer_buffer ≡ bytes_of front = e ∙ ap (take (place_of front)) (is.bytes_are ∙ split) ∙ take_at (bytes_of front) (bytes_of (drop len texts)) (place_of front) (length-bytes_of front) in
    let n : len ≡ length front = sym (length-take-le len texts (omega (arith, length-front_texts count buffer))) in
    let texts_are : front_texts len fewer_buffer ≡ front = ap (λ (k : ℕ). front_texts k fewer_buffer) n ∙ ap (front_texts (length front)) bytes_are ∙ front_texts-bytes_of front in
    (texts_are, rw texts_are (record { bytes_are = bytes_are; valid = valid-take symbol_of place_of place_grows len texts is.valid }))

-- the test of the bytes is the test of the lists
pub bytes_of-eq : (ls ms : List Text) → bytes_eq (bytes_of ls) (bytes_of ms) ≡ texts_eq ls ms
bytes_of-eq ls ms =
    let b = bytes_eq-Decides (bytes_of ls) (bytes_of ms) in
    let l = texts_eq-Decides ls ms in
    same_tests (bytes_eq (bytes_of ls) (bytes_of ms)) (texts_eq ls ms) (λ h. l.1 (bytes_of-apart ls ms (b.0 h))) (λ h. b.1 (ap bytes_of (l.0 h)))
