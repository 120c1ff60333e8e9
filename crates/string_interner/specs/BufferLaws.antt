-- The laws of the byte buffer, with their proofs: each text raises the next place, and reading at the place of an entry
-- gives its text.
-- Cited by `BufferBackend` as the laws of its places. Nothing here is assumed: each line is proved.
use Rattle.std.proofs.Common.{◌≡◌, ℕ, zero, suc, ◌+◌, ◌*◌, ◌/◌, ◌%◌, ◌^◌, ◌<◌, ◌≤◌, List, [], ◌∷◌, ◌++◌, length, take, drop, get_or, Option, Some, true, refl, sym, ap, ◌∙◌, inl, inr, append_assoc, arith}
use Rattle.std.specs.Prelude.{slice_get, nat_le, nat_lt}
use Rattle.std.specs.Str.{IsUtf8, is_utf8}
use Rattle.std.proofs.lemmas.Bool.{cases_lt, lt-ltb, le-ltb, le-leb, lt-leb}
use Rattle.std.proofs.lemmas.Grind.{pow_more}
use Rattle.std.proofs.lemmas.List.{take_at, drop_at, take-append-drop, length-append, drop_more}
use Rattle.std.proofs.lemmas.List.Concat.{flat_map-append, flat_map-cons}
use Rattle.std.proofs.lemmas.List.Elements.{All-get_or}
use Rattle.std.proofs.lemmas.List.Sums.{sum_by-cons, sum_by_push, get_or-le-sum_by}
use Rattle.std.proofs.lemmas.Option.{slice_get-get_or}
use Rattle.std.proofs.lemmas.Str.{is_utf8-from_IsUtf8}
use Rattle.string_interner.specs.Text.{Text}
use Rattle.string_interner.specs.Backend.{IsValidList}
use Rattle.string_interner.specs.Spelling.{spell_within, spell, digits, IsLeastDigitCount, IsChain, value, front_len, front_value, after_front}
use Rattle.string_interner.specs.BufferBackend.{entry_of, bytes_of, entry_len, place_of, read_front, read_at}

-- Encoding a number.

within-small : (more n : ℕ) → n < 128 → spell_within more n ≡ n ∷ []
unfolding spell_within
within-small zero n small = refl
within-small (suc more) n small = rw (lt-ltb n 128 small) refl

within-large : (more n : ℕ) → 128 ≤ n → spell_within (suc more) n ≡ (128 + n % 128) ∷ spell_within more (n / 128)
unfolding spell_within
within-large more n large = rw (le-ltb n 128 large) refl

-- from the number itself on, any bound on the digits gives the same
within_any : (more other n : ℕ) → n ≤ more → n ≤ other → spell_within more n ≡ spell_within other n
within_any zero other n a b = within-small zero n (omega arith) ∙ sym (within-small other n (omega arith))
within_any (suc more) zero n a b = within-small (suc more) n (omega arith) ∙ sym (within-small zero n (omega arith))
within_any (suc more) (suc other) n a b =
    elim (cases_lt n 128) [
      | inl small ↦ within-small (suc more) n small ∙ sym (within-small (suc other) n small)
      | inr large ↦ within-large more n large ∙ ap (λ (later : List ℕ). (128 + n % 128) ∷ later) (within_any more other (n / 128) (omega arith) (omega arith)) ∙ sym (within-large other n large)
    ]

pub spell-small : (n : ℕ) → n < 128 → spell n ≡ n ∷ []
unfolding spell
spell-small n small = within-small n n small

pub spell-large : (n : ℕ) → 128 ≤ n → spell n ≡ (128 + n % 128) ∷ spell (n / 128)
unfolding spell
spell-large zero large = absurd (omega arith)
spell-large (suc m) large = within-large m (suc m) large ∙ ap (λ (later : List ℕ). (128 + suc m % 128) ∷ later) (within_any m (suc m / 128) (suc m / 128) (omega arith) (omega arith))

-- induction over the digits of a number
by_digits_within : (P : ℕ → Type 0) → ((n : ℕ) → n < 128 → P n) → ((n : ℕ) → 128 ≤ n → P (n / 128) → P n) → (more n : ℕ) → n ≤ more → P n
by_digits_within P small large zero n h = small n (omega arith)
by_digits_within P small large (suc more) n h =
    elim (cases_lt n 128) [
      | inl lt ↦ small n lt
      | inr ge ↦ large n ge (by_digits_within P small large more (n / 128) (omega arith))
    ]

pub by_digits : (P : ℕ → Type 0) → ((n : ℕ) → n < 128 → P n) → ((n : ℕ) → 128 ≤ n → P (n / 128) → P n) → (n : ℕ) → P n
by_digits P small large n = by_digits_within P small large n n (omega arith)

pub digits-small : (n : ℕ) → n < 128 → digits n ≡ 1
unfolding digits
digits-small n small = ap length (spell-small n small)

pub digits-large : (n : ℕ) → 128 ≤ n → digits n ≡ 1 + digits (n / 128)
unfolding digits
digits-large n large = let e : length (spell n) ≡ suc (length (spell (n / 128))) = ap length (spell-large n large) in omega arith

pub length-spell : (n : ℕ) → length (spell n) ≡ digits n
unfolding digits
length-spell n = refl

digits-positive : (n : ℕ) → 1 ≤ digits n
digits-positive = by_digits (λ n. 1 ≤ digits n) (λ n small. omega (arith, digits-small n small)) (λ n large _. omega (arith, digits-large n large))

digits-enough_large : (n : ℕ) → 128 ≤ n → n / 128 < 128 ^ digits (n / 128) → n < 128 ^ digits n
digits-enough_large n large h =
    let d : ℕ = digits (n / 128) in
    let e : digits n ≡ d + 1 = omega (arith, digits-large n large) in
    let p : 128 ^ (d + 1) ≡ 128 ^ d * 128 = pow_more 128 d in
    rw (e, p) (omega arith)

digits-least_large : (n : ℕ) → 128 ≤ n → ((k : ℕ) → 1 ≤ k → n / 128 < 128 ^ k → digits (n / 128) ≤ k) → (k : ℕ) → 1 ≤ k → n < 128 ^ k → digits n ≤ k
digits-least_large n large ih zero one h = absurd (omega arith)
digits-least_large n large ih (suc zero) one h = absurd (omega arith)
digits-least_large n large ih (suc (suc k)) one h =
    let p : 128 ^ (suc k + 1) ≡ 128 ^ suc k * 128 = pow_more 128 (suc k) in
    let q : 128 ^ suc (suc k) ≡ 128 ^ (suc k + 1) = ap (λ (i : ℕ). 128 ^ i) (let e : suc (suc k) ≡ suc k + 1 = omega arith in e) in
    let below : n / 128 < 128 ^ suc k = omega arith in
    omega (arith, digits-large n large, ih (suc k) (omega arith) below)

pub digits-least_count : (n : ℕ) → IsLeastDigitCount n (digits n)
digits-least_count n = record {
  positive = digits-positive n;
  enough = by_digits (λ n. n < 128 ^ digits n) (λ n small. rw (digits-small n small) (omega arith)) digits-enough_large n;
  least = by_digits (λ n. (k : ℕ) → 1 ≤ k → n < 128 ^ k → digits n ≤ k) (λ n small k one _. omega (arith, digits-small n small)) digits-least_large n;
}

pub digits-ten : (n : ℕ) → n < 2 ^ 64 → digits n ≤ 10
digits-ten n fits = (digits-least_count n).least 10 (omega arith) (omega arith)

pub IsChain-cons : (b : ℕ) (bytes : List ℕ) → 128 ≤ b → IsChain bytes → IsChain (b ∷ bytes)
IsChain-cons b [] marked chain = absurd chain
IsChain-cons b (c ∷ bytes) marked chain = (marked, chain)

pub spell-IsChain : (n : ℕ) → IsChain (spell n)
spell-IsChain = by_digits (λ n. IsChain (spell n)) (λ n small. rw (spell-small n small) small) (λ n large chain. rw (spell-large n large) (IsChain-cons (128 + n % 128) (spell (n / 128)) (omega arith) chain))

value-spell_large : (n : ℕ) → 128 ≤ n → value (spell (n / 128)) ≡ n / 128 → value (spell n) ≡ n
value-spell_large n large h = rw (spell-large n large, h) (omega arith)

-- the value of an encoded number is the number
pub value-spell : (n : ℕ) → value (spell n) ≡ n
value-spell = by_digits (λ n. value (spell n) ≡ n) (λ n small. rw (spell-small n small) (omega arith)) value-spell_large

-- Reading at the front.

pub front_len-small : (b : ℕ) (bytes : List ℕ) → b < 128 → front_len (b ∷ bytes) ≡ 1
front_len-small b bytes small = rw (lt-leb 128 b small) refl

pub front_len-large : (b : ℕ) (bytes : List ℕ) → 128 ≤ b → front_len (b ∷ bytes) ≡ suc (front_len bytes)
front_len-large b bytes large = rw (le-leb 128 b large) (omega arith)

pub front_len-chain : (chain x : List ℕ) → IsChain chain → front_len (chain ++ x) ≡ length chain
front_len-chain [] x is = absurd is
front_len-chain (b ∷ []) x is = front_len-small b x is
front_len-chain (b ∷ c ∷ bytes) x is = front_len-large b ((c ∷ bytes) ++ x) is.0 ∙ ap suc (front_len-chain (c ∷ bytes) x is.1)

pub front_value-chain : (chain x : List ℕ) → IsChain chain → front_value (chain ++ x) ≡ value chain
front_value-chain chain x is = ap value (take_at chain x (front_len (chain ++ x)) (sym (front_len-chain chain x is)))

pub after_front-chain : (chain x : List ℕ) → IsChain chain → after_front (chain ++ x) ≡ x
after_front-chain chain x is = drop_at chain x (front_len (chain ++ x)) (sym (front_len-chain chain x is))

-- a text behind a chain whose value is its length is read
pub read_front-chain : (chain t x : List ℕ) → IsChain chain → length chain ≤ 10 → value chain ≡ length t → length t < 2 ^ 64 → IsUtf8 t → read_front (chain ++ (t ++ x)) ≡ Some t
unfolding read_front
read_front-chain chain t x is short counts fits utf8 =
    let bytes : List ℕ = chain ++ (t ++ x) in
    let len : front_len bytes ≡ length chain = front_len-chain chain (t ++ x) is in
    let number : front_value bytes ≡ length t = front_value-chain chain (t ++ x) is ∙ counts in
    let after : after_front bytes ≡ t ++ x = after_front-chain chain (t ++ x) is in
    let text : take (front_value bytes) (after_front bytes) ≡ t = ap (λ (n : ℕ). take n (after_front bytes)) number ∙ ap (take (length t)) after ∙ take_at t x (length t) refl in
    let there : nat_le (front_len bytes) (length bytes) ≡ true = le-leb _ _ (omega (arith, len, length-append chain (t ++ x))) in
    let ten : nat_le (front_len bytes) 10 ≡ true = le-leb _ _ (omega (arith, len, short)) in
    let small : nat_lt (front_value bytes) (2 ^ 64) ≡ true = lt-ltb _ _ (omega (arith, number, fits)) in
    let whole : nat_le (front_value bytes) (length (after_front bytes)) ≡ true = le-leb _ _ (omega (arith, number, ap length after, length-append t x)) in
    let valid : is_utf8 (take (front_value bytes) (after_front bytes)) ≡ true = ap is_utf8 text ∙ is_utf8-from_IsUtf8 t utf8 in
    rw (there, ten, small, whole, valid) (ap Some text)

-- The entries.

pub read_front-entry : (t x : List ℕ) → length t < 2 ^ 64 → IsUtf8 t → read_front (entry_of t ++ x) ≡ Some t
read_front-entry t x fits utf8 =
    ap read_front (append_assoc (spell (length t)) t x)
    ∙ read_front-chain (spell (length t)) t x (spell-IsChain (length t)) (omega (arith, length-spell (length t), digits-ten (length t) fits)) (value-spell (length t)) fits utf8

pub entry_len-positive : (text : Text) → 0 < entry_len text
entry_len-positive text = omega (arith, digits-positive (length text))

pub place_grows : (texts : List Text) (text : Text) → place_of texts < place_of (texts ++ text ∷ [])
place_grows texts text = omega (arith, sum_by_push entry_len texts text, digits-positive (length text))

pub length-bytes_of : (texts : List Text) → length (bytes_of texts) ≡ place_of texts
length-bytes_of [] = refl
length-bytes_of (t ∷ ts) =
    ap length (flat_map-cons entry_of t ts)
    ∙ omega (arith, length-append (entry_of t) (bytes_of ts), length-append (spell (length t)) t, length-spell (length t), length-bytes_of ts, sum_by-cons entry_len t ts)

-- the buffer from the place of entry `i` on
pub from_place : (texts : List Text) (i : ℕ) → i < length texts → drop (place_of (take i texts)) (bytes_of texts) ≡ entry_of (get_or texts i []) ++ bytes_of (drop (i + 1) texts)
from_place texts i h =
    let split : bytes_of texts ≡ bytes_of (take i texts) ++ bytes_of (drop i texts) = ap bytes_of (sym (take-append-drop i texts)) ∙ flat_map-append entry_of (take i texts) (drop i texts) in
    ap (drop (place_of (take i texts))) split
    ∙ drop_at (bytes_of (take i texts)) (bytes_of (drop i texts)) (place_of (take i texts)) (length-bytes_of (take i texts))
    ∙ ap bytes_of (drop_more texts i [] h)
    ∙ flat_map-cons entry_of (get_or texts i []) (drop (i + 1) texts)

-- reading at the place of an entry gives its text
pub reads_at_place : {S : Type 0} (symbol_of : ℕ → Option S) (texts : List Text) (i : ℕ) → IsValidList symbol_of place_of texts → i < length texts → read_at texts (place_of (take i texts)) ≡ slice_get texts i
reads_at_place symbol_of texts i valid h =
    let t : Text = get_or texts i [] in
    let fits : length t < 2 ^ 64 = omega (arith, get_or-le-sum_by entry_len texts i [] h, valid.fits) in
    ap read_front (from_place texts i h) ∙ read_front-entry t (bytes_of (drop (i + 1) texts)) fits (All-get_or IsUtf8 texts i [] h valid.utf8) ∙ sym (slice_get-get_or texts i [] h)
