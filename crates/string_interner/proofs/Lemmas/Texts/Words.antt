-- Two texts of one length are equal exactly where the words of their first and last bytes are.
use Rattle.std.proofs.Common.{ℕ, zero, suc, ◌≡◌, ◌∙◌, List, [], ◌∷◌, refl, sym, ap, ◌+◌, ◌-◌, ◌<◌, ◌≤◌, length, get_or, take, drop, ◌++◌, nat_eq, arith}
use Rattle.std.specs.Int.{w32, w64, from_le_bytes}
use Rattle.std.specs.Str.{bytes_eq}
use Rattle.std.specs.Cmp.{unsigned_Decides}
use Rattle.std.specs.Bool.{one_answer}
use Rattle.std.proofs.lemmas.Nat.{le_bytes_4, le_bytes_8}
use Rattle.std.proofs.lemmas.Slice.Eq.{bytes_eq-Decides}
use Rattle.std.proofs.lemmas.List.{take-append-drop, drop-drop, length-take-le, length-drop}

-- each number of the list fits a byte
abbrev Bytes : List ℕ → Type 0
Bytes xs = (i : ℕ) → get_or xs i 0 < 256

take-Bytes : (n : ℕ) (xs : List ℕ) → Bytes xs → Bytes (take n xs)
take-Bytes zero xs small i = omega arith
take-Bytes (suc n) [] small i = small i
take-Bytes (suc n) (x ∷ xs) small zero = small zero
take-Bytes (suc n) (x ∷ xs) small (suc i) = take-Bytes n xs (λ j. small (suc j)) i

drop-Bytes : (n : ℕ) (xs : List ℕ) → Bytes xs → Bytes (drop n xs)
drop-Bytes zero xs small i = small i
drop-Bytes (suc n) [] small i = small i
drop-Bytes (suc n) (x ∷ xs) small i = drop-Bytes n xs (λ j. small (suc j)) i

-- what lies behind the first `k` bytes is the end of the last `k`
behind : (k n : ℕ) (xs : List ℕ) → length xs ≡ n → k ≤ n → n ≤ k + k → drop k xs ≡ drop (k + k - n) (drop (n - k) xs)
behind k n xs count least most =
    let there : n - k + (k + k - n) ≡ k = omega arith in
    sym (drop-drop (k + k - n) (n - k) xs ∙ ap (λ i. drop i xs) there)

from_ends : (k : ℕ) (a b : List ℕ) → length a ≡ length b → k ≤ length a → length a ≤ k + k
    → take k a ≡ take k b → drop (length a - k) a ≡ drop (length b - k) b → a ≡ b
from_ends k a b same least most first last =
    let ends : drop (length a - k) a ≡ drop (length a - k) b = last ∙ ap (λ n. drop (n - k) b) (sym same) in
    let rest : drop k a ≡ drop k b = behind k (length a) a refl least most ∙ ap (drop (k + k - length a)) ends ∙ sym (behind k (length a) b (sym same) least most) in
    sym (take-append-drop k a) ∙ ap (λ xs. xs ++ drop k a) first ∙ ap (λ xs. take k b ++ xs) rest ∙ take-append-drop k b

word_8 : (a b : List ℕ) → length a ≡ 8 → length b ≡ 8 → Bytes a → Bytes b → from_le_bytes w64 a ≡ from_le_bytes w64 b → a ≡ b
word_8 a b long_a long_b small_a small_b same =
    sym (le_bytes_8 a (from_le_bytes w64 b) long_a small_a (sym same)) ∙ le_bytes_8 b (from_le_bytes w64 b) long_b small_b refl

word_4 : (a b : List ℕ) → length a ≡ 4 → length b ≡ 4 → Bytes a → Bytes b → from_le_bytes w32 a ≡ from_le_bytes w32 b → a ≡ b
word_4 a b long_a long_b small_a small_b same =
    sym (le_bytes_4 a (from_le_bytes w32 b) long_a small_a (sym same)) ∙ le_bytes_4 b (from_le_bytes w32 b) long_b small_b refl

last-length : (k : ℕ) (xs : List ℕ) → k ≤ length xs → length (drop (length xs - k) xs) ≡ k
last-length k xs least = let cut = length-drop (length xs - k) xs in omega arith

pub eights_decide : (a b : List ℕ) (m n p q : ℕ) → length a ≡ length b → 8 ≤ length a → length a ≤ 16 → Bytes a → Bytes b
    → m ≡ from_le_bytes w64 (take 8 a) → n ≡ from_le_bytes w64 (take 8 b)
    → p ≡ from_le_bytes w64 (drop (length a - 8) a) → q ≡ from_le_bytes w64 (drop (length b - 8) b)
    → m ≡ n → nat_eq p q ≡ bytes_eq a b
eights_decide a b m n p q same least most small_a small_b at_m at_n at_p at_q first =
    let least_b : 8 ≤ length b = omega arith in
    let front : take 8 a ≡ take 8 b = word_8 _ _ (length-take-le 8 a least) (length-take-le 8 b least_b)
    (take-Bytes 8 a small_a) (take-Bytes 8 b small_b) (sym at_m ∙ first ∙ at_n) in
    let back : p ≡ q → a ≡ b = λ last. from_ends 8 a b same least most front (word_8 _ _ (last-length 8 a least) (last-length 8 b least_b)
    (drop-Bytes _ a small_a) (drop-Bytes _ b small_b) (sym at_p ∙ last ∙ at_q)) in
    let ahead : a ≡ b → p ≡ q = λ e. at_p ∙ ap (λ xs. from_le_bytes w64 (drop (length xs - 8) xs)) e ∙ sym at_q in
    one_answer (nat_eq p q) (bytes_eq a b)
    (λ t. back ((unsigned_Decides p q).0 t), λ e. (unsigned_Decides p q).1 (ahead e)) (bytes_eq-Decides a b)

pub fours_decide : (a b : List ℕ) (m n p q : ℕ) → length a ≡ length b → 4 ≤ length a → length a ≤ 8 → Bytes a → Bytes b
    → m ≡ from_le_bytes w32 (take 4 a) → n ≡ from_le_bytes w32 (take 4 b)
    → p ≡ from_le_bytes w32 (drop (length a - 4) a) → q ≡ from_le_bytes w32 (drop (length b - 4) b)
    → m ≡ n → nat_eq p q ≡ bytes_eq a b
fours_decide a b m n p q same least most small_a small_b at_m at_n at_p at_q first =
    let least_b : 4 ≤ length b = omega arith in
    let front : take 4 a ≡ take 4 b = word_4 _ _ (length-take-le 4 a least) (length-take-le 4 b least_b)
    (take-Bytes 4 a small_a) (take-Bytes 4 b small_b) (sym at_m ∙ first ∙ at_n) in
    let back : p ≡ q → a ≡ b = λ last. from_ends 4 a b same least most front (word_4 _ _ (last-length 4 a least) (last-length 4 b least_b)
    (drop-Bytes _ a small_a) (drop-Bytes _ b small_b) (sym at_p ∙ last ∙ at_q)) in
    let ahead : a ≡ b → p ≡ q = λ e. at_p ∙ ap (λ xs. from_le_bytes w32 (drop (length xs - 4) xs)) e ∙ sym at_q in
    one_answer (nat_eq p q) (bytes_eq a b)
    (λ t. back ((unsigned_Decides p q).0 t), λ e. (unsigned_Decides p q).1 (ahead e)) (bytes_eq-Decides a b)
