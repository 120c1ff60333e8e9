-- Where a text first stands in a list.
use Rattle.std.proofs.Common.{◌≡◌, ℕ, ◌<◌, List, length, get_or, arith, refl, Some, None, Bool, true, false}
use Rattle.std.specs.Prelude.{◌≢◌, [], nat_lt, cond}
use Rattle.std.specs.List.{position_or_len}
use Rattle.std.specs.Str.{bytes_eq}
use Rattle.std.proofs.lemmas.Bool.Decides.{nat_tests}
use Rattle.std.proofs.lemmas.List.Quantifiers.{position-Some}
use Rattle.std.proofs.lemmas.List.Sums.{position_or_len_is, fails_before_first}
use Rattle.std.proofs.lemmas.Slice.Eq.{bytes_eq-Decides}
use Rattle.string_interner.specs.Text.{Text, first}

-- it is within the list
pub first_within : (xs : List Text) (t : Text) (i : ℕ) → first xs t ≡ Some i → i < length xs
first_within xs t i h = (position-Some (λ x. bytes_eq x t) xs i [] h).0

-- the text stands there
pub first_is : (xs : List Text) (t : Text) (i : ℕ) → first xs t ≡ Some i → get_or xs i [] ≡ t
first_is xs t i h = (bytes_eq-Decides (get_or xs i []) t).0 (position-Some (λ x. bytes_eq x t) xs i [] h).1

-- a text that is no entry is new
pub first_new : (xs : List Text) (t : Text) → ((k : ℕ) → k < length xs → bytes_eq (get_or xs k []) t ≡ false) → first xs t ≡ None
first_new xs t before =
    let e : position_or_len (λ x. bytes_eq x t) xs ≡ length xs = position_or_len_is (λ x. bytes_eq x t) xs (length xs) [] (omega arith) before (λ h. absurd (omega arith)) in
    let b : nat_lt (length xs) (length xs) ≡ false = grind (arith, nat_tests) in
    rw (e, b) refl

picked_none : (b : Bool) (n : ℕ) → cond b (Some n) None ≡ None → b ≡ false
picked_none true n h = cc
picked_none false n h = refl

-- a new text is no entry
pub first_none : (xs : List Text) (t : Text) → first xs t ≡ None → (k : ℕ) (d : Text) → k < length xs → get_or xs k d ≢ t
first_none xs t new k d h = λ e.
    let n = position_or_len (λ x. bytes_eq x t) xs in
    let b : nat_lt n (length xs) ≡ false = picked_none (nat_lt n (length xs)) n new in
    let l : k < n = grind (arith, nat_tests, b) in
    let f : bytes_eq (get_or xs k d) t ≡ false = fails_before_first (λ x. bytes_eq x t) xs k d l in
    let s : bytes_eq (get_or xs k d) t ≡ true = (bytes_eq-Decides (get_or xs k d) t).1 e in
    cc
