-- Where the letter begins that a byte is of.
use Rattle.std.proofs.Common.{◌≡◌, ℕ, zero, suc, ◌-◌, ◌<◌, ◌≤◌, true, false, cond, length, get_or, refl, sym, ap, ◌∙◌, ⊎_elim, arith}
use Rattle.std.proofs.lemmas.Bool.{cases_lt, lt-ltb, le-ltb}
use Rattle.std.proofs.lemmas.Str.{IsCharBoundary-start}
use Rattle.std.specs.Str.{IsUtf8, IsCharBoundary}
use Rattle.string_interner.specs.Text.{Text}
use Rattle.dictcol.specs.Shown.{begin_of_letter, is_within_letter}

-- `IsCharBoundary`'s fact on a byte decides
begins : (byte : ℕ) → (128 ≤ byte → 192 ≤ byte) → is_within_letter byte ≡ false
begins byte h = ⊎_elim (λ low. rw (lt-ltb byte 128 low) refl) (λ high. rw (le-ltb byte 128 high, le-ltb byte 192 (h high)) refl) (cases_lt byte 128)

goes_on : (byte : ℕ) → ¬ (128 ≤ byte → 192 ≤ byte) → is_within_letter byte ≡ true
goes_on byte h = ⊎_elim (λ low. absurd (h (λ high. omega (arith, low))))
    (λ high. ⊎_elim (λ mid. rw (le-ltb byte 128 high, lt-ltb byte 192 mid) refl) (λ top. absurd (h (λ _. top))) (cases_lt byte 192)) (cases_lt byte 128)

pub at-begin : (text : Text) (at : ℕ) → at < length text → IsCharBoundary text at → begin_of_letter text at ≡ at
at-begin text zero within is = refl
at-begin text (suc at) within is = ap (λ b. cond b (begin_of_letter text at) (suc at)) (begins (get_or text (suc at) 0) (is.1 within))

-- no text begins within a letter
pub not-first : (text : Text) (at : ℕ) → IsUtf8 text → ¬ (IsCharBoundary text at) → 1 ≤ at
not-first text zero utf8 inside = absurd (inside (IsCharBoundary-start text utf8))
not-first text (suc at) utf8 inside = omega arith

pub before-begin : (text : Text) (at : ℕ) → IsUtf8 text → at < length text → ¬ (IsCharBoundary text at)
    → begin_of_letter text (at - 1) ≡ begin_of_letter text at
before-begin text zero utf8 within inside = absurd (inside (IsCharBoundary-start text utf8))
before-begin text (suc at) utf8 within inside =
    let same : suc at - 1 ≡ at = omega arith in
    ap (begin_of_letter text) same ∙ sym (ap (λ b. cond b (begin_of_letter text at) (suc at)) (goes_on (get_or text (suc at) 0) (λ h. inside (omega arith, λ _. h))))
