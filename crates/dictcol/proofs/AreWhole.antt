-- Whole lines: a text that is empty or ends in a newline.
use Rattle.std.proofs.Common.{◌≡◌, ℕ, suc, ◌+◌, ◌-◌, ◌<◌, ◌≤◌, [], ◌∷◌, ◌++◌, length, get_or, take, drop, sym, ap, ap₂, subst, ◌∙◌, arith, IsUtf8}
use Rattle.std.proofs.lemmas.List.{length-append, length-drop, length-take, get_or-drop, get_or-take, take-take}
use Rattle.std.proofs.lemmas.Str.{IsUtf8-nil, IsUtf8-take, IsCharBoundary-after_ascii}
use Rattle.std.proofs.lemmas.Bool.{eqb-true}
use Rattle.std.proofs.Math.ListN.{get_or-append}
use Rattle.std.proofs.Math.Seq.{take-append_seam}
use Rattle.memchr.specs.Find.{is_byte, Passes, NoneAfter}
use Rattle.string_interner.specs.Text.{Text}

abbrev pub AreWhole : Text → Type 0
AreWhole text = (at : ℕ) → at + 1 ≡ length text → get_or text at 0 ≡ 10

pub AreWhole-drop : (text : Text) (n : ℕ) → AreWhole text → AreWhole (drop n text)
AreWhole-drop text n whole at last = get_or-drop n text at 0 ∙ whole (n + at) (omega (arith, last, length-drop n text))

pub AreWhole-tail : (byte : ℕ) (text : Text) → AreWhole (byte ∷ text) → AreWhole text
AreWhole-tail byte text whole at last = whole (suc at) (omega (arith, last))

-- what ends right behind a newline
pub AreWhole-take : (text : Text) (n : ℕ) → n < length text → get_or text n 0 ≡ 10 → AreWhole (take (n + 1) text)
AreWhole-take text n within is at last =
    let same : at ≡ n = omega (arith, last, length-take (n + 1) text, within) in
    get_or-take (n + 1) text at 0 (omega (arith, same)) ∙ ap (λ k. get_or text k 0) same ∙ is

-- what ends right behind the last newline of the rest
pub AreWhole-last : (text lent : Text) (start at count : ℕ) → lent ≡ text → NoneAfter (Passes (is_byte 10) (take (length lent - start) (drop start lent))) 0 (length (take (length lent - start) (drop start lent))) at
    → Passes (is_byte 10) (take (length lent - start) (drop start lent)) at → count ≡ start + at + 1 → AreWhole (take count text)
AreWhole-last text lent start at count same last is behind =
    let searched = take (length lent - start) (drop start lent) in
    let inside : start + at < length lent = omega (arith, last.high, length-take (length lent - start) (drop start lent), length-drop start lent) in
    let found : get_or lent (start + at) 0 ≡ 10 =
    sym (get_or-drop start lent at 0) ∙ sym (get_or-take (length lent - start) (drop start lent) at 0 (omega (arith, inside))) ∙ eqb-true (get_or searched at 0) 10 is in
    subst AreWhole (ap₂ take (sym behind) same) (AreWhole-take lent (start + at) inside found)

front-of-front : (lines rest : Text) (n : ℕ) → length lines ≤ n → take (length lines) (take n (lines ++ rest)) ≡ lines
front-of-front lines rest n within = take-take (length lines) n (lines ++ rest) within ∙ take-append_seam lines rest

-- Whole lines that begin a text are UTF-8 if a longer front of it is.
pub AreWhole-IsUtf8 : (lines rest : Text) (n : ℕ) → AreWhole lines → length lines ≤ n → IsUtf8 (take n (lines ++ rest)) → IsUtf8 lines
AreWhole-IsUtf8 [] rest n whole within is = IsUtf8-nil
AreWhole-IsUtf8 (byte ∷ bytes) rest n whole within is =
    let lines = byte ∷ bytes in
    let last = length bytes in
    let front = take n (lines ++ rest) in
    let inside : last < n = omega (arith, within) in
    let long : last < length front = omega (arith, length-take n (lines ++ rest), length-append lines rest, within) in
    let newline : get_or front last 0 ≡ 10 = get_or-take n (lines ++ rest) last 0 inside ∙ get_or-append lines rest 0 last (omega arith) ∙ whole last (omega arith) in
    let cut = IsUtf8-take front (last + 1) is (IsCharBoundary-after_ascii front last is long (omega (arith, newline))) in
    let one : last + 1 ≡ length lines = omega arith in
    subst IsUtf8 (ap (λ k. take k front) one ∙ front-of-front lines rest n within) cut
