-- The lines of a text with their newlines: of a text in parts, and which is the first.
use Rattle.std.proofs.Common.{◌≡◌, ℕ, zero, suc, ◌+◌, ◌<◌, ◌≤◌, Bool, true, false, cond, List, [], ◌∷◌, ◌++◌, length, get_or, take, drop, filter, Result, Ok, Err, MatchResult, is_ok, refl, sym, ap, ap₂, ◌∙◌, append_assoc, arith, IsUtf8}
use Rattle.std.specs.List.{concat, onto_first}
use Rattle.std.specs.Str.{is_utf8}
use Rattle.std.proofs.lemmas.Bool.{true≢false, false_from_ne_true}
use Rattle.std.proofs.lemmas.List.Elements.{filter-append}
use Rattle.std.proofs.lemmas.List.Folds.{concat-append}
use Rattle.std.proofs.lemmas.Str.{IsUtf8-from_is_utf8, is_utf8-from_IsUtf8}
use Rattle.memchr.specs.Find.{is_byte, Passes, Nowhere, NoneBefore}
use Rattle.string_interner.specs.Text.{Text}
use Rattle.dictcol.specs.Lines.{is_newline, whole_lines, utf8_lines}
use Rattle.dictcol.proofs.AreWhole.{AreWhole, AreWhole-tail}

some-line : (byte : ℕ) (text : Text) → 0 < length (whole_lines (byte ∷ text))
some-line byte text = by-test (is_newline byte) (whole_lines text)
  where
    by-test : (is : Bool) (lines : List Text) → 0 < length (cond is ((byte ∷ []) ∷ lines) (onto_first byte lines))
    by-test true lines = omega arith
    by-test false [] = omega arith
    by-test false (line ∷ lines) = omega arith

onto-append : (byte : ℕ) (lines more : List Text) → 0 < length lines → onto_first byte (lines ++ more) ≡ onto_first byte lines ++ more
onto-append byte [] more some = absurd (omega (arith, some))
onto-append byte (line ∷ lines) more some = refl

-- the lines behind the first one, where a newline ends it and where not
ends : (byte : ℕ) (text : Text) → is_newline byte ≡ true → whole_lines (byte ∷ text) ≡ (byte ∷ []) ∷ whole_lines text
ends byte text is = ap (λ it. cond it ((byte ∷ []) ∷ whole_lines text) (onto_first byte (whole_lines text))) is

goes-on : (byte : ℕ) (text : Text) → is_newline byte ≡ false → whole_lines (byte ∷ text) ≡ onto_first byte (whole_lines text)
goes-on byte text other = ap (λ it. cond it ((byte ∷ []) ∷ whole_lines text) (onto_first byte (whole_lines text))) other

lines-within : (byte : ℕ) (text : Text) → AreWhole (byte ∷ text) → is_newline byte ≡ false → 0 < length (whole_lines text)
lines-within byte [] whole other = absurd (true≢false (sym (ap is_newline (whole 0 (omega arith))) ∙ other))
lines-within byte (next ∷ text) whole other = some-line next text

pub whole_lines-AreWhole : (lines rest : Text) → AreWhole lines → whole_lines (lines ++ rest) ≡ whole_lines lines ++ whole_lines rest
whole_lines-AreWhole [] rest whole = refl
whole_lines-AreWhole (byte ∷ text) rest whole = by-test (is_newline byte) refl (whole_lines-AreWhole text rest (AreWhole-tail byte text whole))
  where
    by-test : (is : Bool) → is_newline byte ≡ is → whole_lines (text ++ rest) ≡ whole_lines text ++ whole_lines rest
        → whole_lines (byte ∷ text ++ rest) ≡ whole_lines (byte ∷ text) ++ whole_lines rest
    by-test true is further = ends byte (text ++ rest) is ∙ ap (λ lines. (byte ∷ []) ∷ lines) further ∙ ap (λ lines. lines ++ whole_lines rest) (sym (ends byte text is))
    by-test false other further =
        goes-on byte (text ++ rest) other ∙ ap (onto_first byte) further ∙ onto-append byte (whole_lines text) (whole_lines rest) (lines-within byte text whole other)
        ∙ ap (λ lines. lines ++ whole_lines rest) (sym (goes-on byte text other))

-- the first line, which ends behind the first newline or with the text
pub whole_lines-first : (text : Text) (end : ℕ) → 0 < end → end ≤ length text → ((at : ℕ) → at + 1 < end → is_newline (get_or text at 0) ≡ false)
    → ((at : ℕ) → at + 1 ≡ end → end < length text → is_newline (get_or text at 0) ≡ true) → whole_lines text ≡ take end text ∷ whole_lines (drop end text)
whole_lines-first text zero some within before last = absurd (omega (arith, some))
whole_lines-first [] (suc end) some within before last = absurd (omega (arith, within))
whole_lines-first (byte ∷ []) (suc zero) some within before last = by-test (is_newline byte)
  where
    by-test : (is : Bool) → cond is ((byte ∷ []) ∷ []) ((byte ∷ []) ∷ []) ≡ (byte ∷ []) ∷ []
    by-test true = refl
    by-test false = refl
whole_lines-first (byte ∷ next ∷ text) (suc zero) some within before last = ends byte (next ∷ text) (last 0 (omega arith) (omega arith))
whole_lines-first (byte ∷ text) (suc (suc end)) some within before last =
    goes-on byte text (before 0 (omega arith))
    ∙ ap (onto_first byte)
    (whole_lines-first text (suc end) (omega arith) (omega (arith, within)) (λ at inside. before (suc at) (omega (arith, inside))) (λ at is more. last (suc at) (omega (arith, is)) (omega (arith, more))))

-- ---- those that are UTF-8

pub utf8_lines-AreWhole : (lines rest : Text) → AreWhole lines → utf8_lines (lines ++ rest) ≡ utf8_lines lines ++ utf8_lines rest
utf8_lines-AreWhole lines rest whole =
    ap (λ all. concat (filter is_utf8 all)) (whole_lines-AreWhole lines rest whole) ∙ ap concat (filter-append is_utf8 (whole_lines lines) (whole_lines rest))
    ∙ concat-append (filter is_utf8 (whole_lines lines)) (filter is_utf8 (whole_lines rest))

module _ (text line rest : Text) (first : whole_lines text ≡ line ∷ whole_lines rest) where
  by-line : (is : Bool) → is_utf8 line ≡ is → utf8_lines text ≡ cond is line [] ++ utf8_lines rest
  by-line true is = ap (λ all. concat (filter is_utf8 all)) first ∙ ap (λ it. concat (cond it (line ∷ filter is_utf8 (whole_lines rest)) (filter is_utf8 (whole_lines rest)))) is
  by-line false other = ap (λ all. concat (filter is_utf8 all)) first ∙ ap (λ it. concat (cond it (line ∷ filter is_utf8 (whole_lines rest)) (filter is_utf8 (whole_lines rest)))) other

  pub utf8_lines-kept : is_utf8 line ≡ true → utf8_lines text ≡ line ++ utf8_lines rest
  utf8_lines-kept is = by-line true is

  pub utf8_lines-skipped : is_utf8 line ≡ false → utf8_lines text ≡ utf8_lines rest
  utf8_lines-skipped other = by-line false other

-- ---- the first line, found by its newline

pub first-ended : (text : Text) (at end : ℕ) → NoneBefore (Passes (is_byte 10) text) 0 (length text) at → Passes (is_byte 10) text at → end ≡ at + 1
    → whole_lines text ≡ take end text ∷ whole_lines (drop end text)
first-ended text at end before is behind =
    whole_lines-first text end (omega (arith, behind)) (omega (arith, behind, before.high))
    (λ k inside. false_from_ne_true (is_newline (get_or text k 0)) (before.before k (omega arith) (omega (arith, inside, behind))))
    (λ k last more. ap (λ n. is_newline (get_or text n 0)) (omega (arith, last, behind)) ∙ is)

pub first-last : (text : Text) (end : ℕ) → Nowhere (Passes (is_byte 10) text) 0 (length text) → 0 < length text → end ≡ length text
    → whole_lines text ≡ take end text ∷ whole_lines (drop end text)
first-last text end nowhere some behind =
    whole_lines-first text end (omega (arith, behind, some)) (omega (arith, behind))
    (λ k inside. false_from_ne_true (is_newline (get_or text k 0)) (nowhere k (omega arith) (omega (arith, inside, behind))))
    (λ k last more. absurd (omega (arith, behind, more)))

-- What is kept so far, and what is to be, once a line is kept or not.
module _ (kept new text line rest all : Text) (so_far : kept ++ utf8_lines text ≡ all) (first : whole_lines text ≡ line ∷ whole_lines rest) where
  pub line-kept : IsUtf8 line → new ≡ kept ++ line → new ++ utf8_lines rest ≡ all
  line-kept is put =
      ap (λ it. it ++ utf8_lines rest) put ∙ append_assoc kept line (utf8_lines rest)
      ∙ ap (λ it. kept ++ it) (sym (utf8_lines-kept text line rest first (is_utf8-from_IsUtf8 line is))) ∙ so_far

  pub line-skipped : ¬ (IsUtf8 line) → new ≡ kept → new ++ utf8_lines rest ≡ all
  line-skipped bad same =
      ap₂ (λ it more. it ++ more) same
      (sym (utf8_lines-skipped text line rest first (false_from_ne_true (is_utf8 line) (λ is. bad (IsUtf8-from_is_utf8 line is))))) ∙ so_far

-- whether a text was told to be UTF-8
pub told-good : {A E : Type 0} (P : A → Type 0) (text : Text) (told : Result A E) → MatchResult told (λ it. P it × IsUtf8 text) (λ _. ¬ (IsUtf8 text)) → is_ok told ≡ true → IsUtf8 text
told-good P text (Ok it) holds is = holds.1
told-good P text (Err error) holds is = absurd (true≢false (sym is))

pub told-bad : {A E : Type 0} (P : A → Type 0) (text : Text) (told : Result A E) → MatchResult told (λ it. P it × IsUtf8 text) (λ _. ¬ (IsUtf8 text)) → is_ok told ≡ false → ¬ (IsUtf8 text)
told-bad P text (Ok it) holds is = absurd (true≢false is)
told-bad P text (Err error) holds is = holds
