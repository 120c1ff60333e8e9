-- Where a text is cut at its newlines.
use Rattle.std.proofs.Common.{◌≡◌, ◌≢◌, ◌+◌, ◌<◌, ℕ, zero, suc, Bor, subst, List, [], ◌∷◌, Some, None, length, take, drop, slice_index, add-one, refl, sym, ap, ◌∙◌, arith}
use Rattle.std.proofs.lemmas.Bool.{cond-true, cond-false, eq-eqb, eqb-true, ne_eqb}
use Rattle.std.specs.List.{slice_split, onto_first}
use Rattle.std.specs.Str.{IsUtf8, IsCharBoundary}
use Rattle.std.proofs.lemmas.Str.{IsCharBoundary-after_ascii}
use Rattle.std.specs.Iterator.{MakesProgress, item_count}
use Rattle.memchr.specs.Find.{is_byte, IsFirstByte}
use Rattle.dictcol.specs.Lines.{is_newline}

cut : (bs : List ℕ) (end : ℕ) → end < length bs → slice_index bs end ≡ 10 → ((k : ℕ) → k < end → slice_index bs k ≢ 10)
    → slice_split is_newline bs ≡ take end bs ∷ slice_split is_newline (drop (suc end) bs)
cut [] end within is before = absurd (omega arith)
cut (b ∷ bs) zero within is before = cond-true _ _ _ (eq-eqb b 10 is)
cut (b ∷ bs) (suc end) within is before =
    cond-false _ _ _ (ne_eqb b 10 (before 0 (omega arith))) ∙ ap (onto_first b) (cut bs end (omega arith) is (λ k a. before (suc k) (omega arith)))

uncut : (bs : List ℕ) → ((k : ℕ) → k < length bs → slice_index bs k ≢ 10) → slice_split is_newline bs ≡ bs ∷ []
uncut [] none = refl
uncut (b ∷ bs) none = cond-false _ _ _ (ne_eqb b 10 (none 0 (omega arith))) ∙ ap (onto_first b) (uncut bs (λ k a. none (suc k) (omega arith)))

module _ (text : List ℕ) where
  -- the line that ends at the first newline, and those behind it
  pub cut-first : (end : ℕ) → IsFirstByte (is_byte 10) text (Some end) → slice_split is_newline text ≡ take end text ∷ slice_split is_newline (drop (end + 1) text)
  cut-first end h =
      cut text end h.0.high (eqb-true _ _ h.1) (λ k a is. h.0.before k (omega arith) a (eq-eqb _ _ is))
      ∙ ap (λ n. take end text ∷ slice_split is_newline (drop n text)) (sym (add-one end))

  -- no newline: one line
  pub cut-none : IsFirstByte (is_byte 10) text None → slice_split is_newline text ≡ text ∷ []
  cut-none h = uncut text (λ k a is. h k (omega arith) a (eq-eqb _ _ is))

-- behind a newline a character begins, or the text ends
pub boundary-behind : (text : List ℕ) (end : ℕ) → IsUtf8 text → IsFirstByte (is_byte 10) text (Some end) → IsCharBoundary text (end + 1)
boundary-behind text end utf8 h = let newline = eqb-true _ _ h.1 in IsCharBoundary-after_ascii text end utf8 h.0.high (omega (arith, newline))

-- a call that gave the first of the lines ahead
pub goes-on : (can : List (List ℕ) → Type 0) → ((l : List (List ℕ)) → can l) → (s t : List (List ℕ)) (x : Bor (List ℕ)) → s ≡ x.now ∷ t
    → MakesProgress can (item_count (λ rest. rest)) s (Some x) t
goes-on can always s t x e = record {
  on = λ _. (always t, tt, subst (λ l. length t < length l) (sym e) (omega arith));
  keeps = always t;
  rests = λ _. tt;
}
