-- Texts that are joined, by their ends of four bytes.
use Rattle.std.proofs.Common.{add-one, zero, suc, ◌≡◌, ℕ, ◌+◌, ◌<◌, ◌≤◌, List, ◌++◌, length, get_or, refl, sym, ap, ◌∙◌, subst, arith, Some}
use Rattle.std.specs.Prelude.{slice_get, slice_range}
use Rattle.std.specs.Str.{IsCharBoundary}
use Rattle.std.proofs.lemmas.List.{get_or_append_left, length-append}
use Rattle.string_interner.specs.Text.{Text}
use Rattle.string_interner.specs.StringBackend.{IsCut, start_at}
use Rattle.string_interner.proofs.Lemmas.StringBackend.IsCut.{cut-IsCut, cut_length, part_at, start_boundary, start_le_end}

-- a text begins where the one before it ends
pub start_after : (ends : List ℕ) (i j : ℕ) → j ≡ i + 1 → start_at ends j ≡ get_or ends i 0
start_after ends i j next = ap (λ (n : ℕ). start_at ends n) (next ∙ add-one i)

-- there are as many texts as ends
pub count_is : (bytes ends : List ℕ) (texts : List Text) → IsCut bytes ends texts → length texts ≡ length ends
count_is bytes ends texts is = sym (ap (λ (ts : List Text). length ts) (cut-IsCut bytes ends texts is)) ∙ cut_length 0 bytes ends

start-front : (front rest : List ℕ) (i : ℕ) → i < length front → start_at (front ++ rest) i ≡ start_at front i
start-front front rest zero within = refl
start-front front rest (suc i) within = get_or_append_left front rest 0 i (omega arith)

-- by the ends at the front
module _ (bytes ends front rest : List ℕ) (texts : List Text) (is : IsCut bytes ends texts) (parts : ends ≡ front ++ rest) (i : ℕ) (within : i < length front) where
  pub within_texts : i < length texts
  within_texts = omega (arith, count_is bytes ends texts is, ap (λ (es : List ℕ). length es) parts, length-append front rest, within)

  start_is : start_at ends i ≡ start_at front i
  start_is = ap (λ (es : List ℕ). start_at es i) parts ∙ start-front front rest i within

  end_is : get_or ends i 0 ≡ get_or front i 0
  end_is = ap (λ (es : List ℕ). get_or es i 0) parts ∙ get_or_append_left front rest 0 i within

  pub front_start_le_end : start_at front i ≤ get_or front i 0
  front_start_le_end = omega (arith, start_le_end bytes ends texts is i within_texts, start_is, end_is)

  pub front_start_boundary : IsCharBoundary bytes (start_at front i)
  front_start_boundary = subst (λ (n : ℕ). IsCharBoundary bytes n) start_is (start_boundary bytes ends texts is i (omega (arith, within_texts)))

  pub front_end_boundary : IsCharBoundary bytes (get_or front i 0)
  front_end_boundary = subst (λ (n : ℕ). IsCharBoundary bytes n) end_is (start_boundary bytes ends texts is (suc i) (omega (arith, within_texts)))

  pub front_text : slice_get texts i ≡ Some (slice_range bytes (start_at front i) (get_or front i 0))
  front_text = part_at bytes ends texts is i within_texts ∙ ap (λ (n : ℕ). Some (slice_range bytes n (get_or ends i 0))) start_is ∙ ap (λ (n : ℕ). Some (slice_range bytes (start_at front i) n)) end_is
