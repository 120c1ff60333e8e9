-- Where each line of a file begins, and where the last one ends.
use Rattle.std.proofs.Common.{◌≡◌, ◌≢◌, ℕ, zero, suc, ◌+◌, ◌-◌, ◌<◌, ◌≤◌, false, List, [], ◌∷◌, ◌++◌, length, take, drop, get_or, Some, None, add-one, refl, sym, ap, ap₂, subst, ◌∙◌, arith, eqb-true}
use Rattle.std.specs.Prelude.{slice_range}
use Rattle.std.specs.List.{list_any, flat_map}
use Rattle.std.proofs.Math.Seq.{take-append_seam, drop-append_seam}
use Rattle.std.proofs.lemmas.Bool.{or_parts}
use Rattle.std.proofs.lemmas.List.{append-nil, append_assoc, length-append, length-drop, take-append-drop, drop_more, drop-drop}
use Rattle.memchr.specs.Find.{is_byte, IsFirstByte}
use Rattle.string_interner.specs.Text.{Text}
use Rattle.dictcol.specs.Lines.{is_newline, has_newline, text_of_ended, AreLines}
use Rattle.dictcol.specs.Plain.{line_bounds, IsLinesFile}
use Rattle.dictcol.proofs.Cut.{cut-first, cut-none}
use Rattle.dictcol.proofs.LinesOf.{parts-none}
use Rattle.dictcol.proofs.TextLines.{ended, ended-push, push-plain, are-rest}
use Rattle.dictcol.proofs.PlainColumns.{file-ended}

pub bounds-long : (start : ℕ) (lines : List Text) → length (line_bounds start lines) ≡ length lines + 1
bounds-long start [] = refl
bounds-long start (line ∷ lines) = let more = bounds-long (start + length line + 1) lines in omega (arith, more)

first-bound : (start : ℕ) (lines : List Text) → get_or (line_bounds start lines) 0 0 ≡ start
first-bound start [] = refl
first-bound start (line ∷ lines) = refl

ended-long : (line : Text) → length (ended line) ≡ length line + 1
ended-long line = length-append line (10 ∷ [])

-- one line more
pub bounds-push : (start : ℕ) (lines : List Text) (line : Text)
    → line_bounds start (lines ++ line ∷ []) ≡ line_bounds start lines ++ (start + length (flat_map ended (lines ++ line ∷ []))) ∷ []
bounds-push start [] line =
    let end : start + length line + 1 ≡ start + length (ended line ++ []) = omega (arith, ended-long line, ap length (append-nil (ended line))) in
    ap (λ n. start ∷ n ∷ []) end
bounds-push start (next ∷ lines) line =
    let behind = flat_map ended (lines ++ line ∷ []) in
    let end : (start + length next + 1) + length behind ≡ start + length (ended next ++ behind) = omega (arith, ended-long next, length-append (ended next) behind) in
    ap (λ ns. start ∷ ns) (bounds-push (start + length next + 1) lines line ∙ ap (λ n. line_bounds (start + length next + 1) lines ++ n ∷ []) end)

-- A line of a file, with its newline, is what stands between its bounds.
pub record IsBetween (file line : Text) (begin end : ℕ) : Type 0 where
  pub line_is : slice_range file begin end ≡ line ++ 10 ∷ []
  pub ordered : begin < end
  pub within : end ≤ length file

first-line : (front line more : Text) → IsBetween (front ++ (ended line ++ more)) line (length front) (length front + length line + 1)
first-line front line more =
    let long = ended-long line in
    let count : length front + length line + 1 - length front ≡ length (ended line) = omega (arith, long) in record {
      line_is = ap₂ take count (drop-append_seam front (ended line ++ more)) ∙ take-append_seam (ended line) more;
      ordered = omega arith;
      within = omega (arith, long, length-append front (ended line ++ more), length-append (ended line) more);
    }

line-behind : (front : Text) (lines : List Text) (code : ℕ) → code < length lines
    → IsBetween (front ++ flat_map ended lines) (get_or lines code []) (get_or (line_bounds (length front) lines) code 0) (get_or (line_bounds (length front) lines) (suc code) 0)
line-behind front [] code inside = absurd (omega (arith, inside))
line-behind front (line ∷ lines) zero inside =
    subst (λ end. IsBetween (front ++ (ended line ++ flat_map ended lines)) line (length front) end) (sym (first-bound (length front + length line + 1) lines)) (first-line front line (flat_map ended lines))
line-behind front (line ∷ lines) (suc code) inside =
    let long : length (front ++ ended line) ≡ length front + length line + 1 = omega (arith, length-append front (ended line), ended-long line) in
    let more = line-behind (front ++ ended line) lines code (omega (arith, inside)) in
    subst (λ file. IsBetween file (get_or lines code []) (get_or (line_bounds (length front + length line + 1) lines) code 0) (get_or (line_bounds (length front + length line + 1) lines) (suc code) 0))
    (append_assoc front (ended line) (flat_map ended lines))
    (subst (λ n. IsBetween ((front ++ ended line) ++ flat_map ended lines) (get_or lines code []) (get_or (line_bounds n lines) code 0) (get_or (line_bounds n lines) (suc code) 0)) long more)

-- the line with a number, among lines of which each has a newline behind it
pub ended-between : (lines : List Text) (text : Text) (code : ℕ) → text ≡ flat_map ended lines → code < length lines
    → IsBetween text (get_or lines code []) (get_or (line_bounds 0 lines) code 0) (get_or (line_bounds 0 lines) (code + 1) 0)
ended-between lines text code is inside =
    subst (λ n. IsBetween text (get_or lines code []) (get_or (line_bounds 0 lines) code 0) (get_or (line_bounds 0 lines) n 0)) (sym (add-one code))
    (subst (λ t. IsBetween t (get_or lines code []) (get_or (line_bounds 0 lines) code 0) (get_or (line_bounds 0 lines) (suc code) 0)) (sym is) (line-behind [] lines code inside))

-- and in a file of lines
pub line-between : (lines : List Text) (file : Text) (code : ℕ) → IsLinesFile lines file → code < length lines
    → IsBetween file (get_or lines code []) (get_or (line_bounds 0 lines) code 0) (get_or (line_bounds 0 lines) (code + 1) 0)
line-between lines file code is inside = ended-between lines file code (is.text ∙ append-nil (flat_map ended lines)) inside

-- ---- the bounds that were found so far

pub record AreBoundsTo (file : Text) (bounds : List ℕ) (end : ℕ) : Type 0 where
  pub lines : List Text
  pub plain : list_any has_newline lines ≡ false
  pub bounds_are : bounds ≡ line_bounds 0 lines
  pub end_is : end ≡ length (flat_map ended lines)
  pub whole : file ≡ text_of_ended lines (drop end file)

pub no-bounds : (file : Text) (bounds : List ℕ) → bounds ≡ 0 ∷ [] → AreBoundsTo file bounds 0
no-bounds file bounds is = record { lines = []; plain = refl; bounds_are = is; end_is = refl; whole = refl }

first-plain : (rest : Text) (at : ℕ) → IsFirstByte (is_byte 10) rest (Some at) → has_newline (take at rest) ≡ false
first-plain rest at found = (or_parts (has_newline (take at rest)) _ (sym (ap (list_any has_newline) (cut-first rest at found)) ∙ parts-none is_newline rest)).0

pub rest-plain : (rest : Text) → IsFirstByte (is_byte 10) rest None → has_newline rest ≡ false
rest-plain rest none = (or_parts (has_newline rest) false (sym (ap (list_any has_newline) (cut-none rest none)) ∙ parts-none is_newline rest)).0

at-first : (rest : Text) (at : ℕ) → IsFirstByte (is_byte 10) rest (Some at) → rest ≡ ended (take at rest) ++ drop (at + 1) rest
at-first rest at found =
    let newline : get_or rest at 0 ≡ 10 = eqb-true _ _ found.1 in
    sym (take-append-drop at rest) ∙ ap (λ behind. take at rest ++ behind) (drop_more rest at 0 found.0.high ∙ ap (λ b. b ∷ drop (at + 1) rest) newline)
    ∙ sym (append_assoc (take at rest) (10 ∷ []) (drop (at + 1) rest))

pub one-more : (file : Text) (bounds new : List ℕ) (end at : ℕ) → AreBoundsTo file bounds end → IsFirstByte (is_byte 10) (drop end file) (Some at) → new ≡ bounds ++ (end + (at + 1)) ∷ []
    → AreBoundsTo file new (end + (at + 1))
one-more file bounds new end at so_far found put =
    let rest = drop end file in
    let line = take at rest in
    let lines = so_far.lines in
    let split = at-first rest at found in
    let short : length line ≡ at = let whole = ap length (take-append-drop at rest) in let long = length-append line (drop at rest) in
    let behind = length-drop at rest in let high = found.0.high in omega (arith, whole, long, behind, high) in
    let longer = ap length (ended-push lines line) ∙ length-append (flat_map ended lines) (ended line) in
    let end_is : end + (at + 1) ≡ length (flat_map ended (lines ++ line ∷ [])) = omega (arith, so_far.end_is, longer, ended-long line, short) in
    let end_from : end + (at + 1) ≡ 0 + length (flat_map ended (lines ++ line ∷ [])) = omega (arith, end_is) in record {
      lines = lines ++ line ∷ [];
      plain = push-plain lines line so_far.plain (first-plain rest at found);
      bounds_are = put ∙ ap₂ (λ ns n. ns ++ n ∷ []) so_far.bounds_are end_from ∙ sym (bounds-push 0 lines line);
      end_is = end_is;
      whole = so_far.whole ∙ ap (λ text. flat_map ended lines ++ text) split ∙ sym (append_assoc (flat_map ended lines) (ended line) (drop (at + 1) rest))
          ∙ ap₂ (λ front behind. front ++ behind) (sym (ended-push lines line)) (drop-drop (at + 1) end file);
    }

-- all bounds
pub all-bounds : (file : Text) (bounds : List ℕ) (end : ℕ) (so_far : AreBoundsTo file bounds end) → length file ≤ end → IsLinesFile so_far.lines file
all-bounds file bounds end so_far all = record {
  text = so_far.whole ∙ ap (λ rest. text_of_ended so_far.lines rest) (none (drop end file) (omega (arith, length-drop end file, all)));
  each_a_line = so_far.plain;
}
  where
    none : (rest : Text) → length rest ≡ 0 → rest ≡ []
    none [] e = refl
    none (b ∷ bs) e = absurd (cc)

-- a file with something behind its last newline
pub not-ended : (file : Text) (bounds : List ℕ) (end : ℕ) (lines : List Text) → AreBoundsTo file bounds end → IsFirstByte (is_byte 10) (drop end file) None → end < length file
    → ¬ (IsLinesFile lines file)
not-ended file bounds end lines so_far none behind =
    let rest = drop end file in
    let some : rest ≢ [] = λ e. let long = length-drop end file in let zero = ap length e in omega (arith, long, zero, behind) in
    let are = are-rest so_far.lines (so_far.lines ++ rest ∷ []) rest so_far.plain (rest-plain rest none) some refl in
    file-ended lines (so_far.lines ++ rest ∷ []) file false (subst (λ text. AreLines text (so_far.lines ++ rest ∷ []) false) (sym so_far.whole) are) refl (some-push so_far.lines rest)
  where
    some-push : (xs : List Text) (x : Text) → xs ++ x ∷ [] ≢ []
    some-push [] x e = cc
    some-push (y ∷ xs) x e = cc
