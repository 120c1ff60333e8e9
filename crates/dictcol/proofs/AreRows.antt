-- Rows that are read from both files: what was written of them so far, and the run of lines that comes next.
use Rattle.std.proofs.Common.{◌≡◌, ◌≢◌, ℕ, suc, ◌+◌, ◌-◌, ◌^◌, ◌<◌, ◌≤◌, true, false, List, [], ◌∷◌, ◌++◌, length, take, drop, get_or, Option, w32, refl, sym, ap, ap₂, subst, ◌∙◌, arith}
use Rattle.std.specs.Prelude.{All, slice_range}
use Rattle.std.specs.Int.{from_le_bytes}
use Rattle.std.specs.Io.KnownBytes.{Appends}
use Rattle.std.specs.List.{flat_map, join_with_byte}
use Rattle.std.proofs.KnownBytes.{Appends-trans, Appends-nil}
use Rattle.std.proofs.Math.Seq.{take-append_seam, drop-append_seam}
use Rattle.std.proofs.lemmas.List.{append-nil, append_assoc, length-append, length-drop, take-append-drop, take_all}
use Rattle.std.proofs.lemmas.Nat.{from_le_bytes-to_le_bytes_4}
use Rattle.string_interner.specs.Text.{Text}
use Rattle.string_column.specs.Column.{rows_of}
use Rattle.string_column.proofs.Lemmas.Recodes.{range-split}
use Rattle.dictcol.specs.Lines.{text_of_ended}
use Rattle.dictcol.specs.Plain.{plain_text, code_bytes, AreRows}
use Rattle.dictcol.proofs.LineBounds.{IsBetween, line-between, bounds-long}
use Rattle.dictcol.proofs.TextLines.{ended, ended-joined}
use Rattle.dictcol.proofs.PlainColumns.{ended-more}
use Rattle.dictcol.proofs.Rows.{rows-push}

-- The codes before the rest were read. Their lines are what was written, and then the run that is to be written.
pub record AreRunsTo (file : Text) (lines : List Text) (codes : List ℕ) (rest : Text) (start end : ℕ) (old now : Option (List ℕ)) : Type 0 where
  pub done : List ℕ
  pub ahead : List ℕ
  pub codes_are : codes ≡ done ++ ahead
  pub rest_is : rest ≡ flat_map code_bytes ahead
  pub text : Text
  pub lines_are : text_of_ended (rows_of lines done) [] ≡ text ++ slice_range file start end
  pub appends : Appends old now text
  pub some : 0 < length done → start < end
  pub ordered : start ≤ end
  pub within : end ≤ length file

pub no-runs : (file : Text) (lines : List Text) (codes : List ℕ) (rest : Text) (old : Option (List ℕ)) → rest ≡ flat_map code_bytes codes → AreRunsTo file lines codes rest 0 0 old old
no-runs file lines codes rest old is = record {
  done = [];
  ahead = codes;
  codes_are = refl;
  rest_is = is;
  text = [];
  lines_are = refl;
  appends = Appends-nil old;
  some = λ none. absurd (omega (arith, none));
  ordered = omega arith;
  within = omega arith;
}

-- the code that the next four bytes are
pub next-code : (ahead : List ℕ) (rest first behind : Text) (number : ℕ) → All (λ code. code < 2 ^ 32) ahead → rest ≡ flat_map code_bytes ahead → 4 ≤ length rest
    → first ≡ take 4 rest → behind ≡ drop 4 rest → number ≡ from_le_bytes w32 first → (more : List ℕ) × (ahead ≡ number ∷ more) × (behind ≡ flat_map code_bytes more)
next-code [] rest first behind number small is enough first-is behind-is number-is = let none = ap length is in absurd (omega (arith, none, enough))
next-code (code ∷ more) rest first behind number small is enough first-is behind-is number-is =
    let bytes : first ≡ code_bytes code = first-is ∙ ap (take 4) is ∙ take-append_seam (code_bytes code) (flat_map code_bytes more) in
    let same : number ≡ code = number-is ∙ ap (from_le_bytes w32) bytes ∙ from_le_bytes-to_le_bytes_4 code (small 0 0 (omega arith)) in (
      more,
      ap (λ n. n ∷ more) (sym same),
      behind-is ∙ ap (drop 4) is ∙ drop-append_seam (code_bytes code) (flat_map code_bytes more),
    )

all-behind : (limit : ℕ) (done ahead : List ℕ) → All (λ n. n < limit) (done ++ ahead) → All (λ n. n < limit) ahead
all-behind limit [] ahead all = all
all-behind limit (x ∷ done) ahead all = all-behind limit done ahead (λ i d inside. all (suc i) d (omega (arith, inside)))

module _ (file : Text) (bounds : List ℕ) (numbers : Text) (rows : List Text) (are : AreRows file bounds numbers rows)
    (rest first behind : Text) (start end number : ℕ) (old now : Option (List ℕ)) (to : AreRunsTo file are.lines are.codes_are rest start end old now)
    (enough : 4 ≤ length rest) (first-is : first ≡ take 4 rest) (behind-is : behind ≡ drop 4 rest) (number-is : number ≡ from_le_bytes w32 first) where
  next : (more : List ℕ) × (to.ahead ≡ number ∷ more) × (behind ≡ flat_map code_bytes more)
  next =
      let small = all-behind (2 ^ 32) to.done to.ahead (subst (All (λ n. n < 2 ^ 32)) to.codes_are are.numbers_are.each_fits) in
      next-code to.ahead rest first behind number small to.rest_is enough first-is behind-is number-is

  -- it is that of a line
  pub code-within : number < length are.lines
  code-within =
      let below = all-behind (length are.lines) to.done to.ahead (subst (All (λ n. n < length are.lines)) to.codes_are are.numbers_are.within) in
      let first-below : All (λ n. n < length are.lines) (number ∷ next.0) = subst (All (λ n. n < length are.lines)) next.1 below in
      first-below 0 0 (omega arith)

  pub bounds-within : number + 1 < length bounds
  bounds-within =
      let long = ap length are.bounds_are ∙ bounds-long 0 are.lines in omega (arith, long, code-within)

  between : IsBetween file (get_or are.lines number []) (get_or bounds number 0) (get_or bounds (number + 1) 0)
  between = subst (λ ns. IsBetween file (get_or are.lines number []) (get_or ns number 0) (get_or ns (number + 1) 0)) (sym are.bounds_are) (line-between are.lines file number are.lines_are code-within)

  one-row : text_of_ended (rows_of are.lines (to.done ++ number ∷ [])) [] ≡ (to.text ++ slice_range file start end) ++ slice_range file (get_or bounds number 0) (get_or bounds (number + 1) 0)
  one-row =
      ap (λ rs. text_of_ended rs []) (rows-push are.lines to.done number) ∙ ended-more (rows_of are.lines to.done) (get_or are.lines number [])
      ∙ append_assoc (text_of_ended (rows_of are.lines to.done) []) (get_or are.lines number []) (10 ∷ []) ∙ ap₂ (λ a b. a ++ b) to.lines_are (sym between.line_is)

  codes-on : are.codes_are ≡ (to.done ++ number ∷ []) ++ next.0
  codes-on = to.codes_are ∙ ap (λ codes. to.done ++ codes) next.1 ∙ sym (append_assoc to.done (number ∷ []) next.0)

  -- the line continues the run
  pub run-on : get_or bounds number 0 ≡ end → AreRunsTo file are.lines are.codes_are behind start (get_or bounds (number + 1) 0) old now
  run-on same =
      let up : end ≤ get_or bounds (number + 1) 0 = omega (arith, between.ordered, same) in record {
        done = to.done ++ number ∷ [];
        ahead = next.0;
        codes_are = codes-on;
        rest_is = next.2;
        text = to.text;
        lines_are = one-row ∙ append_assoc to.text (slice_range file start end) (slice_range file (get_or bounds number 0) (get_or bounds (number + 1) 0))
            ∙ ap (λ run. to.text ++ run) (ap (λ b. slice_range file start end ++ slice_range file b (get_or bounds (number + 1) 0)) same ∙ sym (range-split file start end (get_or bounds (number + 1) 0) to.ordered up));
        appends = to.appends;
        some = λ one. omega (arith, between.ordered, same, to.ordered);
        ordered = omega (arith, between.ordered, same, to.ordered);
        within = between.within;
      }

  -- the run was written, and the line begins another one
  pub run-ended : (new : Option (List ℕ)) → Appends now new (slice_range file start end)
      → AreRunsTo file are.lines are.codes_are behind (get_or bounds number 0) (get_or bounds (number + 1) 0) old new
  run-ended new written = record {
    done = to.done ++ number ∷ [];
    ahead = next.0;
    codes_are = codes-on;
    rest_is = next.2;
    text = to.text ++ slice_range file start end;
    lines_are = one-row;
    appends = Appends-trans old now new to.text (slice_range file start end) to.appends written;
    some = λ one. between.ordered;
    ordered = omega (arith, between.ordered);
    within = between.within;
  }

-- all rows
pub all-runs : (file : Text) (bounds : List ℕ) (numbers : Text) (rows : List Text) (are : AreRows file bounds numbers rows) (rest : Text) (start end : ℕ) (old now : Option (List ℕ))
    (to : AreRunsTo file are.lines are.codes_are rest start end old now) → length rest < 4
    → (text : Text) × (rows ≢ [] → start < end) × (text_of_ended rows [] ≡ text ++ slice_range file start end) × Appends old now text
all-runs file bounds numbers rows are rest start end old now to short =
    let none : to.ahead ≡ [] = no-code to.ahead rest to.rest_is short in
    let all : are.codes_are ≡ to.done = to.codes_are ∙ ap (λ codes. to.done ++ codes) none ∙ append-nil to.done in
    let same : rows ≡ rows_of are.lines to.done = are.rows_are ∙ ap (rows_of are.lines) all in (
      to.text,
      λ some. to.some (count to.done (λ e. some (same ∙ ap (rows_of are.lines) e))),
      ap (λ rs. text_of_ended rs []) same ∙ to.lines_are,
      to.appends,
    )
  where
    no-code : (ahead : List ℕ) (rest : Text) → rest ≡ flat_map code_bytes ahead → length rest < 4 → ahead ≡ []
    no-code [] rest is short = refl
    no-code (code ∷ more) rest is short = let long = ap length is ∙ length-append (code_bytes code) (flat_map code_bytes more) in absurd (omega (arith, long, short))

    count : (codes : List ℕ) → codes ≢ [] → 0 < length codes
    count [] some = absurd (some refl)
    count (code ∷ codes) some = omega arith

-- ---- the newline at the end

empty-both : (a b : Text) → a ++ b ≡ [] → (a ≡ []) × (b ≡ [])
empty-both [] b e = (refl, e)
empty-both (x ∷ a) b e = absurd (cc)

-- the text of rows ends without the last byte of the run
pub cut-run : (rows : List Text) (text run : Text) → text_of_ended rows [] ≡ text ++ run → (rows ≢ [] → 0 < length run) → text ++ take (length run - 1) run ≡ plain_text rows true
cut-run [] text run is some =
    let none = empty-both text run (sym is) in ap₂ (λ a b. a ++ take (length b - 1) b) none.0 none.1
cut-run (row ∷ rows) text run is some =
    let joined = join_with_byte 10 (row ∷ rows) in
    let n = length run - 1 in
    let front = text ++ take n run in
    let whole : front ++ drop n run ≡ joined ++ 10 ∷ [] =
    append_assoc text (take n run) (drop n run) ∙ ap (λ r. text ++ r) (take-append-drop n run) ∙ sym is ∙ append-nil (flat_map ended (row ∷ rows)) ∙ ended-joined row rows in
    let one = some (λ e. cc) in
    let long : length front ≡ length joined =
    let total = ap length whole in let a = length-append front (drop n run) in let b = length-append joined (10 ∷ []) in let c = length-drop n run in omega (arith, total, a, b, c, one) in
    sym (take-append_seam front (drop n run)) ∙ ap₂ take long whole ∙ take-append_seam joined (10 ∷ [])

pub whole-run : (rows : List Text) (text run : Text) → text_of_ended rows [] ≡ text ++ run → text ++ take (length run) run ≡ plain_text rows false
whole-run rows text run is = ap (λ r. text ++ r) (take_all (length run) run (omega arith)) ∙ sym is
