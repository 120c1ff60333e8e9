-- Blocks of an input: the lines up to a newline, and where a text ceases to be UTF-8.
use Rattle.std.proofs.Common.{◌≡◌, ℕ, zero, suc, ◌+◌, ◌-◌, ◌^◌, ◌≤◌, ◌<◌, Bool, true, false, cond, ◌||◌, List, [], ◌∷◌, ◌++◌, length, get_or, take, drop, min, Option, Some, None, refl, sym, ap, ap₂, subst, ◌∙◌, arith, eqb-true, inl, inr}
use Rattle.std.specs.Prelude.{count_by, IsUtf8, IfSome, ◌⊎◌, slice_index}
use Rattle.std.specs.List.{list_any, flat_map, slice_split, join_with_byte}
use Rattle.std.specs.Str.{IsValidUpTo}
use Rattle.std.specs.Io.KnownBytes.{Consumes, IsAtEnd, Keeps}
use Rattle.std.proofs.KnownBytes.{Consumes-nil, Consumes-trans, Consumes-kept, Consumes-whole}
use Rattle.std.proofs.lemmas.Option.{same_Some}
use Rattle.std.proofs.lemmas.Bool.{cases_lt, or_parts}
use Rattle.std.proofs.lemmas.List.{append-nil, append_assoc, take-append-drop, length-append, length-drop, length-take, length-take-le, take-append-le, take_all, take_at, drop_at, drop-drop, drop_more, get_or-drop}
use Rattle.std.proofs.lemmas.List.Splits.{join_with_byte-slice_split}
use Rattle.std.proofs.lemmas.List.Sums.{sum_by-append}
use Rattle.std.proofs.lemmas.List.Folds.{list_any-append}
use Rattle.memchr.specs.Find.{is_byte, IsLastByte, Nowhere, Passes}
use Rattle.std.proofs.lemmas.Grind.{flat_map-append}
use Rattle.std.proofs.lemmas.Str.{IsUtf8-append, IsUtf8-take, IsUtf8-drop, IsUtf8-from_ascii, IsUtf8-nil, IsCharBoundary-before_ascii, IsCharBoundary-from_take}
use borrow.Rule.Slice.PartMut.{put_mid, post_of}
use Rattle.string_interner.specs.Text.{Text}
use Rattle.dictcol.specs.Blocks.{EndsAtNewline, HasRead, IsTextOf, IsTextFault, IsLinesFault}
use Rattle.dictcol.specs.Fault.{IsBadLine, IsNotUtf8}
use Rattle.dictcol.specs.declared.fault.Fault.{Fault}
use Rattle.dictcol.specs.Lines.{is_newline, has_newline, lines_of, text_of_ended}
use Rattle.dictcol.specs.TooMany.{HasRefused}
use Rattle.dictcol.proofs.LinesOf.{parts-none}
use Rattle.dictcol.proofs.TextLines.{both-plain, ended-first, ended-joined, ended}
use Rattle.dictcol.proofs.TooMany.{more-refused, take-weaker}

-- ---- the lines of a text, each with a newline

pub ended-split : (text : Text) → flat_map ended (slice_split is_newline text) ≡ text ++ 10 ∷ []
ended-split text = of (slice_split is_newline text) refl
  where
    none : (text : Text) → slice_split is_newline text ≡ [] → ⊥
    none text e = no-parts text (sym (join_with_byte-slice_split 10 text) ∙ ap (join_with_byte 10) e) e
      where
        no-parts : (text : Text) → text ≡ [] → slice_split is_newline text ≡ [] → ⊥
        no-parts [] is e = cc
        no-parts (b ∷ bs) is e = cc

    of : (lines : List Text) → slice_split is_newline text ≡ lines → flat_map ended lines ≡ text ++ 10 ∷ []
    of [] e = absurd (none text e)
    of (line ∷ lines) e = ended-joined line lines ∙ ap (λ t. t ++ 10 ∷ []) (ap (join_with_byte 10) (sym e) ∙ join_with_byte-slice_split 10 text)

-- lines that are taken, with what is behind them
pub more-taken : (seen : List Text) (text rest : Text) → text_of_ended (seen ++ slice_split is_newline text) rest ≡ text_of_ended seen (text ++ 10 ∷ rest)
more-taken seen text rest =
    ap (λ t. t ++ rest) (flat_map-append ended seen (slice_split is_newline text) ∙ ap (λ t. flat_map ended seen ++ t) (ended-split text))
    ∙ append_assoc (flat_map ended seen) (text ++ 10 ∷ []) rest ∙ ap (λ t. flat_map ended seen ++ t) (append_assoc text (10 ∷ []) rest)

ascii-newline : IsUtf8 (10 ∷ [])
ascii-newline = IsUtf8-from_ascii (10 ∷ []) small
  where
    small : (i : ℕ) → slice_index (10 ∷ []) i < 128
    small zero = omega arith
    small (suc i) = omega arith

pub utf8-taken : (seen : List Text) (text : Text) → IsUtf8 (text_of_ended seen []) → IsUtf8 text → IsUtf8 (text_of_ended (seen ++ slice_split is_newline text) [])
utf8-taken seen text utf8 one = subst IsUtf8 (append_assoc-3 ∙ sym (more-taken seen text [])) (IsUtf8-append (text_of_ended seen []) (text ++ 10 ∷ []) utf8 (IsUtf8-append text (10 ∷ []) one ascii-newline))
  where
    append_assoc-3 : text_of_ended seen [] ++ (text ++ 10 ∷ []) ≡ text_of_ended seen (text ++ 10 ∷ [])
    append_assoc-3 = ap (λ t. t ++ (text ++ 10 ∷ [])) (append-nil (flat_map ended seen))

pub plain-taken : (seen : List Text) (text : Text) → list_any has_newline seen ≡ false → list_any has_newline (seen ++ slice_split is_newline text) ≡ false
plain-taken seen text plain = both-plain seen (slice_split is_newline text) plain (parts-none is_newline text)

-- a block whose whole lines were taken
pub read-on : {L : Type 0} (has_taken : L → List Text → Type 0) (input left : Option Text) (old new : L) (held : Text) (at : ℕ)
    → ((seen : List Text) → has_taken old seen → has_taken new (seen ++ slice_split is_newline (take at held))) → IsUtf8 (take at held) → EndsAtNewline held at
    → HasRead has_taken input left old held → HasRead has_taken input left new (drop (at + 1) held)
read-on has_taken input left old new held at takes utf8 ends has = record {
  seen = has.seen ++ slice_split is_newline (take at held);
  taken = takes has.seen has.taken;
  plain = plain-taken has.seen (take at held) has.plain;
  utf8 = utf8-taken has.seen (take at held) has.utf8 utf8;
  consumed = subst (Consumes input left) (ap (text_of_ended has.seen) ends.0 ∙ sym (more-taken has.seen (take at held) (drop (at + 1) held))) has.consumed;
}

-- ---- newlines are counted

count-plain : (line : Text) → has_newline line ≡ false → count_by is_newline line ≡ 0
count-plain [] plain = refl
count-plain (b ∷ bs) plain = let parts = or_parts (is_newline b) (has_newline bs) plain in rw (parts.0, count-plain bs parts.1) refl

count-append : (a b : Text) → count_by is_newline (a ++ b) ≡ count_by is_newline a + count_by is_newline b
count-append a b = sum_by-append (λ x. cond (is_newline x) 1 0) a b

pub count-seen : (seen : List Text) → list_any has_newline seen ≡ false → count_by is_newline (text_of_ended seen []) ≡ length seen
count-seen seen plain = ap (count_by is_newline) (append-nil (flat_map ended seen)) ∙ count seen plain
  where
    count : (lines : List Text) → list_any has_newline lines ≡ false → count_by is_newline (flat_map ended lines) ≡ length lines
    count [] plain = refl
    count (line ∷ lines) plain =
        let parts = or_parts (has_newline line) (list_any has_newline lines) plain in
        let one : 0 + 1 + length lines ≡ length (line ∷ lines) = omega arith in
        count-append (line ++ 10 ∷ []) (flat_map ended lines) ∙ ap₂ (λ (a b : ℕ). a + b) (count-append line (10 ∷ []) ∙ ap (λ (n : ℕ). n + 1) (count-plain line parts.0)) (count lines parts.1) ∙ one

-- ---- where a text ceases to be UTF-8

-- the end of the text, or a newline
abbrev pub EndsLine : Text → Type 0
EndsLine rest = (rest ≡ []) ⊎ ((more : Text) × (rest ≡ 10 ∷ more))

take-past : (xs ys : Text) (k : ℕ) → length xs ≤ k → take k (xs ++ ys) ≡ xs ++ take (k - length xs) ys
take-past [] ys k within = let e : k ≡ k - 0 = omega arith in ap (λ (n : ℕ). take n ys) e
take-past (x ∷ xs) ys zero within = absurd (omega arith)
take-past (x ∷ xs) ys (suc k) within = let e : suc k - length (x ∷ xs) ≡ k - length xs = omega arith in rw e (ap (λ t. x ∷ t) (take-past xs ys k (omega arith)))

-- UTF-8 without UTF-8 at its front
behind-utf8 : (front rest : Text) → IsUtf8 front → IsUtf8 (front ++ rest) → IsUtf8 rest
behind-utf8 front rest utf8 all =
    let at : take (length front) (front ++ rest) ≡ front = take_at front rest (length front) refl in
    let within : length front ≤ length (front ++ rest) = omega (arith, length-append front rest) in
    subst IsUtf8 (drop_at front rest (length front) refl) (IsUtf8-drop (front ++ rest) (length front) all (IsCharBoundary-from_take (front ++ rest) (length front) all within (subst IsUtf8 (sym at) utf8)))

newline-at : (text more : Text) → get_or (text ++ 10 ∷ more) (length text) 0 ≡ 10
newline-at [] more = refl
newline-at (x ∷ text) more = newline-at text more

-- a text is UTF-8 if a front that reaches behind it is, and it ends there or a newline follows
line-utf8 : (text rest : Text) (k : ℕ) → EndsLine rest → length text < k → IsUtf8 (take k (text ++ rest)) → IsUtf8 text
line-utf8 text rest k (inl none) longer utf8 =
    subst IsUtf8 (ap (take k) (ap (λ r. text ++ r) none ∙ append-nil text) ∙ take_all k text (omega arith)) utf8
line-utf8 text rest k (inr more) longer utf8 =
    let e : k - length text ≡ suc (k - length text - 1) = omega arith in
    let cut : take k (text ++ rest) ≡ text ++ 10 ∷ take (k - length text - 1) more.0 =
    take-past text rest k (omega arith) ∙ ap (λ t. text ++ t) (ap (take (k - length text)) more.1 ∙ ap (λ (n : ℕ). take n (10 ∷ more.0)) e) in
    let all = subst IsUtf8 cut utf8 in
    let within : length text < length (text ++ 10 ∷ take (k - length text - 1) more.0) = omega (arith, length-append text (10 ∷ take (k - length text - 1) more.0)) in
    subst IsUtf8 (take_at text (10 ∷ take (k - length text - 1) more.0) (length text) refl)
    (IsUtf8-take (text ++ 10 ∷ take (k - length text - 1) more.0) (length text) all
    (IsCharBoundary-before_ascii (text ++ 10 ∷ take (k - length text - 1) more.0) (length text) within (omega (arith, newline-at text (take (k - length text - 1) more.0)))))

-- where a text ceases to be UTF-8, behind lines and before what follows it
valid-behind : (front text rest : Text) (n : ℕ) → IsUtf8 front → IsValidUpTo text n → EndsLine rest → IsValidUpTo (front ++ (text ++ rest)) (length front + n)
valid-behind front text rest n utf8 valid ends =
    let whole = length-append front (text ++ rest) in
    let behind = length-append text rest in
    let start : length front + n - length front ≡ n = omega arith in
    record {
      short = omega (arith, valid.short);
      front = subst IsUtf8 (sym (take-past front (text ++ rest) (length front + n) (omega arith) ∙ ap (λ (k : ℕ). front ++ take k (text ++ rest)) start
          ∙ ap (λ t. front ++ t) (take-append-le n text rest (omega (arith, valid.short))))) (IsUtf8-append front (take n text) utf8 valid.front);
      longest = λ m less good.
          let k = m - length front in
          let part = behind-utf8 front (take (m - length front) (text ++ rest)) utf8 (subst IsUtf8 (take-past front (text ++ rest) m (omega arith)) good) in
          elim (cases_lt (length text) (m - length front)) [
            | inl longer ↦ valid.longest (length text) valid.short (subst IsUtf8 (sym (take_all (length text) text (omega arith))) (line-utf8 text rest (m - length front) ends longer part))
            | inr within ↦ valid.longest (m - length front) (omega arith) (subst IsUtf8 (take-append-le (m - length front) text rest (omega arith)) part)
          ];
    }

-- the newlines before that are the lines and those of the text
line-behind : (seen : List Text) (text rest : Text) (n : ℕ) → list_any has_newline seen ≡ false → n ≤ length text
    → count_by is_newline (take (length (flat_map ended seen) + n) (flat_map ended seen ++ (text ++ rest))) ≡ length seen + count_by is_newline (take n text)
line-behind seen text rest n plain within =
    let front = flat_map ended seen in
    ap (count_by is_newline) (take-past front (text ++ rest) (length front + n) (omega arith))
    ∙ count-append front (take (length front + n - length front) (text ++ rest))
    ∙ ap₂ (λ (a b : ℕ). a + b) (sym (ap (count_by is_newline) (append-nil front)) ∙ count-seen seen plain)
    (ap (λ (k : ℕ). count_by is_newline (take k (text ++ rest))) (omega arith) ∙ ap (count_by is_newline) (take-append-le n text rest within))

-- a fault of what is behind the lines is one of the input
pub bad-behind : (input left : Option Text) (seen : List Text) (text rest : Text) (fault : Fault) → list_any has_newline seen ≡ false → IsUtf8 (text_of_ended seen [])
    → Consumes input left (text_of_ended seen (text ++ rest)) → ((more : Text) → left ≡ Some more → EndsLine (rest ++ more)) → IsNotUtf8 (length seen) (Some text) fault → IsNotUtf8 0 input fault
bad-behind None left seen text rest fault plain utf8 consumed ends bad = (bad.0, bad.1, tt)
bad-behind (Some all) None seen text rest fault plain utf8 consumed ends bad = absurd consumed
bad-behind (Some all) (Some more) seen text rest fault plain utf8 consumed ends bad =
    let front = flat_map ended seen in
    let n = bad.2.0 in
    let valid = bad.2.1 in
    let whole : all ≡ text_of_ended seen (text ++ (rest ++ more)) =
    consumed ∙ append_assoc (flat_map ended seen) (text ++ rest) more ∙ ap (λ t. flat_map ended seen ++ t) (append_assoc text rest more) in
    let is = valid-behind front text (rest ++ more) n (subst IsUtf8 (append-nil front) utf8) valid (ends more refl) in
    let counted = line-behind seen text (rest ++ more) n plain (omega (arith, valid.short)) in
    let line : bad.0 ≡ min (0 + (count_by is_newline (take (length front + n) (text_of_ended seen (text ++ (rest ++ more)))) + 1)) (2 ^ 64 - 1) = omega (arith, counted, bad.2.2) in
    (bad.0, bad.1, subst (λ t. IsBadLine 0 t bad.0) (sym whole) (length front + n, is, line))

-- the same where the number of lines was cut to what fits
pub at-most-before : (before n : ℕ) (text : Text) (fault : Fault) → n ≡ min before (2 ^ 64 - 1) → IsNotUtf8 n (Some text) fault → IsNotUtf8 before (Some text) fault
at-most-before before n text fault cut bad = (bad.0, bad.1, (bad.2.0, bad.2.1, omega (arith, cut, bad.2.2)))

-- ---- what is refused

-- the lines that end in a newline, and those of what is behind it
lines-behind : (seen : List Text) (text rest : Text) → list_any has_newline seen ≡ false → lines_of (text_of_ended seen (text ++ 10 ∷ rest)) ≡ (seen ++ slice_split is_newline text) ++ lines_of rest
lines-behind seen text rest plain = ap lines_of (sym (more-taken seen text rest)) ∙ ended-first (seen ++ slice_split is_newline text) rest (plain-taken seen text plain)

-- one of the lines up to a newline is refused, and so one of the input
refused-front : (Refuses : List Text → Text → Type 0) (input left : Option Text) (seen : List Text) (held : Text) (at : ℕ) → EndsAtNewline held at → list_any has_newline seen ≡ false
    → Consumes input left (text_of_ended seen held) → HasRefused Refuses (seen ++ slice_split is_newline (take at held)) → IfSome input (λ text. HasRefused Refuses (lines_of text))
refused-front Refuses None left seen held at ends plain consumed refused = tt
refused-front Refuses (Some all) None seen held at ends plain consumed refused = absurd consumed
refused-front Refuses (Some all) (Some more) seen held at ends plain consumed refused =
    let text = take at held in
    let rest = drop (at + 1) held in
    let front = flat_map ended seen in
    let whole : all ≡ text_of_ended seen (text ++ 10 ∷ (rest ++ more)) =
    consumed ∙ ap (λ t. text_of_ended seen t ++ more) ends.0 ∙ append_assoc front (text ++ 10 ∷ rest) more ∙ ap (λ t. front ++ t) (append_assoc text (10 ∷ rest) more) in
    subst (HasRefused Refuses) (sym (ap lines_of whole ∙ lines-behind seen text (rest ++ more) plain)) (more-refused Refuses (seen ++ slice_split is_newline text) (lines_of (rest ++ more)) refused)

-- ---- what was read

module _ {L : Type 0} (has_taken : L → List Text → Type 0) where
  pub none-read : (input : Option Text) (lines : L) (held : Text) → has_taken lines [] → held ≡ [] → HasRead has_taken input input lines held
  none-read input lines held taken empty = record {
    seen = [];
    taken = taken;
    plain = refl;
    utf8 = IsUtf8-nil;
    consumed = subst (Consumes input input) (sym empty) (Consumes-nil input);
  }

  -- bytes came behind what is held
  pub more-read : (input left now : Option Text) (lines : L) (held new more : Text) → new ≡ held ++ more → Consumes left now more
      → HasRead has_taken input left lines held → HasRead has_taken input now lines new
  more-read input left now lines held new more grown came has = record {
    seen = has.seen;
    taken = has.taken;
    plain = has.plain;
    utf8 = has.utf8;
    consumed = subst (Consumes input now) (append_assoc (flat_map ended has.seen) held more ∙ ap (text_of_ended has.seen) (sym grown))
        (Consumes-trans input left now (text_of_ended has.seen held) more has.consumed came);
  }

  pub kept-read : (input left now : Option Text) (lines : L) (held new : Text) → new ≡ held → Keeps left now → HasRead has_taken input left lines held → HasRead has_taken input now lines new
  kept-read input left now lines held new same kept has = record {
    seen = has.seen;
    taken = has.taken;
    plain = has.plain;
    utf8 = has.utf8;
    consumed = subst (λ t. Consumes input now (text_of_ended has.seen t)) (sym same) (Consumes-kept input left now (text_of_ended has.seen held) has.consumed kept);
  }

  -- what took the lines changed, and has taken the same
  pub taken-kept : (input left : Option Text) (old new : L) (held : Text) → ((lines : List Text) → has_taken old lines → has_taken new lines)
      → HasRead has_taken input left old held → HasRead has_taken input left new held
  taken-kept input left old new held same has = record {
    seen = has.seen;
    taken = same has.seen has.taken;
    plain = has.plain;
    utf8 = has.utf8;
    consumed = has.consumed;
  }

  -- the input is at its end
  pub all-read : (input left : Option Text) (lines : L) (rest : Text) → IsAtEnd left → has_newline rest ≡ false → HasRead has_taken input left lines rest
      → (seen : List Text) × has_taken lines seen × IsTextOf input seen rest
  all-read input left lines rest end plain has = (
    has.seen,
    has.taken,
    record {
      plain = has.plain;
      rest_plain = plain;
      whole = Consumes-whole input left (text_of_ended has.seen rest) (λ text. text ≡ text_of_ended has.seen rest) has.consumed end refl;
    },
  )

  -- a fault of the lines up to a newline
  pub front-fault : (Refuses : List Text → Text → Type 0) (input left : Option Text) (lines : L) (held : Text) (at : ℕ) (fault : Fault) → EndsAtNewline held at
      → (has : HasRead has_taken input left lines held) → IsTextFault Refuses has.seen (take at held) fault → IsLinesFault Refuses input fault
  front-fault Refuses input left lines held at fault ends has (inl taking) =
      inr (inl (take-weaker fault (refused-front Refuses input left has.seen held at ends has.plain has.consumed) taking))
  front-fault Refuses input left lines held at fault ends has (inr bad) =
      inr (inr (bad-behind input left has.seen (take at held) (10 ∷ drop (at + 1) held) fault has.plain has.utf8
      (subst (λ t. Consumes input left (text_of_ended has.seen t)) ends.0 has.consumed) (λ more is. inr (drop (at + 1) held ++ more, refl)) bad))

  -- a fault of what is behind the last newline
  pub rest-fault : (Refuses : List Text → Text → Type 0) (input left : Option Text) (lines : L) (rest : Text) (fault : Fault) → IsAtEnd left
      → (has : HasRead has_taken input left lines rest) → IsNotUtf8 (length has.seen) (Some rest) fault → IsLinesFault Refuses input fault
  rest-fault Refuses input left lines rest fault end has bad =
      inr (inr (bad-behind input left has.seen rest [] fault has.plain has.utf8
      (subst (λ t. Consumes input left (text_of_ended has.seen t)) (sym (append-nil rest)) has.consumed) (λ more is. inl (at-end left more end is)) bad))
    where
      at-end : (left : Option Text) (more : Text) → IsAtEnd left → left ≡ Some more → more ≡ []
      at-end None more end is = cc
      at-end (Some xs) more end is = sym (same_Some xs more is) ∙ end

-- the lines that were read from an input, and those of the rest, are those of all that it yields
pub input-lines : (Are : List Text → Type 0) (input : Option Text) (seen : List Text) (rest : Text) → IsTextOf input seen rest → Are (seen ++ lines_of rest) → IfSome input (λ all. Are (lines_of all))
input-lines Are None seen rest is are = tt
input-lines Are (Some all) seen rest is are = subst Are (sym (ap lines_of is.whole ∙ ended-first seen rest is.plain)) are

-- ---- the last newline

pub last-none : (text : Text) → IsLastByte (is_byte 10) text None → has_newline text ≡ false
last-none [] none = refl
last-none (b ∷ bs) none =
    let first : is_newline b ≡ false = not-true (is_newline b) (none 0 (omega arith) (omega arith)) in
    rw (first, last-none bs (λ k low high. none (suc k) (omega arith) (omega arith))) refl
  where
    not-true : (b : Bool) → (b ≡ true → ⊥) → b ≡ false
    not-true true h = absurd (h refl)
    not-true false h = refl

-- no newline from an index on
plain-from : (text : Text) (n : ℕ) → Nowhere (Passes (is_byte 10) text) n (length text) → has_newline (drop n text) ≡ false
plain-from text n none =
    last-none (drop n text) (λ k low high passes. none (n + k) (omega arith) (omega (arith, length-drop n text)) (ap (is_byte 10) (sym (get_or-drop n text k 0)) ∙ passes))

-- the last newline of what is behind a start, in the whole
pub last-some : (text : Text) (start at : ℕ) → IsLastByte (is_byte 10) (drop start text) (Some at) → EndsAtNewline text (start + at)
last-some text start at last =
    let within : start + at < length text = omega (arith, last.0.high, length-drop start text) in
    let byte : get_or text (start + at) 0 ≡ 10 = sym (get_or-drop start text at 0) ∙ eqb-true (get_or (drop start text) at 0) 10 last.1 in
    let step : start + (at + 1) ≡ start + at + 1 = omega arith in (
      sym (take-append-drop (start + at) text) ∙ ap (λ rest. take (start + at) text ++ rest) (drop_more text (start + at) 0 within ∙ ap (λ b. b ∷ drop (start + at + 1) text) byte),
      ap has_newline (sym (drop-drop (at + 1) start text ∙ ap (λ (k : ℕ). drop k text) step)) ∙ plain-from (drop start text) (at + 1) last.0.after,
    )

-- ---- what is held

-- a write behind an index keeps the length
pub length-put : (all part : Text) (at : ℕ) → at ≤ length all → length part ≡ length (take (length all - at) (drop at all)) → length (put_mid at (length all - at) all part) ≡ length all
length-put all part at within same =
    omega (
      arith,
      length-append (take at all) (part ++ post_of at (length all - at) all),
      length-append part (post_of at (length all - at) all),
      length-take-le at all within,
      length-take (length all - at) (drop at all),
      length-drop at all,
      length-drop (length all - at) (drop at all),
    )

-- of a part that was written at the end of what is held, the first bytes are held
pub held-more : (all part behind : Text) (end count : ℕ) → end ≤ length all → count ≤ length part → take (end + count) (take end all ++ (part ++ behind)) ≡ take end all ++ take count part
held-more all part behind end count within few =
    let front = length-take-le end all within in
    let left : end + count - length (take end all) ≡ count = omega (arith, front) in
    take-past (take end all) (part ++ behind) (end + count) (omega (arith, front))
    ∙ ap (λ (k : ℕ). take end all ++ take k (part ++ behind)) left ∙ ap (λ t. take end all ++ t) (take-append-le count part behind few)

pub joined-plain : (text : Text) (start : ℕ) → has_newline (take start text) ≡ false → has_newline (drop start text) ≡ false → has_newline text ≡ false
joined-plain text start front rest =
    ap has_newline (sym (take-append-drop start text)) ∙ list_any-append is_newline (take start text) (drop start text) ∙ ap₂ (λ a b. a || b) front rest
