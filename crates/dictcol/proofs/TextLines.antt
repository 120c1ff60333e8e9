-- A text as ended lines and a rest: what is appended to it, and that its lines are these.
use Rattle.std.proofs.Common.{◌≡◌, ◌≢◌, ℕ, zero, suc, ◌+◌, ◌-◌, ◌≤◌, nat_lt, true, false, ◌||◌, List, [], ◌∷◌, ◌++◌, length, take, drop, Option, Some, None, Result, Ok, Err, option_map, option_and_then, refl, sym, ap, ap₂, ◌∙◌, arith}
use Rattle.std.specs.Prelude.{slice_get, slice_range}
use Rattle.std.specs.List.{list_any, join_with_byte, flat_map}
use Rattle.std.proofs.lemmas.Bool.{lt-ltb, or_parts, true≢false}
use Rattle.std.proofs.lemmas.List.{append-nil, append_assoc, take_all, length-drop, take-append-drop}
use Rattle.std.proofs.lemmas.List.Folds.{list_any-append}
use Rattle.std.proofs.lemmas.Grind.{flat_map-append}
use Rattle.std.proofs.lemmas.Option.{same_Some}
use Rattle.serde_json.specs.Data.{Items, no_items, item}
use Rattle.serde_json.specs.Find.{as_number, as_u64}
use Rattle.string_interner.specs.Text.{Text}
use Rattle.string_interner.specs.Numbering.{Numbering}
use Rattle.string_interner.specs.declared.backend.InternError.{InternError}
use Rattle.string_column.specs.Column.{AppendsRows}
use Rattle.string_column.proofs.Lemmas.Recodes.{range-more}
use Rattle.dictcol.specs.File.{indexed_text, indexed_texts}
use Rattle.dictcol.specs.Lines.{is_newline, behind_newline, text_of_ended, text_of_lines, has_newline, lines_of, AreLines}

abbrev pub ended : Text → Text
ended line = line ++ 10 ∷ []

-- ---- what is appended

pub more-rest : (lines : List Text) (rest text : Text) → text_of_ended lines (rest ++ text) ≡ text_of_ended lines rest ++ text
more-rest lines rest text = sym (append_assoc (flat_map ended lines) rest text)

pub ended-push : (lines : List Text) (line : Text) → flat_map ended (lines ++ line ∷ []) ≡ flat_map ended lines ++ (line ++ 10 ∷ [])
ended-push lines line = flat_map-append ended lines (line ∷ []) ∙ ap (λ one. flat_map ended lines ++ one) (append-nil (line ++ 10 ∷ []))

pub one-ended : (lines : List Text) (rest : Text) → text_of_ended (lines ++ rest ∷ []) [] ≡ text_of_ended lines rest ++ 10 ∷ []
one-ended lines rest = append-nil (flat_map ended (lines ++ rest ∷ [])) ∙ ended-push lines rest ∙ sym (append_assoc (flat_map ended lines) rest (10 ∷ []))

shift : (middle : List Text) (last : Text) → flat_map behind_newline (middle ++ last ∷ []) ≡ 10 ∷ (flat_map ended middle ++ last)
shift [] last = ap (λ xs. 10 ∷ xs) (append-nil last)
shift (line ∷ lines) last =
    ap (λ rest. 10 ∷ line ++ rest) (shift lines last)
    ∙ ap (λ xs. 10 ∷ xs) (sym (append_assoc line (10 ∷ []) (flat_map ended lines ++ last)) ∙ sym (append_assoc (line ++ 10 ∷ []) (flat_map ended lines) last))

-- the rows but the first are those from the second to before the last, and the last
pub further-rows : (rows : List Text) (end : ℕ) (last : Text) → 1 ≤ end → end + 1 ≡ length rows → slice_get rows end ≡ Some last → drop 1 rows ≡ slice_range rows 1 end ++ last ∷ []
further-rows rows end last some whole at =
    sym (take_all (end + 1 - 1) (drop 1 rows) (omega (arith, whole, length-drop 1 rows))) ∙ range-more rows 1 end last some at

pub more-rows : (lines rows new : List Text) (rest : Text) (end : ℕ) (last : Text) → 1 ≤ end → end + 1 ≡ length rows → slice_get rows end ≡ Some last
    → new ≡ (lines ++ rest ∷ []) ++ slice_range rows 1 end → text_of_ended new [] ++ last ≡ text_of_ended lines rest ++ flat_map behind_newline (drop 1 rows)
more-rows lines rows new rest end last some whole at put =
    let middle = slice_range rows 1 end in
    let front = flat_map ended lines in
    ap (λ ls. text_of_ended ls [] ++ last) put
    ∙ ap (λ text. text ++ last) (append-nil (flat_map ended ((lines ++ rest ∷ []) ++ middle)) ∙ flat_map-append ended (lines ++ rest ∷ []) middle ∙ ap (λ text. text ++ flat_map ended middle) (ended-push lines rest))
    ∙ append_assoc (front ++ (rest ++ 10 ∷ [])) (flat_map ended middle) last
    ∙ append_assoc front (rest ++ 10 ∷ []) (flat_map ended middle ++ last)
    ∙ ap (λ text. front ++ text) (append_assoc rest (10 ∷ []) (flat_map ended middle ++ last))
    ∙ sym (append_assoc front rest (10 ∷ (flat_map ended middle ++ last)))
    ∙ ap (λ text. text_of_ended lines rest ++ text) (sym (ap (flat_map behind_newline) (further-rows rows end last some whole at) ∙ shift middle last))

-- lines with newlines between them
pub join-further : (first : Text) (lines : List Text) → join_with_byte 10 (first ∷ lines) ≡ first ++ flat_map behind_newline lines
join-further first [] = sym (append-nil first)
join-further first (line ∷ lines) = ap (λ rest. first ++ 10 ∷ rest) (join-further line lines)

-- ---- no line has a newline

pub push-plain : (lines : List Text) (line : Text) → list_any has_newline lines ≡ false → has_newline line ≡ false → list_any has_newline (lines ++ line ∷ []) ≡ false
push-plain lines line plain one = list_any-append has_newline lines (line ∷ []) ∙ ap₂ (λ a b. a || (b || false)) plain one

pub both-plain : (lines more : List Text) → list_any has_newline lines ≡ false → list_any has_newline more ≡ false → list_any has_newline (lines ++ more) ≡ false
both-plain lines more plain too = list_any-append has_newline lines more ∙ ap₂ (λ a b. a || b) plain too

pub front-plain : (front rest : List Text) → list_any has_newline (front ++ rest) ≡ false → (list_any has_newline front ≡ false) × (list_any has_newline rest ≡ false)
front-plain front rest plain = or_parts (list_any has_newline front) (list_any has_newline rest) (sym (list_any-append has_newline front rest) ∙ plain)

pub further-plain : (rows : List Text) → list_any has_newline rows ≡ false → list_any has_newline (drop 1 rows) ≡ false
further-plain [] plain = refl
further-plain (row ∷ rows) plain = (or_parts (has_newline row) (list_any has_newline rows) plain).1

pub text-plain : (texts : List Text) (i : ℕ) (text : Text) → list_any has_newline texts ≡ false → slice_get texts i ≡ Some text → has_newline text ≡ false
text-plain [] i text plain at = absurd (cc)
text-plain (t ∷ ts) zero text plain at = ap has_newline (sym (same_Some _ _ at)) ∙ (or_parts (has_newline t) (list_any has_newline ts) plain).0
text-plain (t ∷ ts) (suc i) text plain at = text-plain ts i text (or_parts (has_newline t) (list_any has_newline ts) plain).1 at

module _ (dictionary : List Text) (plain : list_any has_newline dictionary ≡ false) where
  entry-plain : (n : Option ℕ) (text : Text) → option_and_then (λ i. slice_get dictionary i) n ≡ Some text → has_newline text ≡ false
  entry-plain None text is = absurd (cc)
  entry-plain (Some i) text is = text-plain dictionary i text plain is

  one-picked : (o : Option Text) (p : Option (List Text)) (lines : List Text) → ((text : Text) → o ≡ Some text → has_newline text ≡ false)
      → ((texts : List Text) → p ≡ Some texts → list_any has_newline texts ≡ false)
      → option_and_then (λ text. option_map (λ texts. text ∷ texts) p) o ≡ Some lines → list_any has_newline lines ≡ false
  one-picked None p lines one more e = absurd (cc)
  one-picked (Some text) None lines one more e = absurd (cc)
  one-picked (Some text) (Some texts) lines one more e = ap (list_any has_newline) (sym (same_Some _ _ e)) ∙ ap₂ (λ a b. a || b) (one text refl) (more texts refl)

  -- the lines that numbers pick from such texts
  pub picked-plain : (numbers : Items) (lines : List Text) → indexed_texts dictionary numbers ≡ Some lines → list_any has_newline lines ≡ false
  picked-plain no_items lines picked = ap (list_any has_newline) (sym (same_Some _ _ picked))
  picked-plain (item value rest) lines picked =
      one-picked (indexed_text dictionary value) (indexed_texts dictionary rest) lines (entry-plain (option_and_then as_u64 (as_number value))) (picked-plain rest) picked

-- ---- the lines of the text

pub line-first : (line more : Text) → has_newline line ≡ false → lines_of (line ++ 10 ∷ more) ≡ line ∷ lines_of more
line-first [] more plain = refl
line-first (b ∷ bs) more plain =
    let parts = or_parts (is_newline b) (has_newline bs) plain in rw (parts.0, line-first bs more parts.1) refl

line-alone : (b : ℕ) (bs : Text) → has_newline (b ∷ bs) ≡ false → lines_of (b ∷ bs) ≡ (b ∷ bs) ∷ []
line-alone b [] plain = let parts = or_parts (is_newline b) false plain in rw parts.0 refl
line-alone b (d ∷ bs) plain = let parts = or_parts (is_newline b) (has_newline (d ∷ bs)) plain in rw (parts.0, line-alone d bs parts.1) refl

-- a line that no newline ends
pub one-line : (line : Text) → has_newline line ≡ false → line ≢ [] → lines_of line ≡ line ∷ []
one-line [] plain some = absurd (some refl)
one-line (b ∷ bs) plain some = line-alone b bs plain

pub ended-first : (lines : List Text) (rest : Text) → list_any has_newline lines ≡ false → lines_of (text_of_ended lines rest) ≡ lines ++ lines_of rest
ended-first [] rest plain = refl
ended-first (line ∷ lines) rest plain =
    let parts = or_parts (has_newline line) (list_any has_newline lines) plain in
    ap lines_of (append_assoc (line ++ 10 ∷ []) (flat_map ended lines) rest ∙ append_assoc line (10 ∷ []) (flat_map ended lines ++ rest))
    ∙ line-first line (flat_map ended lines ++ rest) parts.0 ∙ ap (λ ls. line ∷ ls) (ended-first lines rest parts.1)

pub ended-joined : (line : Text) (lines : List Text) → flat_map ended (line ∷ lines) ≡ join_with_byte 10 (line ∷ lines) ++ 10 ∷ []
ended-joined line [] = append-nil (line ++ 10 ∷ [])
ended-joined line (next ∷ lines) =
    ap (λ rest. (line ++ 10 ∷ []) ++ rest) (ended-joined next lines) ∙ append_assoc line (10 ∷ []) (join_with_byte 10 (next ∷ lines) ++ 10 ∷ [])
    ∙ sym (append_assoc line (10 ∷ join_with_byte 10 (next ∷ lines)) (10 ∷ []))

-- the text of ended lines, of which there is one
pub ended-lines : (lines : List Text) (rest : Text) → lines ≢ [] → length rest ≡ 0 → text_of_ended lines rest ≡ text_of_lines lines true
ended-lines lines (b ∷ bs) some none = absurd (cc)
ended-lines [] [] some none = absurd (some refl)
ended-lines (line ∷ lines) [] some none = append-nil (flat_map ended (line ∷ lines)) ∙ ended-joined line lines

-- the empty text
pub no-text : (lines : List Text) (rest : Text) → lines ≡ [] → length rest ≡ 0 → text_of_ended lines rest ≡ []
no-text lines (b ∷ bs) empty none = absurd (cc)
no-text (line ∷ lines) [] empty none = absurd (cc)
no-text [] [] empty none = refl

-- a text without a rest
pub are-ended : (lines : List Text) (rest : Text) → list_any has_newline lines ≡ false → length rest ≡ 0 → AreLines (text_of_ended lines rest) lines (nat_lt 0 (length lines))
are-ended lines (b ∷ bs) plain none = absurd (cc)
are-ended [] [] plain none = record { lines_are = refl; body = []; whole = refl; end = λ front e. absurd (no-push front e) }
  where
    no-push : (front : Text) → [] ≡ front ++ 10 ∷ [] → ⊥
    no-push [] e = cc
    no-push (x ∷ front) e = cc
are-ended (line ∷ lines) [] plain none =
    let some : nat_lt 0 (length (line ∷ lines)) ≡ true = lt-ltb 0 (length (line ∷ lines)) (omega arith) in
    rw some (record {
      lines_are = sym (ended-first (line ∷ lines) [] plain ∙ append-nil (line ∷ lines));
      body = join_with_byte 10 (line ∷ lines);
      whole = append-nil (flat_map ended (line ∷ lines)) ∙ ended-joined line lines;
      end = λ front e. refl;
    })

abbrev last_or : ℕ → Text → ℕ
last_or d [] = d
last_or d (x ∷ xs) = last_or x xs

last-push : (d x : ℕ) (xs : Text) → last_or d (xs ++ x ∷ []) ≡ x
last-push d x [] = refl
last-push d x (y ∷ xs) = last-push y x xs

last-behind : (d : ℕ) (xs : Text) (b : ℕ) (bs : Text) → last_or d (xs ++ b ∷ bs) ≡ last_or b bs
last-behind d [] b bs = refl
last-behind d (x ∷ xs) b bs = last-behind x xs b bs

last-plain : (b : ℕ) (bs : Text) → has_newline (b ∷ bs) ≡ false → is_newline (last_or b bs) ≡ false
last-plain b [] plain = (or_parts (is_newline b) false plain).0
last-plain b (d ∷ bs) plain = last-plain d bs (or_parts (is_newline b) (has_newline (d ∷ bs)) plain).1

-- a text with a rest
pub are-rest : (lines new : List Text) (rest : Text) → list_any has_newline lines ≡ false → has_newline rest ≡ false → rest ≢ [] → new ≡ lines ++ rest ∷ [] → AreLines (text_of_ended lines rest) new false
are-rest lines new [] plain too some put = absurd (some refl)
are-rest lines new (b ∷ bs) plain too some put = record {
  lines_are = put ∙ sym (ended-first lines (b ∷ bs) plain ∙ ap (λ ls. lines ++ ls) (line-alone b bs too));
  body = text_of_ended lines (b ∷ bs);
  whole = sym (append-nil (text_of_ended lines (b ∷ bs)));
  end = λ front e.
      let last : last_or b bs ≡ 10 = sym (last-behind 0 (flat_map ended lines) b bs) ∙ ap (last_or 0) e ∙ last-push 0 10 front in
      absurd (true≢false (sym (ap is_newline last) ∙ last-plain b bs too));
}

-- ---- what is appended to lines stays without newlines

pub range-plain : (rows : List Text) (start end : ℕ) → list_any has_newline rows ≡ false → list_any has_newline (slice_range rows start end) ≡ false
range-plain rows start end plain =
    let behind = (front-plain (take start rows) (drop start rows) (ap (list_any has_newline) (take-append-drop start rows) ∙ plain)).1 in
    (front-plain (take (end - start) (drop start rows)) (drop (end - start) (drop start rows)) (ap (list_any has_newline) (take-append-drop (end - start) (drop start rows)) ∙ behind)).0

pub appends-plain : {S : Type 0} (numbering : Numbering S) (old rows new : List Text) (outcome : Result (Unit {0}) InternError) → AppendsRows numbering old rows outcome new
    → list_any has_newline old ≡ false → list_any has_newline rows ≡ false → list_any has_newline new ≡ false
appends-plain numbering old rows new (Ok _) appends plain too = ap (list_any has_newline) appends ∙ both-plain old rows plain too
appends-plain numbering old rows new (Err error) (front, refused, rest, whole, put, refusal) plain too =
    let front-is = (front-plain front (refused ∷ rest) (ap (list_any has_newline) (sym whole) ∙ too)).0 in
    ap (list_any has_newline) put ∙ both-plain old front plain front-is

-- no further rows
pub no-further : (text : Text) (rows : List Text) → length rows ≤ 1 → text ≡ text ++ flat_map behind_newline (drop 1 rows)
no-further text [] short = sym (append-nil text)
no-further text (row ∷ []) short = sym (append-nil text)
no-further text (row ∷ next ∷ rows) short = absurd (omega (arith, short))

-- the first row, and the further ones behind it
pub no-rows : (text : Text) (rows : List Text) → slice_get rows 0 ≡ None → text ≡ text ++ join_with_byte 10 rows
no-rows text [] none = sym (append-nil text)
no-rows text (row ∷ rows) none = absurd (cc)

pub rows-joined : (text : Text) (rows : List Text) (first : Text) → slice_get rows 0 ≡ Some first → (text ++ first) ++ flat_map behind_newline (drop 1 rows) ≡ text ++ join_with_byte 10 rows
rows-joined text [] first at = absurd (cc)
rows-joined text (row ∷ rows) first at =
    append_assoc text first (flat_map behind_newline rows)
    ∙ ap (λ line. text ++ (line ++ flat_map behind_newline rows)) (sym (same_Some _ _ at)) ∙ ap (λ rest. text ++ rest) (sym (join-further row rows))
