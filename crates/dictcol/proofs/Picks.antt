-- What is picked byte by byte.
use Rattle.std.proofs.Common.{◌≡◌, ◌≢◌, ℕ, zero, suc, ◌+◌, ◌-◌, ◌^◌, ◌<◌, ◌≤◌, min, Bool, true, false, cond, eqb, ltb, List, [], ◌∷◌, ◌++◌, length, get_or, take, drop, set, Option, Some, None, option_map, inl, inr, refl, sym, ap, ap₂, subst, ◌∙◌, append_assoc, arith}
use Rattle.std.specs.Io.KnownBytes.{Consumes, Keeps, IsAtEnd}
use Rattle.std.specs.List.{slice_split, onto_first}
use Rattle.std.proofs.lemmas.Bool.{le-ltb, lt-ltb, ltb-false, ltb-true, cond-true, cond-false, ne_eqb, eq-eqb}
use Rattle.std.proofs.lemmas.Bool.Decides.{eqb_tells}
use Rattle.std.proofs.lemmas.List.{take_more, take_more_set, drop-set-lt, drop-drop, get_or-drop, append-nil}
use Rattle.std.proofs.lemmas.List.Splits.{length-slice_split, slice_split-cons_no, slice_split-cons_yes}
use Rattle.string_interner.specs.Text.{Text}
use Rattle.dictcol.specs.Lines.{is_newline}
use Rattle.dictcol.specs.Field.{parts_of, place_of, field_of, last_line, fields_of, field_left, last_left, lines_left, fields_left, picked_left, Picks}
use Rattle.dictcol.specs.declared.input.field.Field.{Field}
use Rattle.dictcol.specs.declared.input.field.Seen.{Seen}
use Rattle.dictcol.specs.declared.input.field.Seen.TheVariants as seen
use Rattle.dictcol.specs.declared.input.field.BegunLine.{BegunLine}

-- ---- the field in the rest of a line

part-later : (byte : ℕ) (parts : List Text) (at : ℕ) → 0 < at → get_or (onto_first byte parts) at [] ≡ get_or parts at []
part-later byte parts zero is = absurd (omega (arith, is))
part-later byte [] (suc at) is = refl
part-later byte (part ∷ parts) (suc at) is = refl

part-behind : (parts : List Text) (at : ℕ) → 0 < at → get_or ([] ∷ parts) at [] ≡ get_or parts (at - 1) []
part-behind parts zero is = absurd (omega (arith, is))
part-behind parts (suc at) is = ap (λ n. get_or parts n []) (omega arith)

no-part : (at : ℕ) → get_or {A = Text} ([] ∷ []) at [] ≡ []
no-part zero = refl
no-part (suc at) = refl

cond-same : {A : Type 0} (b : Bool) (x : A) → cond b x x ≡ x
cond-same true x = refl
cond-same false x = refl

module _ (field : Field) where
  abbrev place : ℕ
  place = place_of field

  -- the field in the parts of the rest
  abbrev left_in : ℕ → List Text → Text
  left_in passed parts = cond (ltb place passed) [] (get_or parts (place - passed) [])

  -- a line of which nothing was read
  whole-left : (line : Text) → field_left field 0 line ≡ field_of field line
  whole-left line = cond-false (ltb place 0) [] _ (le-ltb place 0 (omega arith)) ∙ ap (λ n. get_or (parts_of field line) n []) (omega arith)

  none-left : (passed : ℕ) → field_left field passed [] ≡ []
  none-left passed = ap (λ left. cond (ltb place passed) [] left) (no-part (place - passed)) ∙ cond-same (ltb place passed) []

  -- a byte between separators
  between : (passed byte : ℕ) (rest : Text) → eqb byte field.separator ≡ false → field_left field passed (byte ∷ rest) ≡ left_in passed (onto_first byte (parts_of field rest))
  between passed byte rest other = ap (left_in passed) (slice_split-cons_no (λ b. eqb b field.separator) byte rest other)

  -- one of another part
  of-other : (passed byte : ℕ) (rest : Text) → eqb byte field.separator ≡ false → passed ≢ place → field_left field passed (byte ∷ rest) ≡ field_left field passed rest
  of-other passed byte rest other not_here = between passed byte rest other ∙ by-place (ltb place passed) refl
    where
      by-place : (behind : Bool) → ltb place passed ≡ behind
          → cond behind [] (get_or (onto_first byte (parts_of field rest)) (place - passed) []) ≡ cond behind [] (get_or (parts_of field rest) (place - passed) [])
      by-place true e = refl
      by-place false e = part-later byte (parts_of field rest) (place - passed) (omega (arith, ltb-false place passed e, not_here))

  -- a separator
  of-separator : (passed more byte : ℕ) (rest : Text) → eqb byte field.separator ≡ true → more ≡ min (passed + 1) (2 ^ 64 - 1) → place < 2 ^ 64 - 1
      → field_left field passed (byte ∷ rest) ≡ field_left field more rest
  of-separator passed more byte rest is counted small =
      ap (left_in passed) (slice_split-cons_yes (λ b. eqb b field.separator) byte rest is) ∙ by-place (ltb place passed) refl
    where
      behind : place < more → [] ≡ field_left field more rest
      behind is = sym (cond-true (ltb place more) [] _ (lt-ltb place more is))

      by-place : (is : Bool) → ltb place passed ≡ is → cond is [] (get_or ([] ∷ parts_of field rest) (place - passed) []) ≡ field_left field more rest
      by-place true e = behind (omega (arith, counted, small, ltb-true place passed e))
      by-place false e = elim (eqb_tells passed place) [
        | inl same ↦
            let here : place - passed ≡ 0 = omega (arith, same.1) in
            ap (λ n. get_or ([] ∷ parts_of field rest) n []) here ∙ behind (omega (arith, counted, small, same.1))
        | inr other ↦
            let before = ltb-false place passed e in
            let one : place - passed - 1 ≡ place - more = omega (arith, counted, small, before, other.1) in
            part-behind (parts_of field rest) (place - passed) (omega (arith, before, other.1))
            ∙ ap (λ n. get_or (parts_of field rest) n []) one
            ∙ sym (cond-false (ltb place more) [] _ (le-ltb place more (omega (arith, counted, small, before, other.1))))
      ]

-- ---- the fields of the lines

-- what was seen once a byte came that is not of the field
abbrev pub seen_more : Seen → Seen
seen_more seen.Nothing = seen.Others
seen_more seen.Others = seen.Others
seen_more seen.Field = seen.Field

pub seen-first : (was : Seen) → was ≡ seen.Nothing → seen.Others ≡ seen_more was
seen-first was is = ap seen_more (sym is)

pub seen-later : (was : Seen) → was ≢ seen.Nothing → was ≡ seen_more was
seen-later seen.Nothing some = absurd (some refl)
seen-later seen.Others some = refl
seen-later seen.Field some = refl

last-dropped : (was : Seen) (byte : ℕ) (rest left : Text) → last_left was (byte ∷ rest) left ≡ last_left (seen_more was) rest left
last-dropped seen.Nothing byte rest left = refl
last-dropped seen.Others byte rest left = refl
last-dropped seen.Field byte rest left = refl

some-lines : (text : Text) → 0 < length (slice_split is_newline text)
some-lines text = omega (arith, length-slice_split is_newline text)

module _ (field : Field) where
  fresh-left : (begun : BegunLine) (lines : List Text) → begun.passed ≡ 0 → begun.seen ≡ seen.Nothing → lines_left field begun lines ≡ fields_of field lines
  fresh-left begun [] none nothing = refl
  fresh-left begun ([] ∷ []) none nothing = ap (λ was. last_left was [] (field_left field begun.passed [])) nothing
  fresh-left begun ((byte ∷ line) ∷ []) none nothing =
      ap₂ (λ was passed. last_left was (byte ∷ line) (field_left field passed (byte ∷ line))) nothing none ∙ ap last_line (whole-left field (byte ∷ line))
  fresh-left begun (line ∷ next ∷ lines) none nothing =
      ap (λ left. left ++ 10 ∷ fields_of field (next ∷ lines)) (ap (λ passed. field_left field passed line) none ∙ whole-left field line)

  at-newline : (old new : BegunLine) (lines : List Text) → 0 < length lines → new.passed ≡ 0 → new.seen ≡ seen.Nothing
      → lines_left field old ([] ∷ lines) ≡ 10 ∷ lines_left field new lines
  at-newline old new [] some none nothing = absurd (omega (arith, some))
  at-newline old new (line ∷ lines) some none nothing =
      ap (λ left. left ++ 10 ∷ fields_of field (line ∷ lines)) (none-left field old.passed) ∙ ap (λ left. 10 ∷ left) (sym (fresh-left new (line ∷ lines) none nothing))

  at-other : (old new : BegunLine) (byte : ℕ) (lines : List Text) → 0 < length lines → ((rest : Text) → field_left field old.passed (byte ∷ rest) ≡ field_left field new.passed rest)
      → new.seen ≡ seen_more old.seen → lines_left field old (onto_first byte lines) ≡ lines_left field new lines
  at-other old new byte [] some left was = absurd (omega (arith, some))
  at-other old new byte (rest ∷ []) some left was =
      ap (last_left old.seen (byte ∷ rest)) (left rest) ∙ last-dropped old.seen byte rest (field_left field new.passed rest)
      ∙ ap (λ it. last_left it rest (field_left field new.passed rest)) (sym was)
  at-other old new byte (rest ∷ next ∷ lines) some left was = ap (λ left. left ++ 10 ∷ fields_of field (next ∷ lines)) (left rest)

  -- a newline is picked
  pub newline-picked : (old new : BegunLine) (byte : ℕ) → byte ≡ 10 → new.passed ≡ 0 → new.seen ≡ seen.Nothing → Picks field old new (byte ∷ []) (byte ∷ [])
  newline-picked old new byte is none nothing rest =
      ap (lines_left field old) (slice_split-cons_yes is_newline byte rest (eq-eqb byte 10 is)) ∙ at-newline old new (slice_split is_newline rest) (some-lines rest) none nothing
      ∙ ap (λ b. b ∷ fields_left field new rest) (sym is)

  dropped : (old new : BegunLine) (byte : ℕ) → byte ≢ 10 → ((rest : Text) → field_left field old.passed (byte ∷ rest) ≡ field_left field new.passed rest) → new.seen ≡ seen_more old.seen
      → Picks field old new (byte ∷ []) []
  dropped old new byte within left was rest =
      ap (lines_left field old) (slice_split-cons_no is_newline byte rest (ne_eqb byte 10 within))
      ∙ at-other old new byte (slice_split is_newline rest) (some-lines rest) left was

  -- a separator is not
  pub separator-dropped : (old new : BegunLine) (byte : ℕ) → byte ≢ 10 → byte ≡ field.separator → new.passed ≡ min (old.passed + 1) (2 ^ 64 - 1) → place_of field < 2 ^ 64 - 1
      → new.seen ≡ seen_more old.seen → Picks field old new (byte ∷ []) []
  separator-dropped old new byte within is counted small =
      dropped old new byte within (λ rest. of-separator field old.passed new.passed byte rest (eq-eqb byte field.separator is) counted small)

  -- nor a byte of another part
  pub other-dropped : (old new : BegunLine) (byte : ℕ) → byte ≢ 10 → byte ≢ field.separator → old.passed ≢ place_of field → new.passed ≡ old.passed → new.seen ≡ seen_more old.seen
      → Picks field old new (byte ∷ []) []
  other-dropped old new byte within other not_here same =
      dropped old new byte within
      (λ rest. of-other field old.passed byte rest (ne_eqb byte field.separator other) not_here ∙ ap (λ passed. field_left field passed rest) (sym same))

  -- ---- many bytes

  pub Picks-trans : (old mid new : BegunLine) (bytes more kept too : Text) → Picks field old mid bytes kept → Picks field mid new more too → Picks field old new (bytes ++ more) (kept ++ too)
  Picks-trans old mid new bytes more kept too first then rest =
      ap (fields_left field old) (append_assoc bytes more rest) ∙ first (more ++ rest) ∙ ap (λ left. kept ++ left) (then rest) ∙ sym (append_assoc kept too (fields_left field new rest))

  Picks-same : (old new : BegunLine) (bytes more kept too : Text) → bytes ≡ more → kept ≡ too → Picks field old new more too → Picks field old new bytes kept
  Picks-same old new bytes more kept too same_bytes same_kept picks rest =
      ap (λ text. fields_left field old (text ++ rest)) same_bytes ∙ picks rest ∙ ap (λ text. text ++ fields_left field new rest) (sym same_kept)

-- Bytes of which the front is picked, and the others are those that came.
module _ (came bytes : Text) (at kept : ℕ) (inside : at < length came) (long : length bytes ≡ length came) (within : kept ≤ at) (behind : drop at bytes ≡ drop at came) where
  next-byte : get_or bytes at 0 ≡ get_or came at 0
  next-byte =
      let same : at ≡ at + 0 = omega arith in
      ap (λ n. get_or bytes n 0) same ∙ sym (get_or-drop at bytes 0 0) ∙ ap (λ text. get_or text 0 0) behind ∙ get_or-drop at came 0 0 ∙ ap (λ n. get_or came n 0) (sym same)

  pub behind-next : drop (at + 1) bytes ≡ drop (at + 1) came
  behind-next = sym (drop-drop 1 at bytes) ∙ ap (drop 1) behind ∙ drop-drop 1 at came

  -- the next of them goes to the front
  pub behind-put : (byte : ℕ) → drop (at + 1) (set bytes kept byte) ≡ drop (at + 1) came
  behind-put byte = drop-set-lt (at + 1) bytes kept byte (omega (arith, within)) ∙ behind-next

  module _ (field : Field) (old mid new : BegunLine) (so_far : Picks field old mid (take at came) (take kept bytes)) where
    one-more : take (at + 1) came ≡ take at came ++ get_or bytes at 0 ∷ []
    one-more = take_more came at 0 inside ∙ ap (λ byte. take at came ++ byte ∷ []) (sym next-byte)

    pub put-picked : Picks field mid new (get_or bytes at 0 ∷ []) (get_or bytes at 0 ∷ []) → Picks field old new (take (at + 1) came) (take (kept + 1) (set bytes kept (get_or bytes at 0)))
    put-picked picks =
        let byte = get_or bytes at 0 in
        Picks-same field old new _ _ _ _ one-more (take_more_set bytes kept byte (omega (arith, inside, long, within)))
        (Picks-trans field old mid new (take at came) (byte ∷ []) (take kept bytes) (byte ∷ []) so_far picks)

    pub drop-picked : Picks field mid new (get_or bytes at 0 ∷ []) [] → Picks field old new (take (at + 1) came) (take kept bytes)
    drop-picked picks =
        let byte = get_or bytes at 0 in
        Picks-same field old new _ _ _ _ one-more (sym (append-nil (take kept bytes))) (Picks-trans field old mid new (take at came) (byte ∷ []) (take kept bytes) [] so_far picks)

-- ---- the end of the text

pub last-ended : (field : Field) (begun : BegunLine) (buf : Text) → begun.seen ≡ seen.Others → 0 < length buf → fields_left field begun [] ≡ take 1 (set buf 0 10) ++ []
last-ended field begun [] is some = absurd (omega (arith, some))
last-ended field begun (byte ∷ buf) is some = ap (λ was. last_left was [] (field_left field begun.passed [])) is ∙ ap last_line (none-left field begun.passed)

-- ---- what is left to read

module _ (picked : Option Field) (field : Field) (is : picked ≡ Some field) (line new : BegunLine) where
  known-read : (start left now : Option Text) (came given : Text) → Keeps start (option_map (fields_left field line) left) → Consumes left now came → Picks field line new came given
      → Consumes start (option_map (fields_left field new) now) given
  known-read None left now came given kept read picks = tt
  known-read (Some text) None now came given kept read picks = absurd kept
  known-read (Some text) (Some input) None came given kept read picks = absurd read
  known-read (Some text) (Some input) (Some rest) came given kept read picks = sym kept ∙ ap (fields_left field line) read ∙ picks rest

  known-end : (start left now : Option Text) (given : Text) → Keeps start (option_map (fields_left field line) left) → Consumes left now [] → IsAtEnd now
      → fields_left field line [] ≡ given ++ fields_left field new [] → Consumes start (option_map (fields_left field new) now) given
  known-end None left now given kept read end last = tt
  known-end (Some text) None now given kept read end last = absurd kept
  known-end (Some text) (Some input) None given kept read end last = absurd read
  known-end (Some text) (Some input) (Some rest) given kept read end last =
      sym kept ∙ ap (fields_left field line) (read ∙ end) ∙ last ∙ ap (λ none. given ++ fields_left field new none) (sym end)

  -- bytes came of which these were picked
  pub picked-read : (start left now : Option Text) (came given : Text) → Keeps start (picked_left picked line left) → Consumes left now came → Picks field line new came given
      → Consumes start (picked_left picked new now) given
  picked-read start left now came given kept read picks =
      subst (λ it. Consumes start (picked_left it new now) given) (sym is) (known-read start left now came given (subst (λ it. Keeps start (picked_left it line left)) is kept) read picks)

  -- none came at the end
  pub picked-end : (start left now : Option Text) (given : Text) → Keeps start (picked_left picked line left) → Consumes left now [] → IsAtEnd now
      → fields_left field line [] ≡ given ++ fields_left field new [] → Consumes start (picked_left picked new now) given
  picked-end start left now given kept read end last =
      subst (λ it. Consumes start (picked_left it new now) given) (sym is) (known-end start left now given (subst (λ it. Keeps start (picked_left it line left)) is kept) read end last)

  at-end : (now : Option Text) → IsAtEnd now → fields_left field new [] ≡ [] → IsAtEnd (option_map (fields_left field new) now)
  at-end None end none = tt
  at-end (Some rest) end none = ap (fields_left field new) end ∙ none

  pub picked-all : (now : Option Text) → IsAtEnd now → fields_left field new [] ≡ [] → IsAtEnd (picked_left picked new now)
  picked-all now end none = subst (λ it. IsAtEnd (picked_left it new now)) (sym is) (at-end now end none)

pub Picks-nil : (field : Field) (line : BegunLine) → Picks field line line [] []
Picks-nil field line rest = refl
