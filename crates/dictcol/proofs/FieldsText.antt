-- The lines of the fields of lines.
use Rattle.std.proofs.Common.{◌≡◌, ℕ, zero, suc, ◌<◌, Bool, true, false, ◌||◌, cond, eqb, List, [], ◌∷◌, length, get_or, map, refl, sym, ap, ◌∙◌, arith}
use Rattle.std.specs.List.{list_any, slice_split, onto_first}
use Rattle.std.proofs.lemmas.Bool.{or_parts}
use Rattle.std.proofs.lemmas.List.Splits.{length-slice_split}
use Rattle.string_interner.specs.Text.{Text}
use Rattle.dictcol.specs.Lines.{is_newline, has_newline, lines_of}
use Rattle.dictcol.specs.Field.{parts_of, place_of, field_of, last_line, fields_of, fields_text}
use Rattle.dictcol.specs.declared.input.field.Field.{Field}
use Rattle.dictcol.proofs.LinesOf.{parts-none}
use Rattle.dictcol.proofs.TextLines.{line-first, one-line}

-- ---- the lines of a text are its parts between newlines, but for an empty last one

abbrev without_empty_last : List Text → List Text
without_empty_last [] = []
without_empty_last ([] ∷ []) = []
without_empty_last ((byte ∷ line) ∷ []) = (byte ∷ line) ∷ []
without_empty_last (line ∷ next ∷ lines) = line ∷ without_empty_last (next ∷ lines)

more-parts : (is_end : Bool) (byte : ℕ) (parts : List Text) → 0 < length parts
    → cond is_end ([] ∷ without_empty_last parts) (onto_first byte (without_empty_last parts)) ≡ without_empty_last (cond is_end ([] ∷ parts) (onto_first byte parts))
more-parts is_end byte [] some = absurd (omega (arith, some))
more-parts true byte (part ∷ parts) some = refl
more-parts false byte ([] ∷ []) some = refl
more-parts false byte ((first ∷ part) ∷ []) some = refl
more-parts false byte (part ∷ next ∷ parts) some = refl

lines-parts : (text : Text) → lines_of text ≡ without_empty_last (slice_split is_newline text)
lines-parts [] = refl
lines-parts (byte ∷ text) =
    ap (λ lines. cond (eqb byte 10) ([] ∷ lines) (onto_first byte lines)) (lines-parts text)
    ∙ more-parts (eqb byte 10) byte (slice_split is_newline text) (omega (arith, length-slice_split is_newline text))

-- ---- a part of a line has no newline, if the line has none

module _ (test cut : ℕ → Bool) where
  one-part-plain : (is_cut : Bool) (x : ℕ) (parts : List (List ℕ)) → test x ≡ false → list_any (list_any test) parts ≡ false → list_any (list_any test) (cond is_cut ([] ∷ parts) (onto_first x parts)) ≡ false
  one-part-plain true x parts plain_x plain = plain
  one-part-plain false x [] plain_x plain = ap (λ b. (b || false) || false) plain_x
  one-part-plain false x (part ∷ parts) plain_x plain = ap (λ b. (b || list_any test part) || list_any (list_any test) parts) plain_x ∙ plain

  parts-plain : (xs : List ℕ) → list_any test xs ≡ false → list_any (list_any test) (slice_split cut xs) ≡ false
  parts-plain [] plain = refl
  parts-plain (x ∷ xs) plain =
      let both = or_parts (test x) (list_any test xs) plain in one-part-plain (cut x) x (slice_split cut xs) both.0 (parts-plain xs both.1)

  part-plain : (parts : List (List ℕ)) (at : ℕ) → list_any (list_any test) parts ≡ false → list_any test (get_or parts at []) ≡ false
  part-plain [] at plain = refl
  part-plain (part ∷ parts) zero plain = (or_parts (list_any test part) (list_any (list_any test) parts) plain).0
  part-plain (part ∷ parts) (suc at) plain = part-plain parts at (or_parts (list_any test part) (list_any (list_any test) parts) plain).1

module _ (field : Field) where
  field-plain : (line : Text) → has_newline line ≡ false → has_newline (field_of field line) ≡ false
  field-plain line plain =
      let is_separator : ℕ → Bool = λ byte. eqb byte field.separator in
      part-plain is_newline is_separator (parts_of field line) (place_of field) (parts-plain is_newline is_separator line plain)

  last-one : (line : Text) → has_newline line ≡ false → lines_of (last_line line) ≡ line ∷ []
  last-one [] plain = refl
  last-one (byte ∷ line) plain = one-line (byte ∷ line) plain (λ e. absurd (cc))

  lines-fields : (lines : List Text) → list_any has_newline lines ≡ false → lines_of (fields_of field lines) ≡ map (field_of field) (without_empty_last lines)
  lines-fields [] plain = refl
  lines-fields ([] ∷ []) plain = refl
  lines-fields ((byte ∷ line) ∷ []) plain = last-one (field_of field (byte ∷ line)) (field-plain (byte ∷ line) (or_parts (has_newline (byte ∷ line)) false plain).0)
  lines-fields (line ∷ next ∷ lines) plain =
      let both = or_parts (has_newline line) (list_any has_newline (next ∷ lines)) plain in
      line-first (field_of field line) (fields_of field (next ∷ lines)) (field-plain line both.0) ∙ ap (λ rest. field_of field line ∷ rest) (lines-fields (next ∷ lines) both.1)

  -- The lines of the fields of a text are the fields of its lines.
  pub fields-lines : (text : Text) → lines_of (fields_text field text) ≡ map (field_of field) (lines_of text)
  fields-lines text = lines-fields (slice_split is_newline text) (parts-none is_newline text) ∙ ap (map (field_of field)) (sym (lines-parts text))
