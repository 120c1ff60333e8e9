-- Laws of files, for whoever doubts the definitions.
use Rattle.std.proofs.Common.{◌≡◌, ◌==◌, ◌⊎◌, ◌<◌, ℕ, Bool, List, [], ◌∷◌, ◌++◌, length, map, Some, inl, inr, sym, ap, ap₂, subst, ◌∙◌, arith}
use Rattle.std.specs.Prelude.{slice_get, slice_index_or}
use Rattle.std.specs.List.{filter}
use Rattle.std.proofs.lemmas.List.{append_assoc, length-append, map-append}
use Rattle.std.proofs.lemmas.Option.{same_Some, slice_get-get_or, slice_get_within}
use Rattle.string_interner.specs.Text.{Text}
use Rattle.string_interner.specs.Extend.{fresh}
use Rattle.string_column.specs.Column.{AreCodes, rows_of}
use Rattle.string_column.proofs.Lemmas.AreNumbered.{slice_get-append}
use Rattle.string_column.proofs.Lemmas.Rows.{codes-within, rows-are}
use Rattle.dictcol.specs.Counts.{counted}
use Rattle.dictcol.specs.Lines.{lines_of}
use Rattle.dictcol.specs.Fault.{IsNotUtf8, OfDictionary}
use Rattle.dictcol.specs.Plain.{plain_text, text_behind, IsDictionary, IsPlain, IsPlainFault, HoldPlain}
use Rattle.dictcol.specs.File.{HoldsText, IsColumnFile, DecodesFile}
use Rattle.dictcol.specs.declared.fault.Fault.{Fault}
use Rattle.dictcol.specs.declared.fault.Fault.TheVariants.{Memory}
use Rattle.dictcol.specs.Shards.{shard_of, shard_lines}
use Rattle.dictcol.specs.Field.{field_of, fields_text}
use Rattle.dictcol.specs.declared.input.field.Field.{Field}
use Rattle.dictcol.proofs.FieldsText.{fields-lines}
use Rattle.dictcol.proofs.HoldsLines.{holds-once, comes-back}
use Rattle.dictcol.proofs.ShardCounts.{counted-passed}
use Rattle.dictcol.proofs.PlainColumns.{all-both, file-lines, plain-behind, rows-longer, same-numbers}

-- a file is decoded to one text
pub decodes-once : (file text other : Text) → DecodesFile file text → DecodesFile file other → text ≡ other
decodes-once file text other is too =
    let same = subst (λ value. HoldsText value other) (same_Some too.0 is.0 (sym too.2 ∙ is.2)) too.1 in
    is.1.3 ∙ holds-once is.0 is.1.0 same.0 is.1.1 same.1 is.1.2 same.2 ∙ sym same.3

-- the file is that of what two files hold, one behind the other
abbrev IsMergeOf : Text → Text → Text → Type 0
IsMergeOf a b merged = (front : Text) × (back : Text) × DecodesFile a front × DecodesFile b back × IsColumnFile (front ++ back) merged

-- it is decoded to what they are decoded to
pub merge-decodes : (a b merged front back text : Text) → IsMergeOf a b merged → DecodesFile a front → DecodesFile b back → DecodesFile merged text → text ≡ front ++ back
merge-decodes a b merged front back text is a_is b_is merged_is =
    comes-back (is.0 ++ is.1) merged text is.4 merged_is
    ∙ ap (λ f. f ++ is.1) (decodes-once a is.0 front is.2 a_is) ∙ ap (λ g. front ++ g) (decodes-once b is.1 back is.3 b_is)

-- Merging is associative: either grouping is decoded alike.
pub merged-files-alike : (a b c ab bc left right text other : Text) → IsMergeOf a b ab → IsMergeOf ab c left → IsMergeOf b c bc → IsMergeOf a bc right
    → DecodesFile left text → DecodesFile right other → text ≡ other
merged-files-alike a b c ab bc left right text other ab_is left_is bc_is right_is text_is other_is =
    let ab_text = merge-decodes a b ab ab_is.0 ab_is.1 left_is.0 ab_is ab_is.2 ab_is.3 left_is.2 in
    let bc_text = merge-decodes b c bc ab_is.1 left_is.1 right_is.1 bc_is ab_is.3 left_is.3 right_is.3 in
    merge-decodes ab c left left_is.0 left_is.1 text left_is left_is.2 left_is.3 text_is
    ∙ ap (λ front. front ++ left_is.1) ab_text ∙ append_assoc ab_is.0 ab_is.1 left_is.1
    ∙ ap (λ back. ab_is.0 ++ back) (sym bc_text)
    ∙ sym (merge-decodes a bc right ab_is.0 right_is.1 other right_is ab_is.2 right_is.3 other_is)

-- The rows of plain columns are the earlier ones, and the lines of the text.
both-rows : (before : Text) (earlier : List ℕ) (was_cut : Bool) (text dictionary numbers : Text) (is_cut : Bool) (plain : IsPlain before earlier was_cut text dictionary numbers is_cut)
    → rows_of (plain.known ++ fresh plain.known plain.lines) (earlier ++ plain.numbers_are.0) ≡ rows_of plain.known earlier ++ plain.lines
both-rows before earlier was_cut text dictionary numbers is_cut plain =
    let entries = plain.known ++ fresh plain.known plain.lines in
    map-append (λ code. slice_index_or entries code []) earlier plain.numbers_are.0
    ∙ ap₂ (λ a b. a ++ b) (rows-longer plain.known (fresh plain.known plain.lines) earlier plain.earlier_are) (rows-are entries plain.numbers_are.0 plain.lines plain.numbers_are.1)

-- What was written as plain columns comes back behind what stood before it, and nothing else.
pub plain-comes-back : (before : Text) (earlier : List ℕ) (was_cut : Bool) (text dictionary numbers said : Text) (is_cut : Bool)
    → (plain : IsPlain before earlier was_cut text dictionary numbers is_cut) → HoldPlain dictionary numbers is_cut said → said ≡ text_behind (rows_of plain.known earlier) was_cut text
plain-comes-back before earlier was_cut text dictionary numbers said is_cut plain holds =
    let lines : holds.lines ≡ plain.known ++ fresh plain.known plain.lines =
    sym (file-lines holds.lines dictionary holds.lines_are) ∙ file-lines _ dictionary plain.dictionary_is.lines_are in
    let codes = same-numbers holds.codes_are (earlier ++ plain.numbers_are.0) numbers holds.numbers_are plain.numbers_are.2 in
    holds.text_is ∙ ap₂ plain_text (ap₂ rows_of lines codes ∙ both-rows before earlier was_cut text dictionary numbers is_cut plain) plain.is_cut_is
    ∙ plain-behind (rows_of plain.known earlier) was_cut text plain.lines plain.is_ended plain.lines_are

-- And it does come back.
pub plain-holds : (before : Text) (earlier : List ℕ) (was_cut : Bool) (text dictionary numbers : Text) (is_cut : Bool)
    → (plain : IsPlain before earlier was_cut text dictionary numbers is_cut) → HoldPlain dictionary numbers is_cut (text_behind (rows_of plain.known earlier) was_cut text)
plain-holds before earlier was_cut text dictionary numbers is_cut plain =
    let new = fresh plain.known plain.lines in
    let entries = plain.known ++ new in record {
      lines = entries;
      lines_are = plain.dictionary_is.lines_are;
      codes_are = earlier ++ plain.numbers_are.0;
      numbers_are = plain.numbers_are.2;
      within = all-both (λ code. code < length entries) earlier plain.numbers_are.0
          (λ i d inside. let below = plain.earlier_are i d inside in omega (arith, below, length-append plain.known new))
          (codes-within entries plain.numbers_are.0 plain.lines plain.numbers_are.1);
      text_is = sym (ap₂ plain_text (both-rows before earlier was_cut text dictionary numbers is_cut plain) plain.is_cut_is
          ∙ plain-behind (rows_of plain.known earlier) was_cut text plain.lines plain.is_ended plain.lines_are);
    }

codes-longer : (dictionary more : List Text) (codes : List ℕ) (rows : List Text) → AreCodes dictionary codes rows → AreCodes (dictionary ++ more) codes rows
codes-longer dictionary more [] [] are = tt
codes-longer dictionary more [] (row ∷ rows) are = absurd are
codes-longer dictionary more (code ∷ codes) [] are = absurd are
codes-longer dictionary more (code ∷ codes) (row ∷ rows) are = (slice_get-append dictionary more code row are.0, codes-longer dictionary more codes rows are.1)

-- Codes of lines in a dictionary from before are codes of the same lines in the new one.
pub old-codes-hold : (before : Text) (earlier : List ℕ) (was_cut : Bool) (text dictionary numbers : Text) (is_cut : Bool) (lines rows : List Text) (codes : List ℕ)
    → IsPlain before earlier was_cut text dictionary numbers is_cut → IsDictionary lines before → AreCodes lines codes rows → AreCodes (lines_of dictionary) codes rows
old-codes-hold before earlier was_cut text dictionary numbers is_cut lines rows codes plain is are =
    let same : lines ≡ plain.known = sym (file-lines lines before is.lines_are) ∙ file-lines plain.known before plain.before_is.lines_are in
    subst (λ ls. AreCodes ls codes rows) (sym (file-lines _ dictionary plain.dictionary_is.lines_are))
    (codes-longer plain.known (fresh plain.known plain.lines) codes rows (subst (λ ls. AreCodes ls codes rows) same are))

-- What is counted of a shard is what is counted of the whole, the lines of the shard alone.
pub shard-counts : (code : Text → ℕ) (count shard : ℕ) (lines : List Text) → counted (shard_lines code count shard lines) ≡ filter (λ row. shard_of code count row.1 == shard) (counted lines)
shard-counts code count shard lines = counted-passed (λ line. shard_of code count line == shard) lines

-- Plain columns that hold a text are never called damaged.
pub plain-undamaged : (dictionary numbers text : Text) (is_cut : Bool) (fault : Fault) → HoldPlain dictionary numbers is_cut text → IsPlainFault dictionary numbers fault
    → OfDictionary (IsNotUtf8 0 (Some dictionary)) fault ⊎ (fault ≡ Memory)
plain-undamaged dictionary numbers text is_cut fault holds (inl (inl bad)) = inl bad
plain-undamaged dictionary numbers text is_cut fault holds (inl (inr (inl memory))) = inr memory
plain-undamaged dictionary numbers text is_cut fault holds (inl (inr (inr cut))) = absurd (cut.1 holds.lines holds.lines_are)
plain-undamaged dictionary numbers text is_cut fault holds (inr (lines, is, inl (inl memory))) = inr memory
plain-undamaged dictionary numbers text is_cut fault holds (inr (lines, is, inl (inr damage))) = absurd (damage.1 holds.codes_are holds.numbers_are)
plain-undamaged dictionary numbers text is_cut fault holds (inr (lines, is, inr (codes, npy, (index, told, outside)))) =
    let same = same-numbers holds.codes_are codes numbers holds.numbers_are npy in
    let read : slice_get holds.codes_are index ≡ Some outside.code = ap (λ ns. slice_get ns index) same ∙ outside.stands in
    let within = slice_get_within holds.codes_are index outside.code read in
    let code = same_Some _ _ (sym (slice_get-get_or holds.codes_are index 0 within) ∙ read) in
    let count = ap length (sym (file-lines holds.lines dictionary holds.lines_are) ∙ file-lines lines dictionary is) in
    let above = outside.outside in
    let below = holds.within index 0 within in
    absurd (omega (arith, code, count, above, below))

-- What is read of one field of each line has these fields as its lines.
pub fields-are-lines : (field : Field) (text : Text) → lines_of (fields_text field text) ≡ map (field_of field) (lines_of text)
fields-are-lines = fields-lines
