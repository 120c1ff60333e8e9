-- The file that `encode` writes and `decode` reads: which value it is, and which lines it holds.
-- Cited by `file`, `format`, `stream`, `encode`, `decode` and `merge`.
use Rattle.std.specs.Prelude.{◌≡◌, ℕ, ◌<◌, List, [], ◌∷◌, ◌++◌, All, length, map, Bool, false, codes, ◌⊎◌, Option, Some, None, IfSome, option_map, option_and_then, slice_get}
use Rattle.std.specs.List.{list_any}
use Rattle.serde_json.specs.Data.{Data, boolean, array, object, Items, no_items, item, member, no_members}
use Rattle.serde_json.specs.Find.{get, as_number, as_u64}
use Rattle.serde_json.specs.Read.{read}
use Rattle.serde_json.specs.View.{items_of}
use Rattle.serde_json.specs.Written.{compact_text}
use Rattle.string_interner.specs.Text.{Text, IsDistinct}
use Rattle.string_interner.specs.Json.{json_of_texts, json_of_number}
use Rattle.string_column.specs.Column.{AreCodes, dictionary_of}
use Rattle.dictcol.specs.Fault.{IsNotUtf8, IsParseFault, IsSyntaxDamage, IsValueDamage}
use Rattle.dictcol.specs.Lines.{has_newline, text_of_lines, AreLines}
use Rattle.dictcol.specs.Places.{IsEarlyEnd}
use Rattle.dictcol.specs.declared.fault.Fault.{Fault}
use Rattle.dictcol.specs.declared.json_form.file.Parts.{Parts}

-- the object with these texts, numbers and boolean
abbrev pub column_file : List Text → List ℕ → Bool → Data
column_file dictionary numbers is_ended = object (member (codes "dictionary") (json_of_texts dictionary)
    (member (codes "final_newline") (boolean is_ended) (member (codes "lines") (array (items_of (map json_of_number numbers))) no_members)))

-- the value is the file of these lines: the distinct ones in the order of first appearance, for each line the index of
-- its text among them, and whether the last one ends in a newline
abbrev pub IsFileOf : List Text → Bool → Data → Type 0
IsFileOf lines is_ended value = (numbers : List ℕ) × (value ≡ column_file (dictionary_of lines) numbers is_ended) × AreCodes (dictionary_of lines) numbers lines

-- the text whose index this value is
abbrev pub indexed_text : List Text → Data → Option Text
indexed_text dictionary value = option_and_then (λ n. slice_get dictionary n) (option_and_then as_u64 (as_number value))

-- the texts whose indexes these are, if all are
abbrev pub indexed_texts : List Text → Items → Option (List Text)
indexed_texts dictionary no_items = Some []
indexed_texts dictionary (item value rest) = option_and_then (λ text. option_map (λ texts. text ∷ texts) (indexed_texts dictionary rest)) (indexed_text dictionary value)

-- each code is the index of a text
abbrev pub HaveEntries : List Text → List ℕ → Type 0
HaveEntries dictionary codes = All (λ code. code < length dictionary) codes

-- each code of these parts is the index of a text of theirs
abbrev pub AreWithin : {B S : Type 0} → Parts B S → Type 0
AreWithin parts = HaveEntries parts.dictionary.texts parts.codes.items

-- A value holds these lines, and whether the last one ends in a newline.
pub record HoldsLines (value : Data) (lines : List Text) (is_ended : Bool) : Type 0 where
  -- distinct texts, of one line each
  pub dictionary : List Text
  pub texts : get (codes "dictionary") value ≡ Some (json_of_texts dictionary)
  pub distinct : IsDistinct dictionary
  pub each_a_line : list_any has_newline dictionary ≡ false
  -- the lines are those at these indexes
  pub numbers : Items
  pub indexes : get (codes "lines") value ≡ Some (array numbers)
  pub picked : indexed_texts dictionary numbers ≡ Some lines
  pub end : get (codes "final_newline") value ≡ Some (boolean is_ended)

-- the text is the file of these lines: what it reads as, and that it has no space but the newline at its end
abbrev pub IsFileText : List Text → Bool → Text → Type 0
IsFileText lines is_ended text = (value : Data) × IsFileOf lines is_ended value × (read text ≡ Some value) × (text ≡ compact_text value ++ 10 ∷ [])

-- the text is the file of the lines of the bytes
abbrev pub IsColumnFile : Text → Text → Type 0
IsColumnFile bytes text = (lines : List Text) × (is_ended : Bool) × AreLines bytes lines is_ended × IsFileText lines is_ended text

-- a value holds the text of some lines
abbrev pub HoldsText : Data → Text → Type 0
HoldsText value text = (lines : List Text) × (is_ended : Bool) × HoldsLines value lines is_ended × (text ≡ text_of_lines lines is_ended)

-- the bytes are a file of these lines
abbrev pub FileHolds : Text → List Text → Bool → Type 0
FileHolds bytes lines is_ended = (value : Data) × HoldsLines value lines is_ended × (read bytes ≡ Some value)

-- the bytes are a file, and the text is what it holds
abbrev pub DecodesFile : Text → Text → Type 0
DecodesFile bytes text = (value : Data) × HoldsText value text × (read bytes ≡ Some value)

-- the bytes are JSON whose dictionary has these texts
abbrev pub HasDictionary : Text → List Text → Type 0
HasDictionary bytes texts = (value : Data) × (read bytes ≡ Some value) × (get (codes "dictionary") value ≡ Some (json_of_texts texts))

-- each of the inputs is a file, and the text is what they hold, one behind the other
abbrev pub HoldTogether : List (Option Text) → Text → Type 0
HoldTogether [] text = text ≡ []
HoldTogether (input ∷ inputs) text = (front : Text) × (rest : Text) × IfSome input (λ file. DecodesFile file front) × HoldTogether inputs rest × (text ≡ front ++ rest)

-- the bytes are no file
abbrev pub IsNoFile : Text → Type 0
IsNoFile bytes = (text : Text) → ¬ (DecodesFile bytes text)

-- the fault says that the bytes are no JSON, which they are not, and where they end if it says that they end early
abbrev pub IsJsonFault : Text → Fault → Type 0
IsJsonFault bytes fault = (read bytes ≡ None) × (IsEarlyEnd bytes fault ⊎ IsSyntaxDamage fault)

-- the fault says in which way the bytes are no file
abbrev pub IsFileDamage : Text → Fault → Type 0
IsFileDamage bytes fault = IsJsonFault bytes fault ⊎ (IsValueDamage fault × IsNoFile bytes)

-- the faults of reading all that an input yields as a file: it is not UTF-8, or those of reading a text as one, which may have too
-- many texts for this reason
abbrev pub IsFileFault : (Text → Type 0) → Option Text → Fault → Type 0
IsFileFault Crowds input fault =
    IsNotUtf8 0 input fault ⊎ ((text : Text) × IfSome input (λ all. text ≡ all) × IsParseFault (Crowds text) (IsFileDamage text) fault)
