-- Why an interner is not read from JSON, and the JSON form of texts.
use Rattle.std.proofs.Common.{◌≡◌, ℕ, List, [], ◌∷◌, map, false, refl, ap, ◌∙◌, Some, Ok, Err}
use Rattle.std.specs.Prelude.{Result}
use Rattle.std.specs.Str.{IsUtf8}
use Rattle.serde_json.specs.Data.{Data, string}
use Rattle.serde_json.specs.Read.{read as json_read}
use Rattle.serde_json.specs.View.{items_of}
use Rattle.serde_json.specs.Written.{compact_text, has_float, items_have_float}
use Rattle.string_interner.specs.Text.{Text}
use Rattle.string_interner.specs.Json.{json_of_texts}
use Rattle.string_interner.specs.declared.json.JsonError.{JsonError}
use Rattle.handles.specs.Calls.{IsValueOf, ReadsJson, ReadsValue, RefusesJson, no_kind, no_json, no_memory, not_read}
use Rattle.handles.specs.Kind.{code_of_kind}
use Rattle.handles.specs.declared.any.AnyInterner.{AnyInterner}
use Rattle.handles.specs.declared.kind.Kind.{Kind}
use Rattle.handles.specs.declared.status.Status.{Status}
use Rattle.handles.specs.declared.status.Status.TheVariants.{BadText, NoSymbol, NoMemory, Nothing, NoRoom, BadKind, BadEnds, NotAList, NotAText, Repeated, BadHasher}

strings_have_none : (texts : List Text) → items_have_float (items_of (map string texts)) ≡ false
strings_have_none [] = refl
strings_have_none (text ∷ texts) = strings_have_none texts

-- the JSON form of texts has no float, so it has one text without spaces
pub text_of_json : (value : Data) (texts : List Text) (json : List ℕ) → value ≡ json_of_texts texts → (has_float value ≡ false → json ≡ compact_text value) → json ≡ compact_text (json_of_texts texts)
text_of_json value texts json is text = text (ap has_float is ∙ strings_have_none texts) ∙ ap compact_text is

module _ (reads : Kind → Data → Result AnyInterner JsonError → Type 0) (code : ℕ) (bytes : List ℕ) where
  -- where no kind has the code
  pub refuses_kind : ((kind : Kind) → ¬ (code_of_kind kind ≡ code)) → RefusesJson reads code bytes BadKind
  refuses_kind none = no_kind none

  -- where the bytes have no value
  pub refuses_bytes : (kind : Kind) (status : Status) → code_of_kind kind ≡ code → IsValueOf bytes (Err status) → RefusesJson reads code bytes status
  refuses_bytes kind BadText is none = no_json kind is none
  refuses_bytes kind NoMemory is some = no_memory kind is some
  refuses_bytes kind NoSymbol is none = absurd none
  refuses_bytes kind Nothing is none = absurd none
  refuses_bytes kind NoRoom is none = absurd none
  refuses_bytes kind BadKind is none = absurd none
  refuses_bytes kind BadEnds is none = absurd none
  refuses_bytes kind NotAList is none = absurd none
  refuses_bytes kind NotAText is none = absurd none
  refuses_bytes kind Repeated is none = absurd none
  refuses_bytes kind BadHasher is none = absurd none

  -- the same of the outcome of a call
  pub unread : (kind : Kind) (status : Status) (outcome : Result AnyInterner Status) → outcome ≡ Err status → code_of_kind kind ≡ code → IsValueOf bytes (Err status) → ReadsJson reads code bytes outcome
  unread kind status outcome told is none = rw told (refuses_bytes kind status is none)

  -- where they have one
  pub reads_bytes : (kind : Kind) (value : Data) (outcome : Result AnyInterner Status) → code_of_kind kind ≡ code → IsUtf8 bytes → json_read bytes ≡ Some value → ReadsValue (reads kind value) outcome → ReadsJson reads code bytes outcome
  reads_bytes kind value (Ok any) is utf8 read good = (kind, is, value, utf8, read, good)
  reads_bytes kind value (Err status) is utf8 read refused = not_read status (kind, is, value, utf8, read, refused)
