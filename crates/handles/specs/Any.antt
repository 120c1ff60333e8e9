-- An interner of any kind: its texts, and what its calls do to them.
-- Cited by `AnyInterner`, by the calls on handles, and by exports.
use Rattle.std.specs.Prelude.{◌≡◌, ℕ, ◌&&◌, Bool, true, false, List, take, Option, IsSome, Result, Ok, Err, option_and_then}
use Rattle.string_interner.specs.Text.{Text, first, texts_eq}
use Rattle.string_interner.specs.Numbering.{Numbering}
use Rattle.string_interner.specs.Interner.{InternerContents, InternsInto, Finds, IsMadeFor, IsNew, KeepsMemory}
use Rattle.string_interner.specs.LoadFactor.{seven_eighths}
use Rattle.string_interner.specs.Json.{json_of_texts, ReadsArray, ReadsArrayExactly}
use Rattle.serde_json.specs.Data.{Data}
use Rattle.string_interner.specs.declared.backend.InternError.{InternError}
use Rattle.string_interner.specs.declared.json.JsonError.{JsonError}
use Rattle.handles.specs.Kind.{symbol_of, numbering_in, grant_in, copies_in}
use Rattle.handles.specs.declared.kind.Kind.{Kind}
use Rattle.handles.specs.declared.kind.Kind.TheVariants as kind
use Rattle.handles.specs.declared.any.AnyInterner.{AnyInterner}
use Rattle.handles.specs.declared.any.AnyInterner.TheVariants.{String, Bucket, Buffer}

abbrev pub kind_of : AnyInterner → Kind
kind_of (String _) = kind.String
kind_of (Bucket _) = kind.Bucket
kind_of (Buffer _) = kind.Buffer

-- what the library's contracts see of it
abbrev pub contents : AnyInterner → InternerContents
contents (String interner) = interner
contents (Bucket interner) = interner
contents (Buffer interner) = interner

-- the interner of a kind with these contents
abbrev pub any_of : Kind → InternerContents → AnyInterner
any_of kind.String interner = String interner
any_of kind.Bucket interner = Bucket interner
any_of kind.Buffer interner = Buffer interner

abbrev pub texts_in : AnyInterner → List Text
texts_in any = (contents any).texts

-- how it numbers its texts
abbrev pub numbering_of : AnyInterner → Numbering ℕ
numbering_of any = numbering_in (kind_of any)

-- the text that is read at a symbol, if one is
abbrev pub text_at : AnyInterner → ℕ → Option Text
text_at any symbol = option_and_then ((numbering_of any).read (texts_in any)) (symbol_of symbol)

-- whether a text is known
abbrev pub Knows : AnyInterner → Text → Type 0
Knows any text = IsSome (first (texts_in any) text)

-- A text is looked for, and this is found.
abbrev pub FindsAny : AnyInterner → Text → Option ℕ → Type 0
FindsAny any text found = Finds (numbering_of any) (texts_in any) text found

-- Interning a text has this outcome: that of the library.
pub record InternsAny (old : AnyInterner) (text : Text) (outcome : Result ℕ InternError) (new : AnyInterner) : Type 0 where
  pub kind : kind_of new ≡ kind_of old
  pub interned : InternsInto (numbering_of old) seven_eighths (contents old) text outcome (contents new)

-- a new interner of this kind
pub record IsEmpty (kind : Kind) (made : AnyInterner) : Type 0 where
  pub kind_is : kind_of made ≡ kind
  pub new : IsNew (contents made)

-- a new interner of this kind, made with a capacity
pub record IsMade (kind : Kind) (capacity : ℕ) (made : AnyInterner) : Type 0 where
  pub kind_is : kind_of made ≡ kind
  pub made_for : IsMadeFor seven_eighths capacity (grant_in kind capacity) (contents made)

-- the first texts stay, and so their symbols, and the memory
pub record KeepsFirst (len : ℕ) (old new : AnyInterner) : Type 0 where
  pub kind : kind_of new ≡ kind_of old
  pub first : texts_in new ≡ take len (texts_in old)
  pub memory : KeepsMemory (contents old) (contents new)

-- the texts stay, and so their symbols, and so do buckets and slots
pub record IsShrunk (old new : AnyInterner) : Type 0 where
  pub kind : kind_of new ≡ kind_of old
  pub texts : texts_in new ≡ texts_in old
  pub buckets : (contents new).buckets ≡ (contents old).buckets
  pub slots : (contents new).slot_count ≡ (contents old).slot_count

-- the copy has the same kind and the same texts, and so the same symbols, as many slots, and the buckets of a copy
pub record IsAnyCopy (any copy : AnyInterner) : Type 0 where
  pub kind : kind_of copy ≡ kind_of any
  pub texts : texts_in copy ≡ texts_in any
  pub buckets : copies_in (kind_of any) (texts_in any) (contents any).buckets (contents copy).buckets
  pub slots : (contents copy).slot_count ≡ (contents any).slot_count

abbrev pub same_kind : Kind → Kind → Bool
same_kind kind.String kind.String = true
same_kind kind.Bucket kind.Bucket = true
same_kind kind.Buffer kind.Buffer = true
same_kind _ _ = false

-- whether both have one kind and the same texts in the same order
abbrev pub any_eq : AnyInterner → AnyInterner → Bool
any_eq any other = same_kind (kind_of any) (kind_of other) && texts_eq (texts_in any) (texts_in other)

-- A JSON value is read into an interner of this kind, as the library reads it.
abbrev pub ReadsAs : Kind → Data → Result AnyInterner JsonError → Type 0
ReadsAs kind value (Ok any) = (kind_of any ≡ kind) × ReadsArray (numbering_in kind) value (Ok (contents any))
ReadsAs kind value (Err error) = ReadsArray (numbering_in kind) value (Err error)

-- The same where no string may be equal to an earlier one. The value is then the JSON form of the texts.
abbrev pub ReadsAsExactly : Kind → Data → Result AnyInterner JsonError → Type 0
ReadsAsExactly kind value (Ok any) = (kind_of any ≡ kind) × (value ≡ json_of_texts (texts_in any)) × ReadsArrayExactly (numbering_in kind) value (Ok (contents any))
ReadsAsExactly kind value (Err error) = ReadsArrayExactly (numbering_in kind) value (Err error)

-- The one or the other, by whether it is exact.
abbrev pub ReadsBy : Bool → Kind → Data → Result AnyInterner JsonError → Type 0
ReadsBy true = ReadsAsExactly
ReadsBy false = ReadsAs
