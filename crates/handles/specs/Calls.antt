-- What the calls on a handle do, and how they end.
-- Cited by `text`, by `calls`, and by every export.
use Rattle.std.specs.Prelude.{◌≡◌, ℕ, ◌<◌, ◌≤◌, List, ◌++◌, length, drop, Option, Some, None, MatchOption, Result, Ok, Err, alloc_error, ◌⊎◌, ⊤, Vec}
use Rattle.std.specs.Borrow.{Bor}
use Rattle.std.specs.Str.{IsUtf8}
use Rattle.std.specs.Result.{IsOk}
use Rattle.std.specs.declared.alloc.Global.{Global}
use Rattle.serde_json.specs.Data.{Data}
use Rattle.serde_json.specs.View.{view}
use Rattle.serde_json.specs.declared.value.Value.{Value}
use Rattle.serde_json.specs.Read.{read as json_read}
use Rattle.serde_json.specs.Written.{compact_text}
use Rattle.string_interner.specs.Text.{Text}
use Rattle.string_interner.specs.Json.{json_of_texts}
use Rattle.string_interner.specs.declared.backend.InternError.TheVariants.{NoSymbol as InternNoSymbol, Memory}
use Rattle.string_interner.specs.declared.json.JsonError.{JsonError}
use Rattle.handles.specs.Any.{FindsAny, InternsAny, IsAnyCopy, IsEmpty, IsMade, Knows, kind_of, text_at, texts_in}
use Rattle.handles.specs.Kind.{HasCode}
use Rattle.handles.specs.Status.{Tells, code_of_done, packed, status_of_json}
use Rattle.handles.specs.declared.kind.Kind.{Kind}
use Rattle.handles.specs.declared.any.AnyInterner.{AnyInterner}
use Rattle.handles.specs.declared.handle.Handle.{Handle}
use Rattle.handles.specs.declared.address.Slot.{Slot}
use Rattle.handles.specs.declared.text.Text.{Text as LentText}
use Rattle.handles.specs.declared.status.Status.{Status}
use Rattle.handles.specs.declared.status.Status.TheVariants.{BadText, NoSymbol, NoMemory, Nothing, NoRoom, BadKind}

-- ---- how a call ends

-- A call has an outcome, which its code tells, and what it writes.
pub record Answers {T : Type 0} (holds : Result T Status → Type 0) (code : ℕ) (before after : T) : Type 0 where
  pub outcome : Result T Status
  pub tells : Tells outcome code before after
  pub outcome_holds : holds outcome

-- A call has an outcome, which is packed into the number that it returns.
pub record Packs (holds : Result ℕ Status → Type 0) (number : ℕ) : Type 0 where
  pub outcome : Result ℕ Status
  pub is_packed : number ≡ packed outcome
  pub outcome_holds : holds outcome

-- A call that writes nothing else has an outcome, which its code tells.
pub record TellsDone (holds : Result (Unit {0}) Status → Type 0) (code : ℕ) : Type 0 where
  pub outcome : Result (Unit {0}) Status
  pub told : code ≡ code_of_done outcome
  pub outcome_holds : holds outcome

-- A call changes what a handle holds as this says of its outcome. Its code tells the outcome, and a value is written.
abbrev pub Changes : {T : Type 0} → (AnyInterner → Result T Status → AnyInterner → Type 0) → Handle × T → ℕ → Handle × T → Type 0
Changes changes before code after = Answers (λ outcome. changes before.0.value outcome after.0.value) code before.1 after.1

-- A call asks what a handle holds. Its code tells the outcome, and a value is written.
abbrev pub Queries : {T : Type 0} → (AnyInterner → Result T Status → Type 0) → Handle → T → ℕ → T → Type 0
Queries asks h before code after = Answers (asks h.value) code before after

-- A call writes to what it is handed as this says of its outcome, which its code tells.
abbrev pub Writes : {W : Type 0} → (W → Result (Unit {0}) Status → W → Type 0) → W → ℕ → W → Type 0
Writes writes before code after = TellsDone (λ outcome. writes before outcome after) code

-- A slot holds the address of a handle on what was made. It stays as it is where nothing was made, which is told, or where
-- there is no memory to hold what was made.
abbrev pub FillsWith : Result AnyInterner Status → Slot → Result (Unit {0}) Status → Slot → Type 0
FillsWith made old (Ok _) new = (handle : Handle) × (new.held ≡ Some handle) × (made ≡ Ok handle.value)
FillsWith made old (Err status) new = ((made ≡ Err status) ⊎ (IsOk made × (status ≡ NoMemory))) × (new ≡ old)

-- A slot is filled with what may be made so.
abbrev pub Fills : (Result AnyInterner Status → Type 0) → Slot → Result (Unit {0}) Status → Slot → Type 0
Fills making old outcome new = (made : Result AnyInterner Status) × making made × FillsWith made old outcome new

-- A call opens a handle on what may be made so: it fills a slot, and its code tells the outcome.
abbrev pub Opens : (Result AnyInterner Status → Type 0) → Slot → ℕ → Slot → Type 0
Opens making = Writes (Fills making)

-- ---- making an interner

-- A new interner of the kind with this code.
abbrev pub MakesNew : ℕ → Result AnyInterner Status → Type 0
MakesNew code (Ok any) = HasCode code (Ok (kind_of any)) × IsEmpty (kind_of any) any
MakesNew code (Err status) = HasCode code (Err status)

-- The same with spare capacity, or memory is refused.
abbrev pub MakesRoom : ℕ → ℕ → Result AnyInterner Status → Type 0
MakesRoom code capacity (Ok any) = HasCode code (Ok (kind_of any)) × IsMade (kind_of any) capacity any
MakesRoom code capacity (Err NoMemory) = (kind : Kind) × HasCode code (Ok kind)
MakesRoom code capacity (Err status) = HasCode code (Err status)

-- A copy is made, or memory is refused.
abbrev pub Copies : AnyInterner → Result AnyInterner Status → Type 0
Copies any (Ok copy) = IsAnyCopy any copy
Copies any (Err NoMemory) = ⊤
Copies any (Err _) = ⊥

-- ---- one text

-- Bytes are a text, or they are not UTF-8.
abbrev pub IsTextOf : List ℕ → Result (Bor Text) Status → Type 0
IsTextOf bytes (Ok text) = IsUtf8 bytes × (text.now ≡ bytes)
IsTextOf bytes (Err BadText) = ¬ IsUtf8 bytes
IsTextOf bytes (Err _) = ⊥

-- A text is interned.
abbrev pub InternsText : Text → AnyInterner → Result ℕ Status → AnyInterner → Type 0
InternsText text old (Ok symbol) new = InternsAny old text (Ok symbol) new
InternsText text old (Err NoSymbol) new = InternsAny old text (Err InternNoSymbol) new
InternsText text old (Err NoMemory) new = InternsAny old text (Err (Memory alloc_error)) new
InternsText text old (Err _) new = ⊥

-- Bytes are interned: as a text is, or they are not UTF-8.
abbrev pub InternsBytes : List ℕ → AnyInterner → Result ℕ Status → AnyInterner → Type 0
InternsBytes bytes old (Err BadText) new = ¬ IsUtf8 bytes × (new ≡ old)
InternsBytes bytes old outcome new = IsUtf8 bytes × InternsText bytes old outcome new

-- This is found for a text: a symbol, or none.
abbrev pub TellsFound : (Option ℕ → Type 0) → Result ℕ Status → Type 0
TellsFound finds (Ok symbol) = finds (Some symbol)
TellsFound finds (Err Nothing) = finds None
TellsFound finds (Err _) = ⊥

-- A text is looked for.
abbrev pub FindsText : Text → AnyInterner → Result ℕ Status → Type 0
FindsText text any = TellsFound (FindsAny any text)

-- Bytes are looked for: as a text is, or they are not UTF-8.
abbrev pub FindsBytes : List ℕ → AnyInterner → Result ℕ Status → Type 0
FindsBytes bytes any (Err BadText) = ¬ IsUtf8 bytes
FindsBytes bytes any outcome = IsUtf8 bytes × FindsText bytes any outcome

-- Bytes are a text that is known.
abbrev pub KnowsBytes : List ℕ → AnyInterner → Type 0
KnowsBytes bytes any = IsUtf8 bytes × Knows any bytes

-- This text is lent, if there is one.
abbrev pub Lends : Option Text → Result LentText Status → Type 0
Lends found (Ok lent) = found ≡ Some lent.bytes.now
Lends found (Err Nothing) = found ≡ None
Lends found (Err _) = ⊥

-- A symbol is resolved: to the text that is read there, or to nothing.
abbrev pub ResolvesSymbol : ℕ → AnyInterner → Result LentText Status → Type 0
ResolvesSymbol symbol any = Lends (text_at any symbol)

-- ---- bytes that are copied out

-- Bytes are copied to the front of a room, or it is too short for them and stays as it is. Their count is told in both
-- cases.
abbrev pub CopiesOut : List ℕ → Result (Unit {0}) Status → List ℕ → List ℕ → ℕ → Type 0
CopiesOut bytes (Ok _) room after told = (length bytes ≤ length room) × (after ≡ bytes ++ drop (length bytes) room) × (told ≡ length bytes)
CopiesOut bytes (Err NoRoom) room after told = (length room < length bytes) × (after ≡ room) × (told ≡ length bytes)
CopiesOut bytes (Err _) room after told = ⊥

-- The text at a symbol is copied out, or there is none, and nothing changes.
abbrev pub CopiesText : ℕ → AnyInterner → List ℕ × ℕ → Result (Unit {0}) Status → List ℕ × ℕ → Type 0
CopiesText symbol any (room, len) outcome (after, told) = MatchOption (text_at any symbol)
    ((outcome ≡ Err Nothing) × (after ≡ room) × (told ≡ len))
    (λ text. CopiesOut text outcome room after told)

-- ---- JSON

-- The JSON form of the texts is copied out, or memory is refused, and nothing changes.
abbrev pub CopiesJson : AnyInterner → List ℕ × ℕ → Result (Unit {0}) Status → List ℕ × ℕ → Type 0
CopiesJson any (room, len) (Ok _) (after, told) = CopiesOut (compact_text (json_of_texts (texts_in any))) (Ok tt) room after told
CopiesJson any (room, len) (Err NoRoom) (after, told) = CopiesOut (compact_text (json_of_texts (texts_in any))) (Err NoRoom) room after told
CopiesJson any (room, len) (Err NoMemory) (after, told) = (after ≡ room) × (told ≡ len)
CopiesJson any (room, len) (Err _) (after, told) = ⊥

-- Bytes are the JSON form of the texts, or memory is refused.
abbrev pub IsJsonOf : AnyInterner → Result (Vec ℕ Global) Status → Type 0
IsJsonOf any (Ok json) = json.items ≡ compact_text (json_of_texts (texts_in any))
IsJsonOf any (Err NoMemory) = ⊤
IsJsonOf any (Err _) = ⊥

-- Bytes are a JSON text of this value, or they are none, or memory is refused, but not for no bytes.
abbrev pub IsValueOf : List ℕ → Result Value Status → Type 0
IsValueOf bytes (Ok value) = IsUtf8 bytes × (json_read bytes ≡ Some (view value))
IsValueOf bytes (Err BadText) = IsUtf8 bytes → json_read bytes ≡ None
IsValueOf bytes (Err NoMemory) = 0 < length bytes
IsValueOf bytes (Err _) = ⊥

-- A JSON value is read into an interner, or its status tells why it is not.
abbrev pub ReadsValue : (Result AnyInterner JsonError → Type 0) → Result AnyInterner Status → Type 0
ReadsValue reads (Ok any) = reads (Ok any)
ReadsValue reads (Err status) = (error : JsonError) × reads (Err error) × (status ≡ status_of_json error)

-- The bytes are a JSON text, whose value gives this outcome for the kind with this code.
abbrev pub ReadsBytes : (Kind → Data → Result AnyInterner JsonError → Type 0) → ℕ → List ℕ → Result AnyInterner Status → Type 0
ReadsBytes reads code bytes outcome = (kind : Kind) × HasCode code (Ok kind)
    × (value : Data) × IsUtf8 bytes × (json_read bytes ≡ Some value) × ReadsValue (reads kind value) outcome

-- Why no interner is made of bytes: no kind has this code; or one has, and the bytes are no JSON text, memory is refused while they
-- are parsed, or their value is not read.
pub data RefusesJson (reads : Kind → Data → Result AnyInterner JsonError → Type 0) (code : ℕ) (bytes : List ℕ) : Status → Type 0 where
  no_kind : HasCode code (Err BadKind) → RefusesJson reads code bytes BadKind
  no_json : (kind : Kind) → HasCode code (Ok kind) → (IsUtf8 bytes → json_read bytes ≡ None) → RefusesJson reads code bytes BadText
  no_memory : (kind : Kind) → HasCode code (Ok kind) → 0 < length bytes → RefusesJson reads code bytes NoMemory
  not_read : (status : Status) → ReadsBytes reads code bytes (Err status) → RefusesJson reads code bytes status

-- A JSON text is read into an interner of the kind with this code.
abbrev pub ReadsJson : (Kind → Data → Result AnyInterner JsonError → Type 0) → ℕ → List ℕ → Result AnyInterner Status → Type 0
ReadsJson reads code bytes (Ok any) = ReadsBytes reads code bytes (Ok any)
ReadsJson reads code bytes (Err status) = RefusesJson reads code bytes status
