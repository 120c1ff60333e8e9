-- How a call ends: the codes that C sees, and what they tell.
-- Cited by `status`, by `any` where it writes a symbol, and by `Calls`.
use Rattle.std.specs.Prelude.{◌≡◌, ℕ, ◌+◌, Result, Ok, Err}
use Rattle.string_interner.specs.declared.backend.InternError.{InternError}
use Rattle.string_interner.specs.declared.backend.InternError.TheVariants.{NoSymbol as InternNoSymbol, Memory}
use Rattle.string_interner.specs.declared.json.JsonError.{JsonError}
use Rattle.string_interner.specs.declared.json.JsonError.TheVariants as json
use Rattle.handles.specs.declared.status.Status.{Status}
use Rattle.handles.specs.declared.status.Status.TheVariants.{BadText, NoSymbol, NoMemory, Nothing, NoRoom, BadKind, BadEnds, NotAList, NotAText, Repeated, BadHasher}

abbrev pub code_of : Status → ℕ
code_of BadText = 1
code_of NoSymbol = 2
code_of NoMemory = 3
code_of Nothing = 4
code_of NoRoom = 5
code_of BadKind = 6
code_of BadEnds = 7
code_of NotAList = 8
code_of NotAText = 9
code_of Repeated = 10
code_of BadHasher = 11

-- why a text was not interned
abbrev pub status_of : InternError → Status
status_of InternNoSymbol = NoSymbol
status_of (Memory _) = NoMemory

-- why a JSON value was not read. That it is no number is told of symbols alone.
abbrev pub status_of_json : JsonError → Status
status_of_json json.NoSymbol = NoSymbol
status_of_json (json.Memory _) = NoMemory
status_of_json json.NotAList = NotAList
status_of_json (json.NotAText _) = NotAText
status_of_json (json.Repeated _) = Repeated
status_of_json json.NotANumber = NotAText

-- The code of an outcome, and what is written: what a good one holds, and nothing else.
abbrev pub Tells : {T : Type 0} → Result T Status → ℕ → T → T → Type 0
Tells (Ok value) code before after = (code ≡ 0) × (after ≡ value)
Tells (Err status) code before after = (code ≡ code_of status) × (after ≡ before)

-- the number that a call returns instead of a code and a symbol: the symbol, or 2^32 and the code of why there is none
abbrev pub packed : Result ℕ Status → ℕ
packed (Ok symbol) = symbol
packed (Err status) = 4294967296 + code_of status

-- what a call tells of interning a text
abbrev pub outcome_of : {T : Type 0} → Result T InternError → Result T Status
outcome_of (Ok value) = Ok value
outcome_of (Err error) = Err (status_of error)

-- Interning a text has an outcome and leaves this interner. A code tells the outcome, and its symbol is written.
pub record TellsInterned {I T : Type 0} (interns : Result T InternError → I → Type 0) (new : I) (code : ℕ) (before after : T) : Type 0 where
  pub outcome : Result T InternError
  pub tells : Tells (outcome_of outcome) code before after
  pub interned : interns outcome new

-- the code of an outcome that holds nothing
abbrev pub code_of_done : Result (Unit {0}) Status → ℕ
code_of_done (Ok _) = 0
code_of_done (Err status) = code_of status
