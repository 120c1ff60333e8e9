-- The exit status of each fault, and which faults a step returns.
-- Cited by `blocks`, `count`, `decode`, `distinct`, `encode`, `excerpt`, `fault`, `file`, `find`, `format`, `held`, `line_blocks`,
-- `lines`, `merge`, `npy`, `output`, `plain`, `rows`, `shards`, `stream` and `whole`.
use Rattle.std.specs.Prelude.{ℕ, ⊤, ◌≡◌, ◌+◌, ◌-◌, ◌^◌, ◌⊎◌, Option, IfSome, Result, IsOk, IsErrAnd, take, min, count_by}
use Rattle.std.specs.Str.{IsValidUpTo}
use Rattle.std.specs.declared.io.Error.{Error}
use Rattle.std.specs.declared.io.ErrorKind.{ErrorKind}
use Rattle.std.specs.declared.io.ErrorKind.TheVariants.{BrokenPipe, OutOfMemory}
use Rattle.string_interner.specs.Text.{Text}
use Rattle.string_interner.specs.declared.backend.InternError.{InternError}
use Rattle.string_interner.specs.declared.backend.InternError.TheVariants.{NoSymbol, Memory as InternMemory}
use Rattle.dictcol.specs.Lines.{is_newline}
use Rattle.dictcol.specs.declared.fault.Fault.{Fault}
use Rattle.dictcol.specs.declared.fault.Fault.TheVariants.{Argument, Input, NotUtf8, Compressed, NotJson, ByteOrderMark, NoDictionary, NotAText, Repeated, HasNewline, NoLines, NotAnIndex, NoFinalNewline, DictionaryNotUtf8, NotNpy, OtherType, OtherOrder, OtherShape, OtherLength, DictionaryFile, NumbersFile, PairFile, CutFile, NotZeroEnded, Folder, NotLeft, TooManyShards, NoKeys, TooMany, Memory, Output, ClosedOutput}

-- 2 if the arguments or the input are wrong, 1 if the system failed or there is too much, 141 if the output is closed
abbrev pub status_of : Fault → ℕ
status_of (Input _) = 1
status_of (DictionaryFile _) = 1
status_of (NumbersFile _) = 1
status_of (PairFile _) = 1
status_of (CutFile _) = 1
status_of (Folder _) = 1
status_of (NotLeft _) = 1
status_of (TooManyShards _) = 1
status_of (NoKeys _) = 1
status_of TooMany = 1
status_of Memory = 1
status_of (Output _) = 1
status_of ClosedOutput = 141
status_of _ = 2

-- the fault of arguments that cannot be had, by the kind of the error
abbrev pub arguments_fault : ErrorKind → Fault
arguments_fault OutOfMemory = Memory
arguments_fault _ = Argument

-- the fault of a read that failed with an error of this kind
abbrev pub read_fault : ErrorKind → Error → Fault
read_fault OutOfMemory _ = Memory
read_fault _ error = Input error

-- the fault of a write that failed with an error of this kind
abbrev pub write_fault : ErrorKind → Error → Fault
write_fault BrokenPipe _ = ClosedOutput
write_fault _ error = Output error

-- the fault of lines that an interner does not take
abbrev pub intern_fault : InternError → Fault
intern_fault NoSymbol = TooMany
intern_fault (InternMemory _) = Memory

-- the fault of `dict.txt` that a fault of reading its lines is
abbrev pub dictionary_fault : Fault → Fault
dictionary_fault (Input error) = DictionaryFile error
dictionary_fault (NotUtf8 line) = DictionaryNotUtf8 line
dictionary_fault fault = fault

-- the fault of `codes.npy` that a fault of reading it is
abbrev pub numbers_fault : Fault → Fault
numbers_fault (Input error) = NumbersFile error
numbers_fault fault = fault

-- the fault of `pair.txt` that a fault of reading it is
abbrev pub pair_fault : Fault → Fault
pair_fault (Input error) = PairFile error
pair_fault fault = fault

-- a fault of `dict.txt` that is one of these of its lines
abbrev pub OfDictionary : (Fault → Type 0) → Fault → Type 0
OfDictionary Is fault = (of_lines : Fault) × Is of_lines × (fault ≡ dictionary_fault of_lines)

-- the faults of reading the input
abbrev pub IsReadFault : Fault → Type 0
IsReadFault (Input _) = ⊤
IsReadFault Memory = ⊤
IsReadFault _ = ⊥

-- the faults of taking lines: no memory is left for them, or there are too many, for this reason
abbrev pub IsTakeFault : Type 0 → Fault → Type 0
IsTakeFault Reason fault = (fault ≡ Memory) ⊎ ((fault ≡ TooMany) × Reason)

-- the faults of writing the output
abbrev pub IsWriteFault : Fault → Type 0
IsWriteFault (Output _) = ⊤
IsWriteFault ClosedOutput = ⊤
IsWriteFault _ = ⊥

-- the faults of writing what is there: no memory is left for it, or those of writing
abbrev pub IsOutputFault : Fault → Type 0
IsOutputFault fault = (fault ≡ Memory) ⊎ IsWriteFault fault

-- the faults of writing what was asked for of lines: those of taking lines, where there may be too many for this reason, and those
-- of writing
abbrev pub IsLinesWriteFault : Type 0 → Fault → Type 0
IsLinesWriteFault Reason fault = IsTakeFault Reason fault ⊎ IsWriteFault fault

-- the text ceases to be UTF-8 in this line, from 1 on, if so many lines are before it; the greatest `usize` if it is above that
abbrev pub IsBadLine : ℕ → Text → ℕ → Type 0
IsBadLine before text line = (n : ℕ) × IsValidUpTo text n × (line ≡ min (before + (count_by is_newline (take n text) + 1)) (2 ^ 64 - 1))

-- the fault tells the line where a text that so many lines are before ceases to be UTF-8
abbrev pub IsNotUtf8 : ℕ → Option Text → Fault → Type 0
IsNotUtf8 before known fault = (line : ℕ) × (fault ≡ NotUtf8 line) × IfSome known (λ text. IsBadLine before text line)

-- it writes last: unless all went well, or this is true of the error, which says that writing failed, the output is unchanged
abbrev pub WritesLastUnless : {T E W : Type 0} → (E → Type 0) → Result T E → W → W → Type 0
WritesLastUnless IsOfWriting result old new = IsOk result ⊎ (IsErrAnd result IsOfWriting ⊎ (new ≡ old))

-- and it may fail with any fault
abbrev pub WritesLast : {T W : Type 0} → Result T Fault → W → W → Type 0
WritesLast result old new = WritesLastUnless IsWriteFault result old new

-- the file is damaged
abbrev pub IsDamage : Fault → Type 0
IsDamage Argument = ⊥
IsDamage (Input _) = ⊥
IsDamage (NotUtf8 _) = ⊥
IsDamage (Compressed _ _) = ⊥
IsDamage (DictionaryNotUtf8 _) = ⊥
IsDamage (DictionaryFile _) = ⊥
IsDamage (NumbersFile _) = ⊥
IsDamage (PairFile _) = ⊥
IsDamage (CutFile _) = ⊥
IsDamage NotZeroEnded = ⊥
IsDamage (Folder _) = ⊥
IsDamage (NotLeft _) = ⊥
IsDamage (TooManyShards _) = ⊥
IsDamage (NoKeys _) = ⊥
IsDamage TooMany = ⊥
IsDamage Memory = ⊥
IsDamage (Output _) = ⊥
IsDamage ClosedOutput = ⊥
IsDamage _ = ⊤

-- the faults that say that a file is no array of numbers
abbrev pub IsArrayDamage : Fault → Type 0
IsArrayDamage NotNpy = ⊤
IsArrayDamage OtherType = ⊤
IsArrayDamage OtherOrder = ⊤
IsArrayDamage OtherShape = ⊤
IsArrayDamage OtherLength = ⊤
IsArrayDamage _ = ⊥

-- the fault does not say that the file is damaged
abbrev pub IsNoDamage : Fault → Type 0
IsNoDamage fault = ¬ (IsDamage fault)

-- the faults that say that a value of JSON is no file
abbrev pub IsValueDamage : Fault → Type 0
IsValueDamage NoDictionary = ⊤
IsValueDamage (NotAText _) = ⊤
IsValueDamage (Repeated _) = ⊤
IsValueDamage (HasNewline _) = ⊤
IsValueDamage NoLines = ⊤
IsValueDamage (NotAnIndex _) = ⊤
IsValueDamage NoFinalNewline = ⊤
IsValueDamage _ = ⊥

-- the faults that say that bytes are no JSON, and tell no place of ours
abbrev pub IsSyntaxDamage : Fault → Type 0
IsSyntaxDamage ByteOrderMark = ⊤
IsSyntaxDamage (NotJson _) = ⊤
IsSyntaxDamage _ = ⊥

-- the faults of reading a text as a file: its texts are too many, for this reason, or it is damaged in this way
abbrev pub IsParseFault : Type 0 → (Fault → Type 0) → Fault → Type 0
IsParseFault Crowded IsDamaged fault = IsTakeFault Crowded fault ⊎ IsDamaged fault
