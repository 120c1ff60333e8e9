-- Reading lines a block at a time: what is held, what was yielded, and the faults.
-- Cited by `block`, `blocks`, `count`, `distinct`, `encode`, `excerpt`, `find`, `line_blocks`, `lines`, `plain` and `shards`.
use Rattle.std.specs.Prelude.{◌≡◌, ℕ, ◌+◌, List, [], ◌∷◌, ◌++◌, length, take, drop, ◌⊎◌, false, Option, Some, IfSome, IsUtf8}
use Rattle.std.specs.Io.KnownBytes.{Consumes}
use Rattle.std.specs.List.{list_any, slice_split}
use Rattle.string_interner.specs.Text.{Text}
use Rattle.dictcol.specs.Lines.{has_newline, is_newline, lines_of, text_of_ended}
use Rattle.dictcol.specs.declared.input.block.Block.{Block}
use Rattle.dictcol.specs.declared.fault.Fault.{Fault}
use Rattle.dictcol.specs.Fault.{IsNotUtf8, IsReadFault, IsTakeFault, IsWriteFault}
use Rattle.dictcol.specs.TooMany.{HasRefused}

abbrev pub held : Block → Text
held block = take block.end block.bytes.items

-- no newline is in what a block holds
abbrev pub HoldsNoNewline : Block → Type 0
HoldsNoNewline block = has_newline (held block) ≡ false

-- a newline is at this index, and none behind it
abbrev pub EndsAtNewline : Text → ℕ → Type 0
EndsAtNewline text at = (text ≡ take at text ++ 10 ∷ drop (at + 1) text) × (has_newline (drop (at + 1) text) ≡ false)

-- it has taken these lines behind those from before
abbrev pub Takes : {L : Type 0} → (L → List Text → Type 0) → L → L → List Text → Type 0
Takes has_taken old new more = (lines : List Text) → has_taken old lines → has_taken new (lines ++ more)

-- the faults of taking the lines of a text behind those that were seen
abbrev pub IsTextFault : (List Text → Text → Type 0) → List Text → Text → Fault → Type 0
IsTextFault Refuses seen text fault =
    IsTakeFault (HasRefused Refuses (seen ++ slice_split is_newline text)) fault ⊎ IsNotUtf8 (length seen) (Some text) fault

-- So much of an input was read: the lines that were taken, a newline behind each, and then the rest.
pub record HasRead {L : Type 0} (has_taken : L → List Text → Type 0) (input left : Option Text) (lines : L) (rest : Text) : Type 0 where
  pub seen : List Text
  pub taken : has_taken lines seen
  pub plain : list_any has_newline seen ≡ false
  pub utf8 : IsUtf8 (text_of_ended seen [])
  pub consumed : Consumes input left (text_of_ended seen rest)

-- An input yields these lines, each with a newline, and then the rest.
pub record IsTextOf (input : Option Text) (lines : List Text) (rest : Text) : Type 0 where
  pub plain : list_any has_newline lines ≡ false
  pub rest_plain : has_newline rest ≡ false
  pub whole : IfSome input (λ text. text ≡ text_of_ended lines rest)

-- the faults of reading the lines of an input: it cannot be read, one of its lines is refused, or it is not UTF-8
abbrev pub IsLinesFault : (List Text → Text → Type 0) → Option Text → Fault → Type 0
IsLinesFault Refuses input fault =
    IsReadFault fault ⊎ (IsTakeFault (IfSome input (λ text. HasRefused Refuses (lines_of text))) fault ⊎ IsNotUtf8 0 input fault)

-- the faults of reading lines and writing what is asked for of them
abbrev pub IsLinesTaskFault : (List Text → Text → Type 0) → Option Text → Fault → Type 0
IsLinesTaskFault Refuses input fault = IsLinesFault Refuses input fault ⊎ IsWriteFault fault
