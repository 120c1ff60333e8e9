-- What is written for several files, how that may fail, and which of them a fault is told of.
-- Cited by `merge`.
use Rattle.std.specs.Prelude.{◌≡◌, ℕ, ◌⊎◌, List, ◌++◌, take, Option, Some, None, slice_get}
use Rattle.string_interner.specs.Text.{Text}
use Rattle.string_interner.specs.Numbering.{Numbering}
use Rattle.dictcol.specs.Crowded.{CrowdsColumn}
use Rattle.dictcol.specs.Fault.{IsLinesWriteFault, IsReadFault}
use Rattle.dictcol.specs.File.{DecodesFile, HoldTogether, IsFileFault}
use Rattle.dictcol.specs.Lines.{lines_of}
use Rattle.dictcol.specs.TooMany.{HasRefused, LacksLine}
use Rattle.dictcol.specs.declared.fault.Fault.{Fault}
use Rattle.dictcol.specs.declared.merge.MergeFault.{MergeFault}

-- the text for the joined text that these files hold
abbrev pub OfJoined : (Text → Text → Type 0) → List (Option Text) → Text → Type 0
OfJoined IsFor files text = (joined : Text) × HoldTogether files joined × IsFor joined text

module _ {S : Type 0} (numbering : Numbering S) where
  -- There are too many texts in a file, or too many lines in a text and that of the file behind it.
  abbrev pub CrowdsBehind : Text → Text → Type 0
  CrowdsBehind before file = CrowdsColumn numbering file ⊎ ((more : Text) × DecodesFile file more × HasRefused (LacksLine numbering) (lines_of (before ++ more)))

  -- The faults of appending the text that an input holds to another. It is called damaged only if it holds none, and not UTF-8 only if
  -- it is not.
  abbrev pub IsInputFault : Text → Option Text → Fault → Type 0
  IsInputFault before input fault = IsReadFault fault ⊎ IsFileFault (CrowdsBehind before) input fault

  -- a fault of the input with this index, behind what those before it hold, or of writing what all of them hold
  abbrev pub IsFaultAt : List (Option Text) → Option ℕ → Fault → Type 0
  IsFaultAt inputs (Some index) fault =
      (input : Option Text) × (slice_get inputs index ≡ Some input)
      × ((before : Text) × HoldTogether (take index inputs) before × IsInputFault before input fault)
  IsFaultAt inputs None fault =
      IsLinesWriteFault ((text : Text) × HoldTogether inputs text × HasRefused (LacksLine numbering) (lines_of text)) fault

  -- the faults of joining files, each with the index of its file
  abbrev pub IsMergeFault : List (Option Text) → MergeFault → Type 0
  IsMergeFault inputs ended = IsFaultAt inputs ended.index ended.fault
