-- The numbers of texts among lines, and what is written of them.
-- Cited by `dictionary` and `find`.
use Rattle.std.specs.Prelude.{◌≡◌, ℕ, ◌⊎◌, List, [], ◌∷◌, ◌++◌, length, map, decimal, Option}
use Rattle.std.specs.List.{flat_map}
use Rattle.std.specs.Option.{option_map_or}
use Rattle.string_interner.specs.Numbering.{Numbering}
use Rattle.string_interner.specs.Text.{Text, IsDistinct, first}
use Rattle.dictcol.specs.Blocks.{IsLinesFault}
use Rattle.dictcol.specs.Fault.{IsTakeFault, OfDictionary}
use Rattle.dictcol.specs.Plain.{IsLinesFile, IsNotEnded}
use Rattle.dictcol.specs.TooMany.{HasRefused, IsPastCount, LacksLine}
use Rattle.dictcol.specs.declared.fault.Fault.{Fault}
use Rattle.dictcol.specs.declared.plain.find.Found.{Found}
use Rattle.dictcol.specs.declared.plain.find.Sought.{Sought}

-- the number of each text: that of the first line that equals it, from 0 on, if there is one
abbrev pub numbers_of : List Text → List Text → List (Option ℕ)
numbers_of lines texts = map (first lines) texts

-- the numbers that there are, and a newline behind each
abbrev pub numbers_text : List (Option ℕ) → Text
numbers_text numbers = flat_map (λ found. option_map_or (λ number. decimal number ++ 10 ∷ []) found []) numbers

-- in the lines of a file these numbers of the texts were found, and the count of the lines
pub record HasFound (texts : List Text) (file : Text) (found : Found) : Type 0 where
  pub lines : List Text
  pub lines_are : IsLinesFile lines file
  pub numbers_are : found.numbers.items ≡ numbers_of lines texts
  pub count_is : found.lines ≡ length lines

-- these lines were looked at: of each text that is sought the number among them is known
pub record HasSought {B S : Type 0} (sought : Sought B S) (lines : List Text) : Type 0 where
  pub distinct : IsDistinct sought.texts
  pub numbers_are : sought.numbers.items ≡ numbers_of lines sought.texts
  pub total_is : sought.total ≡ length lines

-- the faults of reading the lines of a file, which may be there twice: those of reading lines, or the last line has no newline
abbrev pub IsPassFault : (List Text → Text → Type 0) → Option Text → Fault → Type 0
IsPassFault Refuses file fault = OfDictionary (IsLinesFault Refuses file) fault ⊎ IsNotEnded file fault

-- the faults of looking for texts: there are too many of them, or those of reading the lines
abbrev pub IsFindFault : {S : Type 0} → Numbering S → List Text → Option Text → Fault → Type 0
IsFindFault numbering texts file fault = IsTakeFault (HasRefused (LacksLine numbering) texts) fault ⊎ IsPassFault IsPastCount file fault
