-- Plain columns: the file `dict.txt` has the distinct lines, and `codes.npy` the number of its line there for each line.
-- Cited by `dictionary`, `excerpt`, `held`, `npy`, `plain` and `rows`.
use Rattle.std.specs.Prelude.{◌≡◌, ℕ, ◌+◌, ◌-◌, ◌^◌, ◌<◌, ◌==◌, List, [], ◌∷◌, ◌++◌, All, length, slice_range, replicate, Bool, false, not, ◌&&◌, if◌then◌else◌, nat_lt, codes, decimal, ◌⊎◌, Option, Some, IfSome}
use Rattle.std.specs.Int.{w32, from_le_bytes, to_le_bytes}
use Rattle.std.specs.Io.KnownBytes.{Appends}
use Rattle.std.specs.List.{list_any, flat_map, join_with_byte}
use Rattle.string_interner.specs.Text.{Text, IsDistinct}
use Rattle.string_interner.specs.Extend.{fresh}
use Rattle.string_column.specs.Column.{AreCodes, rows_of}
use Rattle.string_column.specs.Parts.{IsOutside, IsRepeat}
use Rattle.dictcol.specs.declared.fault.Fault.{Fault}
use Rattle.dictcol.specs.declared.fault.Fault.TheVariants.{Memory, NotALine, NotEnded, RepeatedLine}
use Rattle.dictcol.specs.Blocks.{IsLinesFault}
use Rattle.dictcol.specs.Fault.{IsArrayDamage, IsNotUtf8, OfDictionary}
use Rattle.dictcol.specs.File.{HaveEntries}
use Rattle.dictcol.specs.Lines.{has_newline, lines_of, text_of_ended, AreLines}

-- the text of lines that a newline ends each, the last one unless it is cut
abbrev pub plain_text : List Text → Bool → Text
plain_text lines is_cut = if is_cut then join_with_byte 10 lines else text_of_ended lines []

-- the text of earlier lines, and another behind it: unless that is empty, it begins a line
abbrev pub text_behind : List Text → Bool → Text → Text
text_behind lines was_cut [] = plain_text lines was_cut
text_behind lines was_cut text = text_of_ended lines text

-- the file has these lines, a newline behind each
pub record IsLinesFile (lines : List Text) (file : Text) : Type 0 where
  pub text : file ≡ text_of_ended lines []
  pub each_a_line : list_any has_newline lines ≡ false

-- the file is `dict.txt` of these lines: distinct ones
pub record IsDictionary (lines : List Text) (file : Text) : Type 0 where
  pub lines_are : IsLinesFile lines file
  pub distinct : IsDistinct lines

-- the fault tells the first line of a file that equals an earlier one, from 1 on
abbrev pub IsRepeatedLine : Option Text → Fault → Type 0
IsRepeatedLine file fault = (index : ℕ) × (fault ≡ RepeatedLine (index + 1)) × IfSome file (λ text. IsRepeat (lines_of text) index)

-- the fault says that the last line of a file has no newline: so it is no file of lines
abbrev pub IsNotEnded : Option Text → Fault → Type 0
IsNotEnded file fault = (fault ≡ NotEnded) × IfSome file (λ text. (lines : List Text) → ¬ (IsLinesFile lines text))

-- the faults of reading a file as a dictionary: those of reading its lines, the last line has no newline, or a line repeats an earlier one
abbrev pub IsDictionaryFault : (List Text → Text → Type 0) → Option Text → Fault → Type 0
IsDictionaryFault Refuses file fault = OfDictionary (IsLinesFault Refuses file) fault ⊎ (IsNotEnded file fault ⊎ IsRepeatedLine file fault)

-- the faults of finding the lines of a file, which may be there twice
abbrev pub IsBoundsFault : Text → Fault → Type 0
IsBoundsFault file fault = OfDictionary (IsNotUtf8 0 (Some file)) fault ⊎ ((fault ≡ Memory) ⊎ IsNotEnded (Some file) fault)

-- four bytes, the lowest first
abbrev pub code_bytes : ℕ → Text
code_bytes code = to_le_bytes w32 code

-- what stands before the numbers of an array in NumPy's format 1.0: 128 bytes, of which the last is a newline
abbrev pub array_type : ℕ → Text
array_type count = codes "{'descr': '<u4', 'fortran_order': False, 'shape': (" ++ decimal count ++ codes ",), }"

abbrev pub npy_start : ℕ → Text
npy_start count = 147 ∷ codes "NUMPY" ++ 1 ∷ 0 ∷ 118 ∷ 0 ∷ array_type count

abbrev pub npy_header : ℕ → Text
npy_header count = npy_start count ++ replicate (127 - length (npy_start count)) 32 ++ 10 ∷ []

-- the file is `codes.npy` of these numbers
pub record IsNpy (numbers : List ℕ) (file : Text) : Type 0 where
  pub bytes : file ≡ npy_header (length numbers) ++ flat_map code_bytes numbers
  pub count_fits : length numbers < 2 ^ 64
  pub each_fits : All (λ number. number < 2 ^ 32) numbers

-- the bytes are these numbers, of which each is below `limit`
pub record AreNumbers (limit : ℕ) (numbers : List ℕ) (bytes : Text) : Type 0 where
  pub bytes_are : bytes ≡ flat_map code_bytes numbers
  pub each_fits : All (λ number. number < 2 ^ 32) numbers
  pub within : All (λ number. number < limit) numbers

-- the faults of a header that so many bytes are behind: no memory is left, or with no such bytes it is an array
abbrev pub IsHeaderFault : Text → ℕ → Fault → Type 0
IsHeaderFault header behind fault = (fault ≡ Memory) ⊎ (IsArrayDamage fault
    × ((bytes : Text) (numbers : List ℕ) → length bytes ≡ behind → ¬ (IsNpy numbers (header ++ bytes))))

-- the faults of reading a file as an array: no memory is left, or it is none
abbrev pub IsArrayFault : Text → Fault → Type 0
IsArrayFault file fault = (fault ≡ Memory) ⊎ (IsArrayDamage fault × ((numbers : List ℕ) → ¬ (IsNpy numbers file)))

-- the fault tells the index of the first of the numbers that is not below `limit`
abbrev pub IsNotALine : ℕ → List ℕ → Fault → Type 0
IsNotALine limit numbers fault = (index : ℕ) × (fault ≡ NotALine index) × IsOutside limit numbers index

-- the faults of reading a file as numbers below `limit`: it is no array, or one of its numbers is not below
abbrev pub IsNumbersFault : ℕ → Text → Fault → Type 0
IsNumbersFault limit file fault = IsArrayFault file fault ⊎ ((numbers : List ℕ) × IsNpy numbers file × IsNotALine limit numbers fault)

-- the file is `codes.npy` of earlier numbers, and behind them of those of these rows in the dictionary
abbrev pub IsCodesFile : List Text → List ℕ → List Text → Text → Type 0
IsCodesFile dictionary earlier rows file = (numbers : List ℕ) × AreCodes dictionary numbers rows × IsNpy (earlier ++ numbers) file

-- whether the last row has no newline: the last line of a text, or if it has none the last row before them
abbrev pub ends_cut : Bool → List Text → Bool → Bool
ends_cut was_cut lines is_ended = if nat_lt 0 (length lines) then not is_ended else was_cut

-- The files are the plain columns of a text, onto a dictionary from before: its lines stay first, and what is new comes behind. So do
-- the numbers of earlier rows, of which the last was cut or not.
pub record IsPlain (before : Text) (earlier : List ℕ) (was_cut : Bool) (text dictionary numbers : Text) (is_cut : Bool) : Type 0 where
  pub known : List Text
  pub before_is : IsDictionary known before
  pub lines : List Text
  pub is_ended : Bool
  pub lines_are : AreLines text lines is_ended
  pub is_cut_is : is_cut ≡ ends_cut was_cut lines is_ended
  pub dictionary_is : IsDictionary (known ++ fresh known lines) dictionary
  pub earlier_are : HaveEntries known earlier
  pub numbers_are : IsCodesFile (known ++ fresh known lines) earlier lines numbers

-- These rows are the lines of a dictionary from before, as many as `count`, and no text is behind them.
abbrev pub IsBegun : Text → List Text → ℕ → Type 0
IsBegun before rows count = IsDictionary rows before × (count ≡ length rows)

-- These rows are the lines of a dictionary from before, as many as `count`, and those of a text behind them.
pub record IsOnto (before : Text) (was_cut : Bool) (text : Text) (rows : List Text) (count : ℕ) (is_cut : Bool) : Type 0 where
  pub known : List Text
  pub before_is : IsDictionary known before
  pub lines : List Text
  pub is_ended : Bool
  pub lines_are : AreLines text lines is_ended
  pub is_cut_is : is_cut ≡ ends_cut was_cut lines is_ended
  pub rows_are : rows ≡ known ++ lines
  pub count_is : count ≡ length known

-- the known bytes of two outputs grow by the plain columns of the text, behind earlier rows
abbrev pub WritesPlain : Text → List ℕ → Bool → Text → Bool → Option (List ℕ) → Option (List ℕ) → Option (List ℕ) → Option (List ℕ) → Type 0
WritesPlain before earlier was_cut text is_cut old new old_numbers new_numbers = (dictionary : Text) × (numbers : Text)
    × IsPlain before earlier was_cut text dictionary numbers is_cut × Appends old new dictionary × Appends old_numbers new_numbers numbers

-- where each line of a file begins, if the first begins at `start`, and where the last one ends
abbrev pub line_bounds : ℕ → List Text → List ℕ
line_bounds start [] = start ∷ []
line_bounds start (line ∷ lines) = start ∷ line_bounds (start + length line + 1) lines

-- These bytes are numbers of lines of the file, which have these bounds, and the rows are these lines.
pub record AreRows (file : Text) (bounds : List ℕ) (numbers : Text) (rows : List Text) : Type 0 where
  pub lines : List Text
  pub lines_are : IsLinesFile lines file
  pub bounds_are : bounds ≡ line_bounds 0 lines
  pub codes_are : List ℕ
  pub numbers_are : AreNumbers (length lines) codes_are numbers
  pub rows_are : rows ≡ rows_of lines codes_are

-- the numbers that bytes are, four each
abbrev pub codes_in : Text → List ℕ
codes_in (a ∷ b ∷ c ∷ d ∷ bytes) = from_le_bytes w32 (a ∷ b ∷ c ∷ d ∷ []) ∷ codes_in bytes
codes_in bytes = []

-- the lines of a file with the numbers that bytes are
abbrev pub rows_in : Text → Text → List Text
rows_in file numbers = rows_of (lines_of file) (codes_in numbers)

-- the text of the rows from one on before another one, of which the last has no newline if it is the last of all, and that is cut
abbrev pub part_text : List Text → Bool → ℕ → ℕ → Text
part_text rows is_cut start end = plain_text (slice_range rows start end) (is_cut && (end == length rows))

-- the files hold the text: the lines of the first with these numbers, which may be there twice
pub record HoldPlain (dictionary numbers : Text) (is_cut : Bool) (text : Text) : Type 0 where
  pub lines : List Text
  pub lines_are : IsLinesFile lines dictionary
  pub codes_are : List ℕ
  pub numbers_are : IsNpy codes_are numbers
  pub within : HaveEntries lines codes_are
  pub text_is : text ≡ plain_text (rows_of lines codes_are) is_cut

-- The faults of reading the text that both files hold. A number is no line if it is not below the count of lines.
abbrev pub IsPlainFault : Text → Text → Fault → Type 0
IsPlainFault dictionary numbers fault =
    IsBoundsFault dictionary fault ⊎ ((lines : List Text) × IsLinesFile lines dictionary × IsNumbersFault (length lines) numbers fault)
