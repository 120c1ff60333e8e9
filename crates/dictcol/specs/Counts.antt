-- How often each line occurs, and what is written of it.
-- Cited by `count` and `merge`.
use Rattle.std.specs.Prelude.{◌≡◌, ◌<◌, ◌^◌, ℕ, List, [], ◌∷◌, ◌++◌, Bool, length, map, take, decimal, nat_le, nat_lt}
use Rattle.std.specs.Borrow.{Bor}
use Rattle.std.specs.List.{count_by, filter, flat_map}
use Rattle.std.specs.List.Sorted.{IsPermutation, IsSortedBy, IsStableBy}
use Rattle.std.specs.NonZero.{non_zero_usize_get}
use Rattle.std.specs.Str.{bytes_eq}
use Rattle.string_interner.specs.Text.{Text}
use Rattle.string_column.specs.Column.{AreCodes, counts_of, dictionary_of}
use Rattle.dictcol.specs.declared.command.Order.{Order}
use Rattle.dictcol.specs.declared.command.Order.TheVariants.{Appearance, Frequency, Top}
use Rattle.dictcol.specs.declared.command.Rows.{Rows}

-- what contracts see of counts
pub record CountsContents : Type 0 where
  -- the distinct lines
  pub entries : List Text
  -- how often each occurs
  pub counts : List ℕ
  -- how many lines there are
  pub total : ℕ

-- what contracts see of counts, by their parts
abbrev pub contents_of : List Text → List ℕ → ℕ → CountsContents
contents_of entries counts total = record { entries = entries; counts = counts; total = total }

-- the counts are those of these lines
pub record HasCounted (contents : CountsContents) (lines : List Text) : Type 0 where
  pub entries_are : contents.entries ≡ dictionary_of lines
  pub counts_are : contents.counts ≡ counts_of lines
  pub total_is : contents.total ≡ length lines

-- the counts are those of some lines, and the codes those of more lines behind them, where all have one dictionary
pub record IsCountedBy (lines more : List Text) (counts codes : List ℕ) : Type 0 where
  pub counts_are : counts ≡ counts_of lines
  pub codes_are : AreCodes (dictionary_of (lines ++ more)) codes more
  pub fits : length (lines ++ more) < 2 ^ 64

-- each distinct line behind how often it occurs, in the order of first appearance
abbrev pub counted : List Text → List (ℕ × Text)
counted lines = map (λ entry. (count_by (λ line. bytes_eq line entry) lines, entry)) (dictionary_of lines)

-- the count, a space, and the line
abbrev pub count_line : ℕ × Text → Text
count_line row = decimal row.0 ++ 32 ∷ (row.1 ++ 10 ∷ [])

-- the first row is the more frequent one
abbrev pub is_more : ℕ × Text → ℕ × Text → Bool
is_more a b = nat_lt b.0 a.0

-- The same rows, the most frequent first, and equally frequent ones in the order that they had.
pub record AreSorted (rows sorted : List (ℕ × Text)) : Type 0 where
  pub same : IsPermutation rows sorted
  pub ordered : IsSortedBy is_more sorted
  pub stable : IsStableBy is_more rows sorted

-- rows in an order
abbrev pub AreOrdered : Order → List (ℕ × Text) → List (ℕ × Text) → Type 0
AreOrdered Appearance rows ordered = ordered ≡ rows
AreOrdered Frequency rows ordered = AreSorted rows ordered
AreOrdered (Top n) rows ordered = (sorted : List (ℕ × Text)) × AreSorted rows sorted × (ordered ≡ take (non_zero_usize_get n) sorted)

-- the line occurs at least so often
abbrev pub is_often : ℕ → ℕ × Text → Bool
is_often at_least row = nat_le at_least row.0

-- the rows that are written: those of the lines that occur often enough, in the order that is asked for
abbrev pub AreRows : Rows → List Text → List (ℕ × Text) → Type 0
AreRows asked lines rows = AreOrdered asked.order (filter (is_often asked.at_least) (counted lines)) rows

-- the text says how often each line occurs, of those that are asked for
abbrev pub IsCountsText : Rows → List Text → Text → Type 0
IsCountsText asked lines text = (rows : List (ℕ × Text)) × AreRows asked lines rows × (text ≡ flat_map count_line rows)

-- the row that a pair with a borrowed text is
abbrev pub row_of : ℕ × Bor Text → ℕ × Text
row_of pair = (pair.0, pair.1.now)
