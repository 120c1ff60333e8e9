-- A list of numbers that take four or eight bytes each.
-- Cited by the model of `NumberList`.
use Rattle.std.specs.Prelude.{ℕ, List}

-- what contracts see: the numbers, how many more fit without an allocation, and the greatest that fits
pub record NumberListContents : Type 0 where
  pub items : List ℕ
  pub spare : ℕ
  pub limit : ℕ
