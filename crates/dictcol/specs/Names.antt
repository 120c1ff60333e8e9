-- The names in a list, and what is wrong with one.
-- Cited by `names` and `source`.
use Rattle.std.specs.Prelude.{◌≡◌, ◌≢◌, ℕ, ◌==◌, ◌+◌, ◌-◌, ◌^◌, ◌≤◌, Bool, true, List, [], ◌∷◌, ◌++◌, All, length, take, min, count_by, ⊤, if◌then◌else◌}
use Rattle.std.specs.List.{slice_split}
use Rattle.std.specs.Str.{bytes_eq, IsValidUpTo}
use Rattle.string_interner.specs.Text.{Text}
use Rattle.dictcol.specs.declared.source.Source.{Source}
use Rattle.dictcol.specs.declared.source.Source.TheVariants.{StandardInput, File}
use Rattle.dictcol.specs.declared.names.NameFault.{NameFault}
use Rattle.dictcol.specs.declared.names.NameFault.TheVariants.{Empty, NotUtf8, ListIsInput, InputTwice, Memory}

abbrev pub is_zero : ℕ → Bool
is_zero byte = byte == 0

-- the parts but for an empty one at the end
abbrev pub trim_end : List Text → List Text
trim_end [] = []
trim_end ([] ∷ []) = []
trim_end (part ∷ parts) = part ∷ trim_end parts

-- A zero byte ends each name. One at the very end begins no further name.
abbrev pub names_of : Text → List Text
names_of list = trim_end (slice_split is_zero list)

abbrev pub dash : Text
dash = 45 ∷ []

abbrev pub is_dash : Text → Bool
is_dash name = bytes_eq name dash

-- the name is that of this source: standard input has the name `-`, and a file any other
abbrev pub Names : Text → Source → Type 0
Names name StandardInput = name ≡ dash
Names name (File path) = (path.now ≡ name) × (name ≢ dash)

-- The names are good: none is empty, and standard input is named once at most, and not if the list comes from it.
pub record AreGood (is_input : Bool) (names : List Text) : Type 0 where
  pub each : All (λ name. name ≢ []) names
  pub inputs : count_by is_dash names ≤ (if is_input then 0 else 1)

-- what is wrong with a name that stands behind these: it is empty, or it is standard input, which the list comes from, or which
-- was named before
abbrev pub IsWrong : Bool → List Text → Text → NameFault → Type 0
IsWrong is_input before name (Empty number) = (number ≡ length before + 1) × (name ≡ [])
IsWrong is_input before name (ListIsInput number) = (number ≡ length before + 1) × (name ≡ dash) × (is_input ≡ true)
IsWrong is_input before name (InputTwice number) = (number ≡ length before + 1) × (name ≡ dash) × (1 ≤ count_by is_dash before)
IsWrong is_input before name (NotUtf8 number) = ⊥
IsWrong is_input before name Memory = ⊥

-- The first name that is not good is wrong in this way.
abbrev pub IsFirstWrong : Bool → List Text → NameFault → Type 0
IsFirstWrong is_input names fault =
    (before : List Text) × (name : Text) × (behind : List Text) × (names ≡ before ++ name ∷ behind)
    × AreGood is_input before × IsWrong is_input before name fault

-- the faults of these names
abbrev pub IsNamesFault : Bool → List Text → NameFault → Type 0
IsNamesFault is_input names Memory = ⊤
IsNamesFault is_input names fault = IsFirstWrong is_input names fault

-- The faults of a list. If it is not UTF-8, the name is told in which it ceases to be that; the greatest `usize` if it is above that.
abbrev pub IsListFault : Bool → Text → NameFault → Type 0
IsListFault is_input list (NotUtf8 number) = (n : ℕ) × IsValidUpTo list n × (number ≡ min (count_by is_zero (take n list) + 1) (2 ^ 64 - 1))
IsListFault is_input list fault = IsNamesFault is_input (names_of list) fault
