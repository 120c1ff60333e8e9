-- The names of nested blocks, and what a use of a name means.
-- Cited by `Blocks`.
use Rattle.std.specs.Prelude.{ℕ, List, [], ◌∷◌, length, map, reverse, Option, Some, None}
use Rattle.std.specs.Option.{option_map_or}
use Rattle.string_interner.specs.Text.{Text}
use Rattle.string_interner.specs.Numbering.{Numbering}
use Rattle.string_interner.specs.Interner.{InternerContents, known_symbol}

-- what contracts see of open blocks
pub record Open : Type 0 where
  -- the names of the innermost block
  pub innermost : List Text
  -- those of the blocks around it, the nearest first
  pub outer : List (List Text)

-- all of them, the innermost first
abbrev pub blocks : Open → List (List Text)
blocks b = b.innermost ∷ b.outer

-- a block and those around it, which stand the outermost first
abbrev pub open_blocks : InternerContents → List InternerContents → Open
open_blocks block outer = record { innermost = block.texts; outer = map (λ names. names.texts) (reverse outer) }

-- What a use of a name means: the declaration in the innermost block that has the name, by how many blocks there are
-- around that one, and by the symbol that the name has there.
abbrev pub declaration_of : {S : Type 0} → Numbering S → List (List Text) → Text → Option (ℕ × S)
declaration_of numbering [] name = None
declaration_of numbering (block ∷ outer) name =
    option_map_or (λ symbol. Some (length outer, symbol)) (known_symbol numbering block name) (declaration_of numbering outer name)
