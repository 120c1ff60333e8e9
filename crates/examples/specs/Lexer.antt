-- The keywords of a lexer, and what a word is.
-- Cited by `Lexer`.
use Rattle.std.specs.Prelude.{◌≡◌, ◌≢◌, ℕ, ◌-◌, ◌^◌, List, [], ◌∷◌, codes}
use Rattle.string_interner.specs.Text.{Text}
use Rattle.string_interner.specs.Numbering.{Numbering}
use Rattle.string_interner.specs.StandsFor.{StandsFor}
use Rattle.string_interner.specs.StringBackend.{string_numbering}
use Rattle.string_interner.specs.Symbol.{number_below}
use Rattle.examples.specs.declared.lexer.Kind.{Kind}
use Rattle.examples.specs.declared.lexer.Kind.TheVariants.{Let, If, Else, Name}

-- the keywords, in the order of their numbers
abbrev pub keywords : List Text
keywords = codes "let" ∷ codes "if" ∷ codes "else" ∷ []

-- how the default backend numbers texts: by their index
abbrev pub numbering : Numbering ℕ
numbering = string_numbering (number_below (2 ^ 32 - 1)) (λ symbol. symbol)

-- the numbers of the keywords, whatever other words there are
pub record HasKeywords (words : List Text) : Type 0 where
  pub zero : StandsFor numbering words 0 (codes "let")
  pub one : StandsFor numbering words 1 (codes "if")
  pub two : StandsFor numbering words 2 (codes "else")

-- a word is of this kind: this keyword, or none
abbrev pub IsKind : Text → Kind → Type 0
IsKind word Let = word ≡ codes "let"
IsKind word If = word ≡ codes "if"
IsKind word Else = word ≡ codes "else"
IsKind word Name = (word ≢ codes "let") × (word ≢ codes "if") × (word ≢ codes "else")
