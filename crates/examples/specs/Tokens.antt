-- The words of a source.
-- Cited by `lex` and `Lexer`.
use Rattle.std.specs.Prelude.{◌==◌, List}
use Rattle.std.specs.List.{slice_split}
use Rattle.string_interner.specs.Text.{Text}

-- the words, which stand between single blanks
abbrev pub words_of : Text → List Text
words_of source = slice_split (λ byte. byte == 32) source
