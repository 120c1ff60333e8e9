-- What of the text of plain columns is not read yet.
-- Cited by `held`.
use Rattle.std.specs.Prelude.{◌++◌, drop}
use Rattle.string_interner.specs.Text.{Text}
use Rattle.dictcol.specs.Plain.{plain_text}
use Rattle.dictcol.specs.declared.plain.held.HeldText.{HeldText}

-- what is ready and was not given, and the rows behind it
abbrev pub text_left : HeldText → Text
text_left text = drop text.given text.ready.items ++ plain_text (drop text.next text.rows.0) text.rows.1
