-- The text to intern, copied or static.
-- Cited by the private functions of the interner alone.
use Rattle.string_interner.specs.Text.{Text}
use Rattle.string_interner.specs.declared.interner.given.Given.{Given}
use Rattle.string_interner.specs.declared.interner.given.Given.TheVariants.{Copied, Static}

abbrev pub given_text : Given → Text
given_text (Copied text) = text.now
given_text (Static text) = text.now
