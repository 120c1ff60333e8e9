use Rattle.std.proofs.Common.{rules}
use Rattle.json.specs.Print.{escape_byte}
use Rattle.dictcol.proofs.json_form.format.put_byte.Goals as goal

pub returns-then-letter-gt0-clause-bytes : goal.returns-then-letter-gt0-clause-bytes
unfolding escape_byte
returns-then-letter-gt0-clause-bytes c = search rules

pub returns-then-byte-lt32-clause-bytes : goal.returns-then-byte-lt32-clause-bytes
unfolding escape_byte
returns-then-byte-lt32-clause-bytes c = search rules

pub returns-else-byte-lt32-clause-bytes : goal.returns-else-byte-lt32-clause-bytes
unfolding escape_byte
returns-else-byte-lt32-clause-bytes c = search rules
