use Rattle.std.proofs.Common.{subst}
use Rattle.memchr.specs.Find.{is_byte, IsLastByte}
use Rattle.dictcol.proofs.Places.{line_behind, line_of_all}
use Rattle.dictcol.proofs.json_form.file.find_last_line.Goals as goal

pub returns-in-Some-clause-line : goal.returns-in-Some-clause-line
returns-in-Some-clause-line c = line_behind c.args.file.now c.in-Some.at (subst (IsLastByte (is_byte 10) c.args.file.now) c.in-Some.is c.memrchr.ensures)

pub returns-in-None-clause-line : goal.returns-in-None-clause-line
returns-in-None-clause-line c = line_of_all c.args.file.now (subst (IsLastByte (is_byte 10) c.args.file.now) c.in-None.is c.memrchr.ensures)
