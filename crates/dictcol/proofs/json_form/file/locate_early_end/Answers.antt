use Rattle.std.proofs.Common as common
use Rattle.std.proofs.Common.{rules}
use Rattle.std.proofs.lemmas.Grind as steps
use Rattle.dictcol.proofs.Places.{early_end}
use Rattle.dictcol.proofs.json_form.file.locate_early_end.Goals as goal

pub returns : goal.returns
returns c = early_end c.args.file.now c.find_last_line.result _ _ c.find_last_line.ensures.line (search rules) (grind (common.arith, steps.common_steps))
