use Rattle.intern.proofs.Cut.{length-lines}
use Rattle.intern.proofs.split.Lines.new.Goals as goal

pub returns-clause-count : goal.returns-clause-count
returns-clause-count c = length-lines c.args.text.now
