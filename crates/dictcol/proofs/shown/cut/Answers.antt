use Rattle.std.proofs.Common.{length, refl, rules}
use Rattle.std.proofs.lemmas.Bool.{le-leb, lt-leb}
use Rattle.dictcol.proofs.shown.cut.Goals as goal

pub returns-then-text-le-LONGEST-clause-part : goal.returns-then-text-le-LONGEST-clause-part
returns-then-text-le-LONGEST-clause-part c = rw (le-leb (length c.args.text.now) 1024 c.if-text-le-LONGEST.true) refl

pub returns-clause-part : goal.returns-clause-part
returns-clause-part c = rw (lt-leb (length c.args.text.now) 1024 c.if-text-le-LONGEST.false) (search rules)
