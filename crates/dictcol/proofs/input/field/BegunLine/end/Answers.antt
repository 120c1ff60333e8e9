use Rattle.std.proofs.Common.{◌<◌, length, rules}
use Rattle.dictcol.proofs.Picks.{last-ended}
use Rattle.dictcol.proofs.input.field.BegunLine.end.Goals as goal

pub returns-in-Others-clause-ended : goal.returns-in-Others-clause-ended
returns-in-Others-clause-ended c field =
    let some : 0 < length c.args.buf.now = search rules in
    last-ended field c.args.self.now c.args.buf.now c.in-Others.is some
