use Rattle.std.proofs.Common.{◌<◌, length}
use Rattle.string_column.proofs.Lemmas.Rows.{code-outcome}
use Rattle.string_column.proofs.rows.Column.push_code.Goals as goal

pub invariant_of-self : goal.invariant_of-self
invariant_of-self g c =
    let within : c.args.code < length c.self.inside.dictionary = rw (c.self.invariant.dictionary_is, c.self.view_is) c.requires in
    (code-outcome c.push.result c.self.inside.dictionary c.self.inside.codes c.push.new.self _ c.args.code c.self.invariant within c.push.ensures.ok c.push.ensures.err).0

pub returns-clause-ok : goal.returns-clause-ok
returns-clause-ok g c = rw (← c.self.view_is) (λ row at.
    let within : c.args.code < length c.self.inside.dictionary = rw (c.self.invariant.dictionary_is, c.self.view_is) c.requires in
    (code-outcome c.push.result c.self.inside.dictionary c.self.inside.codes c.push.new.self _ c.args.code c.self.invariant within c.push.ensures.ok c.push.ensures.err).1 row
    (rw c.self.invariant.dictionary_is at))
