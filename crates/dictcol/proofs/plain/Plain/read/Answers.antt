use Rattle.std.proofs.Common.{◌≡◌, not, nat_lt, cond, length, rules}
use Rattle.std.specs.Prelude.{Some}
use Rattle.dictcol.proofs.PlainColumns.{onto-inputs}
use Rattle.dictcol.proofs.plain.Plain.read.Goals as goal
use Rattle.dictcol.proofs.plain.Plain.read.Goals.{then-self-len, else-self-len}

pub returns-clause-ok : goal.returns-clause-ok
returns-clause-ok g c = λ before begun.
    let old = c.args.self.now in
    let more = c.in_ok-is_ended.ensures.ok in
    let cut : c.if-self-len.is_cut ≡ cond (nat_lt c.args.self.now.known (length c.append_lines.new.lines)) (not c.in_ok-is_ended.is_ended) c.args.self.now.is_cut =
    elim c.if-self-len.branch [ then-self-len w ↦ search rules | else-self-len w ↦ search rules ] in
    onto-inputs (Some before) (g.R.Read.remaining c.args.input.now) old.lines more.0 c.append_lines.new.lines old.is_cut c.in_ok-is_ended.is_ended _ old.known begun.0 more.1 more.2 begun.1 cut
