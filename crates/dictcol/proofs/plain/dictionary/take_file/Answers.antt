use Rattle.std.proofs.Common.{◌≢◌, [], string_bytes, refl, inr, rules}
use Rattle.dictcol.proofs.PlainColumns.{open-end, some-weaker}
use Rattle.dictcol.proofs.plain.dictionary.take_file.Goals as goal

pub returns-in-Ok-2-clause-fault : goal.returns-in-Ok-2-clause-fault
returns-in-Ok-2-clause-fault g c =
    let read = c.in-Ok-2.ensures.ok in
    let rest = string_bytes c.in-Ok-2.field-0 in
    let some : string_bytes c.in-Ok-2.field-0 ≢ [] = λ e. search rules in
    inr (refl, some-weaker _ _ (g.R.Read.remaining c.args.file.now) (λ text whole lines is. open-end read.0 rest lines text whole read.2.plain read.2.rest_plain some is) read.2.whole)
