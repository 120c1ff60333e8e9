use Rattle.std.proofs.Common.{rules, ◌≡◌, ◌<◌, ap, subst, ◌∙◌, inr}
use Rattle.std.specs.Prelude.{All}
use Rattle.string_column.specs.Parts.{IsOutside}
use Rattle.dictcol.specs.declared.fault.Fault.TheVariants.{NotALine}
use Rattle.dictcol.proofs.PlainColumns.{some-weaker}
use Rattle.dictcol.proofs.plain.excerpt.Excerpt.read.Goals as goal

pub returns-in-None-clause-ok : goal.returns-in-None-clause-ok
returns-in-None-clause-ok g c =
    let read = c.in_ok-take_file.ensures.ok in
    let codes : c.take_file.new.taker.codes.items ≡ c.args.codes.items = c.take_file.ensures.same ∙ c.in_ok-excerpt.ensures.codes in
    let all : All (λ code. code < c.take_file.new.taker.total) c.take_file.new.taker.codes.items = search rules in
    (read.0, record { looked = read.1; codes_are = codes; within = subst (λ n. All (λ code. code < n) c.args.codes.items) read.1.total_is (subst (All (λ code. code < c.take_file.new.taker.total)) codes all) }, read.2)

pub returns-in-Some-clause-fault : goal.returns-in-Some-clause-fault
returns-in-Some-clause-fault g c =
    let read = c.in_ok-take_file.ensures.ok in
    let codes : c.take_file.new.taker.codes.items ≡ c.args.codes.items = c.take_file.ensures.same ∙ c.in_ok-excerpt.ensures.codes in
    let outside : IsOutside c.take_file.new.taker.total c.take_file.new.taker.codes.items c.in-Some.row = search rules in
    let is = subst (λ n. IsOutside n c.args.codes.items c.in-Some.row) read.1.total_is (subst (λ cs. IsOutside c.take_file.new.taker.total cs c.in-Some.row) codes outside) in
    inr (c.in-Some.row, ap NotALine c.saturating_add.ensures, some-weaker _ _ (g.R.Read.remaining c.args.file.now) (λ text lines. (read.0, lines, is)) read.2)
