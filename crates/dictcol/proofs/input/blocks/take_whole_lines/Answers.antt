use Rattle.std.proofs.Common.{subst, sym, OnOk, Result, Ok, Err}
use Rattle.std.proofs.lemmas.Result.{IfErr-weaker}
use Rattle.dictcol.specs.Blocks.{held, HasRead}
use Rattle.dictcol.specs.declared.fault.Fault.{Fault}
use Rattle.dictcol.proofs.Taken.{read-on, front-fault, joined-plain}
use Rattle.dictcol.proofs.input.blocks.take_whole_lines.Goals as goal

all-ok : {A B C D : Type 0} (result : Result (Unit {0}) Fault) → (A → B → C → D) → OnOk result A → OnOk result B → OnOk result C → OnOk result D
all-ok (Ok done) on a b c = on a b c
all-ok (Err fault) on a b c = tt

pub returns-in-Some-clause-read : goal.returns-in-Some-clause-read
returns-in-Some-clause-read g c input left has =
    all-ok c.take_front.result
    (λ taken rest utf8. subst (HasRead g.L.Taker.has_taken input left c.take_front.new.lines) (sym rest)
    (read-on g.L.Taker.has_taken input left c.args.lines.now c.take_front.new.lines (held c.args.block.now) c.in-Some.at taken utf8 c.in-Some.ensures has))
    c.take_front.ensures.taken c.take_front.ensures.rest c.take_front.ensures.utf8

pub returns-in-Some-clause-fault : goal.returns-in-Some-clause-fault
returns-in-Some-clause-fault g c input left has =
    IfErr-weaker c.take_front.result _ _ (λ fault. front-fault g.L.Taker.has_taken g.L.Taker.refuses input left c.args.lines.now (held c.args.block.now) c.in-Some.at fault c.in-Some.ensures has)
    (c.take_front.ensures.fault has.seen has.taken)

pub returns-in-None-clause-rest : goal.returns-in-None-clause-rest
returns-in-None-clause-rest g c = joined-plain (held c.args.block.now) c.args.start c.requires.plain c.in-None.ensures
