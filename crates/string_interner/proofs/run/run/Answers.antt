use Rattle.std.proofs.Common.{rules, ◌∙◌}
use Rattle.std.proofs.lemmas.List.{take_all}
use Rattle.string_interner.proofs.Lemmas.Backend.Numbering.{numbered}
use Rattle.string_interner.proofs.Lemmas.Run.ListAnswers.{Run-tells}
use Rattle.string_interner.proofs.Lemmas.Run.Run.{Run-step}
use Rattle.string_interner.proofs.run.run.Goals as goal

pub loop-command-preserved : goal.loop-command-preserved
loop-command-preserved g c = record {
  ran = Run-step g.B.Store.numbering _ _ _ _ _ _ _ _ _ _ c.loop-command-test.true c.loop-command.invariant.ran c.deref.ensures.value c.step-reply.ensures.step (search rules);
  count = search rules;
  room = search rules;
  quiet = record {
    none = λ none.
        let before = c.loop-command.invariant.quiet.none none in
        let after = c.step-reply.ensures.stays (none c.loop-command.command-index _ c.loop-command-test.true) in
        (after.0 ∙ before.0, after.1 ∙ before.1);
    known = λ all.
        let before = c.loop-command.invariant.quiet.known all in
        let this = all c.loop-command.command-index _ c.loop-command-test.true in
        let after = c.step-reply.ensures.known (rw before.0 this) in
        (after.0 ∙ before.0, (after.1.0 ∙ before.1.0, after.1.1 ∙ before.1.1));
  };
}

pub returns-clause-as_a_list : goal.returns-clause-as_a_list
returns-clause-as_a_list g c = Run-tells g.B.Store.numbering (numbered g.B.Store.numbering g.met.B.Store.symbols g.met.B.Symbol.Symbol.numbered) g.met.B.Store.grows g.met.B.Store.reads _ _ _ _ c.len.ensures.holds.texts.valid
    (rw (take_all c.loop-command.command-index c.args.commands.now c.loop-command-test.false) at c.loop-command.invariant.ran)
