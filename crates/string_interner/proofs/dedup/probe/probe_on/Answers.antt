use Rattle.std.proofs.Common.{length, arith, refl, sym, subst, ◌∙◌}
use Rattle.string_interner.specs.Entry.{entry_text}
use Rattle.string_interner.specs.Index.{has_text}
use Rattle.string_interner.specs.Probe.{StepsTo}
use Rattle.string_interner.specs.declared.dedup.probe.Step.TheVariants.{Found, Free, On}
use Rattle.string_interner.proofs.Lemmas.Index.ProbeLoop.{Stands-start, Stands-on, Stands-found, Stands-free_to}
use Rattle.string_interner.proofs.Lemmas.Index.Vacancy.{mod_less}
use Rattle.string_interner.proofs.dedup.probe.probe_on.Goals as goal

pub loop-step-init : goal.loop-step-init
loop-step-init g c =
    let free = c.requires.free.free in let h = mod_less c.args.code (length (g.L.Layout.layout.slots c.args.slots.now)) (omega arith) in
    record {
      stands = Stands-on _ _ _ h free 0 _ c.args.from (Stands-start _ _ _ h free) c.requires.led;
      backend = refl;
      counts = omega arith;
      count = omega arith;
    }

pub returns-in-Found-clause-found : goal.returns-in-Found-clause-found
returns-in-Found-clause-found g c =
    let free = c.requires.free.free in let slots = g.L.Layout.layout.slots c.args.slots.now in let h = mod_less c.args.code (length slots) (omega arith) in
    let leads = subst (λ b. StepsTo (has_text (entry_text g.B.Store.numbering (g.B.Store.texts b)) c.args.text.now) slots c.loop-step.at (Found c.in-Found.symbol)) c.loop-step.invariant.backend c.in-Found.ensures.leads in
    sym (Stands-found _ _ _ h free _ _ c.in-Found.symbol c.loop-step.invariant.stands leads).0

pub returns-in-Free-clause-found : goal.returns-in-Free-clause-found
returns-in-Free-clause-found g c =
    let free = c.requires.free.free in let slots = g.L.Layout.layout.slots c.args.slots.now in let h = mod_less c.args.code (length slots) (omega arith) in
    let leads = subst (λ b. StepsTo (has_text (entry_text g.B.Store.numbering (g.B.Store.texts b)) c.args.text.now) slots c.loop-step.at (Free c.in-Free.at)) c.loop-step.invariant.backend c.in-Free.ensures.leads in
    sym (Stands-free_to _ _ _ h free _ _ c.in-Free.at c.loop-step.invariant.stands leads).found

pub returns-in-Free-clause-vacant : goal.returns-in-Free-clause-vacant
returns-in-Free-clause-vacant g c =
    let free = c.requires.free.free in let slots = g.L.Layout.layout.slots c.args.slots.now in let h = mod_less c.args.code (length slots) (omega arith) in
    let leads = subst (λ b. StepsTo (has_text (entry_text g.B.Store.numbering (g.B.Store.texts b)) c.args.text.now) slots c.loop-step.at (Free c.in-Free.at)) c.loop-step.invariant.backend c.in-Free.ensures.leads in
    let n = c.len-count.ensures in
    record { code_is = refl; before = omega arith; free = λ same some. (Stands-free_to _ _ _ h free _ _ c.in-Free.at c.loop-step.invariant.stands leads).is_free }

pub loop-step-preserved : goal.loop-step-preserved
loop-step-preserved g c =
    let free = c.requires.free.free in let slots = g.L.Layout.layout.slots c.args.slots.now in let h = mod_less c.args.code (length slots) (omega arith) in
    let inv = c.loop-step.invariant in
    let leads = subst (λ b. StepsTo (has_text (entry_text g.B.Store.numbering (g.B.Store.texts b)) c.args.text.now) slots c.loop-step.at (On c.in-On.next)) inv.backend c.in-On.ensures.leads in
    let a = inv.count in let b = c.step.ensures.looks in let d = inv.counts in let e = c.step.ensures.counts in
    record {
      stands = Stands-on _ _ _ h free _ _ c.in-On.next inv.stands leads;
      backend = c.step.ensures.backend ∙ inv.backend;
      counts = omega arith;
      count = omega arith;
    }
