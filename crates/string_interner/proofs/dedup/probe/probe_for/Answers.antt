use Rattle.std.proofs.Common.{◌%◌, length, arith, refl, sym, ap, subst, ◌∙◌}
use Rattle.string_interner.specs.Entry.{entry_text}
use Rattle.string_interner.specs.Index.{has_text}
use Rattle.string_interner.specs.Probe.{StepsTo}
use Rattle.string_interner.specs.declared.dedup.probe.Step.TheVariants.{Found, Free}
use Rattle.string_interner.proofs.Lemmas.Index.ProbeLoop.{Stands-start, Stands-found, Stands-free_to}
use Rattle.string_interner.proofs.Lemmas.Index.Vacancy.{mod_less}
use Rattle.string_interner.proofs.dedup.probe.probe_for.Goals as goal

pub returns-in-Found-clause-found : goal.returns-in-Found-clause-found
returns-in-Found-clause-found g c =
    let free = c.requires.free.free in let slots = g.L.Layout.layout.slots c.args.slots.now in let h = mod_less c.args.code (length slots) (omega arith) in
    let home = c.home_of-home.ensures ∙ ap (λ n. c.args.code % n) c.len-count.ensures in
    let leads = subst (λ at. StepsTo (has_text (entry_text g.B.Store.numbering (g.B.Store.texts c.args.looks.now.backend)) c.args.text.now) slots at (Found c.in-Found.symbol)) home c.in-Found.ensures.leads in
    sym (Stands-found _ _ _ h free 0 _ c.in-Found.symbol (Stands-start _ _ _ h free) leads).0

pub returns-in-Free-clause-found : goal.returns-in-Free-clause-found
returns-in-Free-clause-found g c =
    let free = c.requires.free.free in let slots = g.L.Layout.layout.slots c.args.slots.now in let h = mod_less c.args.code (length slots) (omega arith) in
    let home = c.home_of-home.ensures ∙ ap (λ n. c.args.code % n) c.len-count.ensures in
    let leads = subst (λ at. StepsTo (has_text (entry_text g.B.Store.numbering (g.B.Store.texts c.args.looks.now.backend)) c.args.text.now) slots at (Free c.in-Free.at)) home c.in-Free.ensures.leads in
    sym (Stands-free_to _ _ _ h free 0 _ c.in-Free.at (Stands-start _ _ _ h free) leads).found

pub returns-in-Free-clause-vacant : goal.returns-in-Free-clause-vacant
returns-in-Free-clause-vacant g c =
    let free = c.requires.free.free in let slots = g.L.Layout.layout.slots c.args.slots.now in let h = mod_less c.args.code (length slots) (omega arith) in
    let home = c.home_of-home.ensures ∙ ap (λ n. c.args.code % n) c.len-count.ensures in
    let leads = subst (λ at. StepsTo (has_text (entry_text g.B.Store.numbering (g.B.Store.texts c.args.looks.now.backend)) c.args.text.now) slots at (Free c.in-Free.at)) home c.in-Free.ensures.leads in
    let n = c.len-count.ensures in
    record { code_is = refl; before = omega arith; free = λ same some. (Stands-free_to _ _ _ h free 0 _ c.in-Free.at (Stands-start _ _ _ h free) leads).is_free }
