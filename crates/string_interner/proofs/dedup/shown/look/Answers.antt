use Rattle.std.proofs.Common.{◌≡◌, ◌<◌, ◌%◌, length, arith, ap, sym, subst, ◌∙◌}
use Rattle.string_interner.specs.Probe.{Follows}
use Rattle.string_interner.specs.Shown.{numbers_in}
use Rattle.string_interner.proofs.Lemmas.Shown.{HasSeen, length-numbers_in, seen-empty, seen-end, seen-missed, seen-start}
use Rattle.string_interner.proofs.Lemmas.Index.Vacancy.{mod_less}
use Rattle.string_interner.proofs.dedup.shown.look.Goals as goal

pub loop-step-init : goal.loop-step-init
loop-step-init g c =
    let sure = g.W.ShownWords.sure c.args.words.now in let n = c.len-count.ensures.value in let nonzero = c.if-count-eq0.false in
    let some : 0 < length sure = omega (arith, n, nonzero) in
    let home : c.home_of-at.result ≡ c.args.code % length (numbers_in sure) = c.home_of-at.ensures ∙ ap (λ k. c.args.code % k) (n ∙ sym (length-numbers_in sure)) in
    record {
      some = some;
      within = subst (λ k. k < length sure) (sym (c.home_of-at.ensures ∙ ap (λ k. c.args.code % k) n)) (mod_less c.args.code (length sure) some);
      seen = λ shown known. subst (λ at. HasSeen (g.T.ShownTexts.text_of c.args.texts.now) sure c.args.code c.args.text.now 0 at) (sym home)
          (seen-start _ sure c.args.code c.args.text.now shown some);
    }

pub returns-in-None-clause-absent : goal.returns-in-None-clause-absent
returns-in-None-clause-absent g c = λ shown known.
    let inv = c.loop-step.invariant in
    seen-empty _ (g.W.ShownWords.sure c.args.words.now) c.args.code c.args.text.now shown inv.some _ c.loop-step.at c.load.result c.load.ensures (inv.seen shown known) (sym c.item_of.ensures ∙ c.in-None.is)

pub loop-step-preserved : goal.loop-step-preserved
loop-step-preserved g c =
    let inv = c.loop-step.invariant in let sure = g.W.ShownWords.sure c.args.words.now in
    let after : Follows (length sure) c.loop-step.at c.slot_after-at.result = subst (λ k. Follows k c.loop-step.at c.slot_after-at.result) c.len-count.ensures.value c.slot_after-at.ensures in
    record {
      some = inv.some;
      within = after.within;
      seen = λ shown known. seen-missed _ sure c.args.code c.args.text.now shown inv.some c.loop-step._step c.loop-step.at c.load.result c.load.ensures (inv.seen shown known)
          (g.T.ShownTexts.is_sure c.args.texts.now) known c.in-Some.item (sym c.item_of.ensures ∙ c.in-Some.is) inv.within (c.shows.ensures.missed c.if-shows.false) c.slot_after-at.result after;
    }

pub returns-clause-absent : goal.returns-clause-absent
returns-clause-absent g c = λ shown known.
    let inv = c.loop-step.invariant in let n = c.len-count.ensures.value in
    seen-end _ (g.W.ShownWords.sure c.args.words.now) c.args.code c.args.text.now shown inv.some c.loop-step._step c.loop-step.at (inv.seen shown known) (omega arith)
