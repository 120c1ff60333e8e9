use Rattle.std.proofs.Common.{refl, rules}
use Rattle.string_interner.specs.SlotRule.{GrowsFor}
use Rattle.string_interner.proofs.Lemmas.Interner.Extends.{item-taken, interned-slots, extends-refused, drained-by}
use Rattle.string_interner.proofs.Lemmas.Index.SlotRule.{grown-more}
use Rattle.string_interner.proofs.interner.StringInterner.extend.Goals as goal

pub loop-text-preserved : goal.loop-text-preserved
loop-text-preserved g c =
    let mid = c.loop-text.invariant in let call = c.in_ok-get_or_intern.ensures in record {
      taken = item-taken g.B.Store.numbering g.I.TextIndex.rule _ _ _ _ _ _ mid.taken call;
      grown = interned-slots g.B.Store.numbering g.I.TextIndex.rule (λ len count. GrowsFor g.I.TextIndex.rule len c.args.self.now.slot_count count) _ _ _ _ call c.len-in-loop-text.ensures.holds.loaded
          (grown-more g.I.TextIndex.rule g.met.I.TextIndex.rule_laws _ _ _ _ mid.loaded.allowed mid.grown call.slots) mid.grown;
      loaded = c.len-in-loop-text.ensures.holds.loaded;
    }

pub returns-in_err-get_or_intern : goal.returns-in_err-get_or_intern
returns-in_err-get_or_intern g c = extends-refused g.B.Store.numbering g.I.TextIndex.rule g.met.I.TextIndex.rule_laws g.T.IntoIterator.into_iter_gives g.T.IntoIter.Iterator.next_gives _ c.into_iter-text-iterator.result c.next.new.self c.loop-text.yielded c.in-Some.text _ _ _ c.in_err-get_or_intern.field-0.0 c.from_residual.result
    c.into_iter-text-iterator.ensures.into_iter_gives (search rules) (search rules)
    c.loop-text.invariant.taken c.in_err-get_or_intern.ensures c.loop-text.invariant.grown

pub returns : goal.returns
returns g c = (
  c.loop-text.yielded,
  c.loop-text.self,
  c.loop-text.invariant.taken,
  c.loop-text.invariant.grown,
  (drained-by g.T.IntoIterator.into_iter_gives g.T.IntoIter.Iterator.next_gives _ c.into_iter-text-iterator.result _ c.into_iter-text-iterator.ensures.into_iter_gives (search rules), refl),
)
