use Rattle.std.proofs.Common.{◌≡◌, refl, ap, ◌∙◌}
use Rattle.std.specs.Slice.Iter.{iter_rest}
use Rattle.std.specs.Iterator.Adapters.{copied_source}
use Rattle.std.proofs.lemmas.Iterator.{YieldsList-from_slice}
use Rattle.std.proofs.lemmas.Iterator.Consumers.{YieldsList-from_copied}
use Rattle.string_interner.proofs.Lemmas.Interner.Extends.{in-order, known-unchanged}
use Rattle.string_interner.proofs.run.extend_reply.Goals as goal

pub returns-in-Ok-clause-replies : goal.returns-in-Ok-clause-replies
returns-in-Ok-clause-replies g c = (
  c.extend.result,
  in-order g.B.Store.numbering g.I.TextIndex.rule (λ a b. b ≡ a) _ c.copied.result _ _ _ c.args.texts.now c.extend.ensures (λ walk b. YieldsList-from_copied (YieldsList-from_slice c.args.texts.now (let is : walk ≡ c.copied.result = b in rw (is, c.copied.ensures.source) c.iter.ensures.rest))),
  rw c.in-Ok.is refl,
)

pub returns-in-Err-clause-replies : goal.returns-in-Err-clause-replies
returns-in-Err-clause-replies g c = (
  c.extend.result,
  in-order g.B.Store.numbering g.I.TextIndex.rule (λ a b. b ≡ a) _ c.copied.result _ _ _ c.args.texts.now c.extend.ensures (λ walk b. YieldsList-from_copied (YieldsList-from_slice c.args.texts.now (let is : walk ≡ c.copied.result = b in ap (λ w. iter_rest (copied_source w)) is ∙ (ap iter_rest c.copied.ensures.source ∙ c.iter.ensures.rest)))),
  rw c.in-Err.is c.refusal.ensures,
)

pub returns-in-Ok-clause-known : goal.returns-in-Ok-clause-known
returns-in-Ok-clause-known g c = known-unchanged g.B.Store.numbering g.I.TextIndex.rule (λ a b. b ≡ a) _ c.copied.result _ _ _ c.args.texts.now c.extend.ensures (λ walk b. YieldsList-from_copied (YieldsList-from_slice c.args.texts.now (let is : walk ≡ c.copied.result = b in rw (is, c.copied.ensures.source) c.iter.ensures.rest)))

pub returns-in-Err-clause-known : goal.returns-in-Err-clause-known
returns-in-Err-clause-known g c = known-unchanged g.B.Store.numbering g.I.TextIndex.rule (λ a b. b ≡ a) _ c.copied.result _ _ _ c.args.texts.now c.extend.ensures (λ walk b. YieldsList-from_copied (YieldsList-from_slice c.args.texts.now (let is : walk ≡ c.copied.result = b in ap (λ w. iter_rest (copied_source w)) is ∙ (ap iter_rest c.copied.ensures.source ∙ c.iter.ensures.rest))))
