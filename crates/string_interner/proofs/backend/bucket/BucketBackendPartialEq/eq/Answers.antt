use Rattle.std.proofs.Common.{◌∙◌, sym, arith}
use Rattle.string_interner.proofs.Lemmas.Texts.Equal.{texts_eq-differ, take-same_more, texts_eq-same}
use Rattle.string_interner.proofs.backend.bucket.BucketBackendPartialEq.eq.Goals as goal

pub returns-then-ne : goal.returns-then-ne
returns-then-ne g c = texts_eq-differ _ _ c.loop-i.i _ _ c.text_at.ensures.text c.text_at-in-loop-i.ensures.text (sym c.ne.ensures ∙ c.if-ne.true)

pub loop-i-preserved : goal.loop-i-preserved
loop-i-preserved g c = take-same_more _ _ c.loop-i.i _ _ c.text_at.ensures.text c.text_at-in-loop-i.ensures.text (sym c.ne.ensures ∙ c.if-ne.false) (omega arith) (omega arith) c.loop-i.invariant

pub returns : goal.returns
returns g c = texts_eq-same _ _ c.loop-i.i (omega arith) (omega arith) c.loop-i.invariant
