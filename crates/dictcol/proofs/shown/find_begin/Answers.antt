use Rattle.std.proofs.Common.{◌≤◌, sym, ◌∙◌, arith}
use Rattle.std.specs.Str.{IsCharBoundary}
use Rattle.std.proofs.lemmas.Bool.{true≢false}
use Rattle.dictcol.proofs.LetterBegin.{at-begin, before-begin, not-first}
use Rattle.dictcol.proofs.shown.find_begin.Goals as goal

pub overflow_sub-begin : goal.overflow_sub-begin
overflow_sub-begin c =
    not-first c.args.text.now c.loop-begin.begin c.loop-begin.invariant.0 (λ is. true≢false (sym (c.is_char_boundary.ensures.test.1 is) ∙ c.loop-begin-test.true))

pub loop-begin-smaller : goal.loop-begin-smaller
loop-begin-smaller c =
    let some : 1 ≤ c.loop-begin.begin = not-first c.args.text.now c.loop-begin.begin c.loop-begin.invariant.0
    (λ is. true≢false (sym (c.is_char_boundary.ensures.test.1 is) ∙ c.loop-begin-test.true)) in
    omega arith

pub loop-begin-preserved : goal.loop-begin-preserved
loop-begin-preserved c =
    let inside = λ (is : IsCharBoundary c.args.text.now c.loop-begin.begin). true≢false (sym (c.is_char_boundary.ensures.test.1 is) ∙ c.loop-begin-test.true) in (
      c.loop-begin.invariant.0,
      omega (arith, c.loop-begin.invariant.1),
      before-begin c.args.text.now c.loop-begin.begin c.loop-begin.invariant.0 c.loop-begin.invariant.1 inside ∙ c.loop-begin.invariant.2,
    )

pub returns-clause-begin : goal.returns-clause-begin
returns-clause-begin c =
    sym (at-begin c.args.text.now c.loop-begin.begin c.loop-begin.invariant.1 (c.is_char_boundary.ensures.test.0 c.loop-begin-test.false)) ∙ c.loop-begin.invariant.2
