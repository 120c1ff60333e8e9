use Rattle.std.proofs.Common.{arith}
use Rattle.string_interner.specs.BufferLaws.{digits-small, digits-large, digits-least_count, digits-ten}
use Rattle.string_interner.proofs.backend.buffer.leb128.digit_count.Goals as goal

pub overflow_add-count : goal.overflow_add-count
overflow_add-count c = omega (arith, c.loop-number.invariant, (digits-least_count c.loop-number.number).positive, digits-ten c.args.number c.ranges.number.fits)

pub loop-number-preserved : goal.loop-number-preserved
loop-number-preserved c = omega (arith, c.loop-number.invariant, digits-large c.loop-number.number c.loop-number-test.true)

pub returns : goal.returns
returns c = omega (arith, c.loop-number.invariant, digits-small c.loop-number.number c.loop-number-test.false)
