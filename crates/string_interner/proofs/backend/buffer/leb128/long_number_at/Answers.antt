use Rattle.std.proofs.Common.{◌≡◌, ◌≤◌, get_or, sym, below_more, arith}
use Rattle.std.proofs.lemmas.Grind.{pow_more}
use Rattle.string_interner.proofs.Lemmas.BufferBackend.Spelling.{value-take_more, digit_fits, front_len_goes, front_there, no_tenth, front_ends}
use Rattle.string_interner.proofs.backend.buffer.leb128.long_number_at.Goals as goal
use Rattle.string_interner.proofs.backend.buffer.leb128.long_number_at.Goals.{After-from, else-i-eq-LAST-via-then-i-eq-LAST+else-byte-gt1, else-i-eq-LAST-via-else-i-eq-LAST}

pub returns-then-byte-gt1 : goal.returns-then-byte-gt1
returns-then-byte-gt1 c = no_tenth c.args.bytes.now c.loop-i.i c.if-i-eq-LAST.true c.loop-i-test.true c.loop-i.invariant.marked c.if-byte-gt1.true

-- a tenth byte is at most one
tenth : (c : After-from) → c.loop-i.i ≡ 9 → get_or c.args.bytes.now c.loop-i.i 0 ≤ 1
tenth c = elim c.else-i-eq-LAST.branch [ else-i-eq-LAST-via-then-i-eq-LAST+else-byte-gt1 w ↦ (λ _. w.if-byte-gt1.false) | else-i-eq-LAST-via-else-i-eq-LAST w ↦ (λ e. absurd (w.if-i-eq-LAST.false e)) ]

pub overflow_add-number : goal.overflow_add-number
overflow_add-number c = omega (arith, digit_fits c.args.bytes.now c.loop-i.i c.loop-i.unit c.loop-i.number c.from.result c.loop-i.invariant.few c.loop-i.auto.i-end (tenth c) c.loop-i.invariant.number c.loop-i.invariant.unit c.from.ensures)

pub returns-then-byte-lt128 : goal.returns-then-byte-lt128
returns-then-byte-lt128 c =
    let f = front_ends c.args.bytes.now c.loop-i.i c.loop-i.unit c.loop-i.number c.from.result c.loop-i.invariant.few c.loop-i-test.true (tenth (goal.at.returns-then-byte-lt128 c).After-from) c.loop-i.invariant.marked c.if-byte-lt128.true c.loop-i.invariant.number c.loop-i.invariant.unit c.from.ensures in
    (f.there, rw (f.number_is, f.len_is))

pub loop-i-preserved : goal.loop-i-preserved
loop-i-preserved c = record {
  few = elim c.else-i-eq-LAST.branch [ else-i-eq-LAST-via-then-i-eq-LAST+else-byte-gt1 w ↦ omega arith | else-i-eq-LAST-via-else-i-eq-LAST w ↦ omega arith ];
  marked = below_more (λ k. 128 ≤ get_or c.args.bytes.now k 0) c.loop-i.i c.loop-i.invariant.marked c.if-byte-lt128.false;
  number = rw (c.loop-i.invariant.number, c.loop-i.invariant.unit, c.from.ensures) (sym (value-take_more c.args.bytes.now c.loop-i.i c.loop-i-test.true));
  unit = omega (arith, c.loop-i.invariant.unit, pow_more 128 c.loop-i.i);
}

pub returns : goal.returns
returns c = λ is. let f = front_there c.args.bytes.now is in omega (arith, f.0, front_len_goes c.args.bytes.now c.loop-i.i (omega arith) c.loop-i.invariant.marked)

-- a number of at most ten digits, the last of which is at most one, fits
pub returns-then-number : goal.returns-then-number
returns-then-number c = λ is. omega (arith, digit_fits c.args.bytes.now c.loop-i.i c.loop-i.unit c.loop-i.number c.from.result c.loop-i.invariant.few c.loop-i.auto.i-end (tenth (goal.at.returns-then-number c).After-from) c.loop-i.invariant.number c.loop-i.invariant.unit c.from.ensures, c.if-number.true)
