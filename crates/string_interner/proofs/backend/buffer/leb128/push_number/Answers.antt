use Rattle.std.proofs.Common.{ℕ, ◌+◌, ◌%◌, ◌/◌, List, ◌∷◌, [], ◌++◌, ap, sym, ◌∙◌, append_assoc, arith}
use Rattle.string_interner.specs.Spelling.{spell}
use Rattle.string_interner.specs.BufferLaws.{spell-small, spell-large, digits-small, digits-large, digits-least_count}
use Rattle.string_interner.proofs.backend.buffer.leb128.push_number.Goals as goal

pub push_reserved-requires : goal.push_reserved-requires
push_reserved-requires c = omega (arith, c.loop-number.invariant.room, (digits-least_count c.loop-number.number).positive)

pub loop-number-preserved : goal.loop-number-preserved
loop-number-preserved c = record {
  spelled = ap (λ (bytes : List ℕ). bytes ++ spell (c.loop-number.number / 128)) c.push_reserved.ensures.items
      ∙ append_assoc c.loop-number.buffer.items ((128 + c.loop-number.number % 128) ∷ []) (spell (c.loop-number.number / 128))
      ∙ ap (λ (bytes : List ℕ). c.loop-number.buffer.items ++ bytes) (sym (spell-large c.loop-number.number c.loop-number-test.true))
      ∙ c.loop-number.invariant.spelled;
  len = omega (arith, c.loop-number.invariant.len, c.push_reserved.ensures.len, digits-large c.loop-number.number c.loop-number-test.true);
  room = omega (arith, c.loop-number.invariant.room, c.push_reserved.ensures.len, c.push_reserved.ensures.capacity, digits-large c.loop-number.number c.loop-number-test.true);
  capacity = c.push_reserved.ensures.capacity ∙ c.loop-number.invariant.capacity;
}

pub push_reserved-requires-2 : goal.push_reserved-requires-2
push_reserved-requires-2 c = omega (arith, c.loop-number.invariant.room, (digits-least_count c.loop-number.number).positive)

pub returns-clause-items : goal.returns-clause-items
returns-clause-items c = c.push_reserved-2.ensures.items
    ∙ ap (λ (bytes : List ℕ). c.loop-number.buffer.items ++ bytes) (sym (spell-small c.loop-number.number c.loop-number-test.false))
    ∙ c.loop-number.invariant.spelled

pub returns-clause-len : goal.returns-clause-len
returns-clause-len c = omega (arith, c.push_reserved-2.ensures.len, digits-small c.loop-number.number c.loop-number-test.false, c.loop-number.invariant.len)
