use Rattle.std.proofs.Common.{rules}
use Rattle.string_interner.proofs.Lemmas.Texts.Words.{eights_decide}
use Rattle.string_interner.proofs.equal_texts.eights_are_equal.Goals as goal

pub returns-then-first_a-first_b : goal.returns-then-first_a-first_b
returns-then-first_a-first_b c = eights_decide c.args.a.now c.args.b.now c.from_le_bytes-first_a.result c.from_le_bytes-first_b.result _ _
    (search rules) (search rules) (search rules) (search rules) (search rules)
    (search rules) (search rules) (search rules) (search rules) c.if-first_a-first_b.true
