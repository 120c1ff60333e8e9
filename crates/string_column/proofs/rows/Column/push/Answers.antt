use Rattle.std.proofs.Common.{[], ◌∷◌, ◌++◌, ap, ◌∙◌}
use Rattle.string_column.proofs.Lemmas.Rows.{column-pushed}
use Rattle.string_column.proofs.rows.Column.push.Goals as goal

pub invariant_of-self-2 : goal.invariant_of-self-2
invariant_of-self-2 g c =
    (column-pushed c.self.inside.dictionary c.intern.new.self c.self.inside.codes.items c.push_reserved.new.self.items _ c.in_ok-code.code c.args.row.now c.self.invariant
    (c.push_reserved.ensures.items ∙ ap (λ codes. codes ++ c.in_ok-code.code ∷ []) c.reserve.ensures.items) c.in_ok-code.ensures.0 c.in_ok-code.ensures.1).0

pub returns : goal.returns
returns g c = rw (← c.self.view_is)
    (let all = column-pushed c.self.inside.dictionary c.intern.new.self c.self.inside.codes.items c.push_reserved.new.self.items _ c.in_ok-code.code c.args.row.now c.self.invariant
    (c.push_reserved.ensures.items ∙ ap (λ codes. codes ++ c.in_ok-code.code ∷ []) c.reserve.ensures.items) c.in_ok-code.ensures.0 c.in_ok-code.ensures.1 in
    (all.1, all.2))
