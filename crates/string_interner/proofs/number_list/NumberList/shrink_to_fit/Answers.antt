use Rattle.std.proofs.Common.{◌≡◌, ◌+◌, length, ap, sym, ◌∙◌, rules}
use Rattle.std.proofs.lemmas.List.{length-append}
use Rattle.string_interner.specs.NumberList.{NumberListContents}
use Rattle.string_interner.proofs.number_list.NumberList.shrink_to_fit.Goals as goal

pub returns-then-capacity-len-clause-frees : goal.returns-then-capacity-len-clause-frees
returns-then-capacity-len-clause-frees c = λ empty.
    let n : length c.self.inside.narrow.items + length c.self.inside.wide.items ≡ 0 = sym (length-append c.self.inside.narrow.items c.self.inside.wide.items) ∙ ap length (ap (λ (l : NumberListContents). l.items) c.self.view_is ∙ empty) in
    search rules

pub returns-else-capacity-len-clause-frees : goal.returns-else-capacity-len-clause-frees
returns-else-capacity-len-clause-frees c = λ empty.
    let n : length c.self.inside.narrow.items + length c.self.inside.wide.items ≡ 0 = sym (length-append c.self.inside.narrow.items c.self.inside.wide.items) ∙ ap length (ap (λ (l : NumberListContents). l.items) c.self.view_is ∙ empty) in
    search rules
