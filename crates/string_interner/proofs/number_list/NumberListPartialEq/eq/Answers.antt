use Rattle.std.proofs.Common.{rules, ◌≡◌, length}
use Rattle.string_interner.proofs.Lemmas.Texts.Equal.{bytes_eq-append}
use Rattle.string_interner.proofs.number_list.NumberListPartialEq.eq.Goals as goal

pub returns-then-eq : goal.returns-then-eq
returns-then-eq c =
    let n : length c.self.inside.narrow.items ≡ length c.other.inside.narrow.items = search rules in
    rw (← c.self.view_is, ← c.other.view_is, ← bytes_eq-append _ c.self.inside.wide.items _ c.other.inside.wide.items n) (search rules)

pub returns-else-eq : goal.returns-else-eq
returns-else-eq c =
    let n : length c.self.inside.narrow.items ≡ length c.other.inside.narrow.items = search rules in
    rw (← c.self.view_is, ← c.other.view_is, ← bytes_eq-append _ c.self.inside.wide.items _ c.other.inside.wide.items n) (search rules)
