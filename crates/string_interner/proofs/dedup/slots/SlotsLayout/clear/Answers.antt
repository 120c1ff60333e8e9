use Rattle.std.proofs.Common.{rules, ◌≡◌, ◌-◌, ◌^◌, None, length, replicate, ap, ◌∙◌}
use Rattle.std.proofs.lemmas.List.{length-replicate}
use Rattle.string_interner.specs.Slots.{slots_stored, symbols}
use Rattle.string_interner.proofs.Lemmas.Index.Rebuilt.{symbols-replicate}
use Rattle.string_interner.proofs.Lemmas.Index.Stored.{cleared}
use Rattle.string_interner.proofs.dedup.slots.SlotsLayout.clear.Goals as goal

pub returns-clause-empty : goal.returns-clause-empty
returns-clause-empty g c =
    let numbers : c.fill.new.self.items ≡ replicate (length c.self.inside.numbers.items) (2 ^ 32 - 1) = search rules in
    let others : c.fill-2.new.self.items ≡ replicate (length c.self.inside.others.items) None = search rules in
    rw (numbers, others) (ap symbols (cleared g.S.Symbol.symbol_of c.self.inside.numbers.items c.self.inside.others.items c.self.invariant) ∙ symbols-replicate g.row.S.Denot (length (slots_stored g.S.Symbol.symbol_of c.self.inside.numbers.items c.self.inside.others.items)))

pub returns-clause-count : goal.returns-clause-count
returns-clause-count g c =
    let numbers : c.fill.new.self.items ≡ replicate (length c.self.inside.numbers.items) (2 ^ 32 - 1) = search rules in
    let others : c.fill-2.new.self.items ≡ replicate (length c.self.inside.others.items) None = search rules in
    rw (numbers, others) (ap length (cleared g.S.Symbol.symbol_of c.self.inside.numbers.items c.self.inside.others.items c.self.invariant) ∙ length-replicate (length (slots_stored g.S.Symbol.symbol_of c.self.inside.numbers.items c.self.inside.others.items)) None ∙ ap length c.self.view_is)
