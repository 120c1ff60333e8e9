use Rattle.std.proofs.Common.{rules, ◌≡◌, ◌-◌, ◌^◌, length, sym, ◌∙◌}
use Rattle.std.specs.Option.{IsNone}
use Rattle.string_interner.proofs.Lemmas.Index.Stored.{length-is}
use Rattle.string_interner.proofs.dedup.slots.SlotsLayout.len.Goals as goal

pub returns-then-has_numbers : goal.returns-then-has_numbers
returns-then-has_numbers g c =
    let free : IsNone (g.S.Symbol.symbol_of (2 ^ 32 - 1)) = search rules in
    let count : c.len.result ≡ length c.self.inside.numbers.items = search rules in
    count ∙ sym (length-is g.S.Symbol.symbol_of c.self.inside.numbers.items c.self.inside.others.items c.args.self.now c.self.invariant c.self.view_is free)
