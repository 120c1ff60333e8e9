use Rattle.std.proofs.Common.{rules, ◌<◌, ◌-◌, ◌^◌, None, length, ap, set, ◌∙◌, arith}
use Rattle.std.specs.Option.{IsNone}
use Rattle.string_interner.specs.Slots.{slots_stored}
use Rattle.string_interner.proofs.Lemmas.Index.Stored.{is-none, length-is, none-stored, set-none, set-past, within-others}
use Rattle.string_interner.proofs.dedup.slots.SlotsLayout.unset.Goals as goal

pub index_mut-requires-2 : goal.index_mut-requires-2
index_mut-requires-2 g c =
    let free : IsNone (g.S.Symbol.symbol_of (2 ^ 32 - 1)) = search rules in
    let l = length-is g.S.Symbol.symbol_of c.self.inside.numbers.items c.self.inside.others.items c.args.self.now c.self.invariant c.self.view_is free in
    let within : c.args.at < length c.self.inside.numbers.items = omega (arith, l, c.requires) in
    search rules

pub index_mut-requires-then-not-is_empty : goal.index_mut-requires-then-not-is_empty
index_mut-requires-then-not-is_empty g c =
    let free : IsNone (g.S.Symbol.symbol_of (2 ^ 32 - 1)) = search rules in
    let within = within-others g.S.Symbol.symbol_of c.self.inside.numbers.items c.self.inside.others.items c.args.self.now c.self.invariant c.self.view_is c.args.at free c.requires
    (λ nothing. let none = ap length nothing.0 in let some = c.if-not-is_empty.ensures in grind arith) in
    search rules

pub invariant_of-self-then-not-is_empty : goal.invariant_of-self-then-not-is_empty
invariant_of-self-then-not-is_empty g c = none-stored g.S.Symbol.symbol_of c.self.inside.numbers.items c.self.inside.others.items c.args.at (2 ^ 32 - 1) c.self.invariant

pub returns-then-not-is_empty-clause-slots : goal.returns-then-not-is_empty-clause-slots
returns-then-not-is_empty-clause-slots g c =
    let free : IsNone (g.S.Symbol.symbol_of (2 ^ 32 - 1)) = search rules in
    set-none g.S.Symbol.symbol_of c.self.inside.numbers.items c.self.inside.others.items c.args.at (2 ^ 32 - 1) (is-none g.S.Symbol.symbol_of _ free) ∙ ap (λ xs. set xs c.args.at None) c.self.view_is

pub returns-else-not-is_empty-clause-slots : goal.returns-else-not-is_empty-clause-slots
returns-else-not-is_empty-clause-slots g c =
    let free : IsNone (g.S.Symbol.symbol_of (2 ^ 32 - 1)) = search rules in
    ap (slots_stored g.S.Symbol.symbol_of (set c.self.inside.numbers.items c.args.at (2 ^ 32 - 1))) (set-past g.S.Symbol.symbol_of c.self.inside.others.items c.args.at (grind (arith, c.if-not-is_empty.ensures)))
    ∙ set-none g.S.Symbol.symbol_of c.self.inside.numbers.items c.self.inside.others.items c.args.at (2 ^ 32 - 1) (is-none g.S.Symbol.symbol_of _ free) ∙ ap (λ xs. set xs c.args.at None) c.self.view_is
