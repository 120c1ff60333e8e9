use Rattle.std.proofs.Common.{rules, ◌≡◌, ◌<◌, ◌-◌, ◌^◌, Some, length, ap, set, ◌∙◌, arith}
use Rattle.std.specs.Option.{IsNone}
use Rattle.string_interner.specs.Symbol.{AreNarrow}
use Rattle.string_interner.proofs.Lemmas.Index.Stored.{is-none, length-is, other-stored, set-number, set-other, within-others}
use Rattle.string_interner.proofs.dedup.slots.SlotsLayout.set.Goals as goal

pub index_mut-requires-in-Some : goal.index_mut-requires-in-Some
index_mut-requires-in-Some g c =
    let free : IsNone (g.S.Symbol.symbol_of (2 ^ 32 - 1)) = search rules in
    let l = length-is g.S.Symbol.symbol_of c.self.inside.numbers.items c.self.inside.others.items c.args.self.now c.self.invariant c.self.view_is free in
    let within : c.args.at < length c.self.inside.numbers.items = omega (arith, l, c.requires) in
    search rules

pub index_mut-requires-in-None : goal.index_mut-requires-in-None
index_mut-requires-in-None g c =
    let free : IsNone (g.S.Symbol.symbol_of (2 ^ 32 - 1)) = search rules in
    let l = length-is g.S.Symbol.symbol_of c.self.inside.numbers.items c.self.inside.others.items c.args.self.now c.self.invariant c.self.view_is free in
    let within : c.args.at < length c.self.inside.numbers.items = omega (arith, l, c.requires) in
    search rules

pub index_mut-requires-in-None-2 : goal.index_mut-requires-in-None-2
index_mut-requires-in-None-2 g c =
    let free : IsNone (g.S.Symbol.symbol_of (2 ^ 32 - 1)) = search rules in
    let wide : ¬ AreNarrow g.S.Symbol.symbol_of = search rules in
    let within = within-others g.S.Symbol.symbol_of c.self.inside.numbers.items c.self.inside.others.items c.args.self.now c.self.invariant c.self.view_is c.args.at free c.requires
    (λ nothing. wide nothing.1) in
    search rules

pub invariant_of-self-in-None : goal.invariant_of-self-in-None
invariant_of-self-in-None g c =
    let wide : ¬ AreNarrow g.S.Symbol.symbol_of = search rules in
    other-stored g.S.Symbol.symbol_of c.self.inside.numbers.items c.self.inside.others.items c.args.at (2 ^ 32 - 1) (Some c.args.symbol) c.self.invariant wide

pub returns-in-Some-clause-slots : goal.returns-in-Some-clause-slots
returns-in-Some-clause-slots g c =
    let free : IsNone (g.S.Symbol.symbol_of (2 ^ 32 - 1)) = search rules in
    let l = length-is g.S.Symbol.symbol_of c.self.inside.numbers.items c.self.inside.others.items c.args.self.now c.self.invariant c.self.view_is free in
    let found : g.S.Symbol.symbol_of c.in-Some.number ≡ Some c.args.symbol = search rules in
    set-number g.S.Symbol.symbol_of c.self.inside.numbers.items c.self.inside.others.items c.args.at c.in-Some.number c.args.symbol (omega (arith, l, c.requires)) found
    ∙ ap (λ xs. set xs c.args.at (Some c.args.symbol)) c.self.view_is

pub returns-in-None-clause-slots : goal.returns-in-None-clause-slots
returns-in-None-clause-slots g c =
    let free : IsNone (g.S.Symbol.symbol_of (2 ^ 32 - 1)) = search rules in
    let l = length-is g.S.Symbol.symbol_of c.self.inside.numbers.items c.self.inside.others.items c.args.self.now c.self.invariant c.self.view_is free in
    let wide : ¬ AreNarrow g.S.Symbol.symbol_of = search rules in
    let within = within-others g.S.Symbol.symbol_of c.self.inside.numbers.items c.self.inside.others.items c.args.self.now c.self.invariant c.self.view_is c.args.at free c.requires
    (λ nothing. wide nothing.1) in
    set-other g.S.Symbol.symbol_of c.self.inside.numbers.items c.self.inside.others.items c.args.at (2 ^ 32 - 1) c.args.symbol (omega (arith, l, c.requires)) within (is-none g.S.Symbol.symbol_of _ free)
    ∙ ap (λ xs. set xs c.args.at (Some c.args.symbol)) c.self.view_is
