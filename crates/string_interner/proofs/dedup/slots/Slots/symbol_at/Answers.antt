use Rattle.std.proofs.Common.{rules, ◌≡◌, ◌<◌, ◌-◌, ◌^◌, Some, None, length, get_or, ap, refl, sym, ◌∙◌, arith}
use Rattle.std.proofs.lemmas.List.{get_or_read}
use Rattle.std.specs.Option.{IsNone}
use Rattle.string_interner.proofs.Lemmas.Index.Stored.{is-none, length-is, none_beyond, reads, within-others}
use Rattle.string_interner.proofs.dedup.slots.Slots.symbol_at.Goals as goal
use Rattle.string_interner.proofs.dedup.slots.Slots.symbol_at.Goals.{then-has_narrow_numbers, else-has_narrow_numbers}

pub index-requires-2 : goal.index-requires-2
index-requires-2 g c =
    let free : IsNone (g.S.Symbol.symbol_of (2 ^ 32 - 1)) = search rules in
    let l = length-is g.S.Symbol.symbol_of c.self.inside.numbers.items c.self.inside.others.items c.args.self.now c.self.invariant c.self.view_is free in
    let within : c.args.at < length c.self.inside.numbers.items = omega (arith, l, c.requires) in
    search rules

pub index-requires-in-None-2 : goal.index-requires-in-None-2
index-requires-in-None-2 g c =
    let free : IsNone (g.S.Symbol.symbol_of (2 ^ 32 - 1)) = search rules in
    let some : 0 < length c.self.inside.others.items = search rules in
    let within = within-others g.S.Symbol.symbol_of c.self.inside.numbers.items c.self.inside.others.items c.args.self.now c.self.invariant c.self.view_is c.args.at free c.requires
    (λ nothing. let l = ap length nothing.0 in omega (arith, l, some)) in
    search rules

pub returns-in-Some : goal.returns-in-Some
returns-in-Some g c =
    let free : IsNone (g.S.Symbol.symbol_of (2 ^ 32 - 1)) = search rules in
    let l = length-is g.S.Symbol.symbol_of c.self.inside.numbers.items c.self.inside.others.items c.args.self.now c.self.invariant c.self.view_is free in
    let read = get_or_read c.self.inside.numbers.items c.args.at c.index-2.result.now (omega (arith, l, c.requires)) c.index-2.ensures 0 in
    let found : g.S.Symbol.symbol_of c.index-2.result.now ≡ Some c.in-Some.symbol = search rules in
    sym (reads g.S.Symbol.symbol_of c.self.inside.numbers.items c.self.inside.others.items c.args.self.now c.self.invariant c.self.view_is c.args.at 0 free c.requires ∙ rw (sym read, found) refl)

pub returns-in-None : goal.returns-in-None
returns-in-None g c =
    let free : IsNone (g.S.Symbol.symbol_of (2 ^ 32 - 1)) = search rules in
    let l = length-is g.S.Symbol.symbol_of c.self.inside.numbers.items c.self.inside.others.items c.args.self.now c.self.invariant c.self.view_is free in
    let read = get_or_read c.self.inside.numbers.items c.args.at c.index-2.result.now (omega (arith, l, c.requires)) c.index-2.ensures 0 in
    let lost : g.S.Symbol.symbol_of c.index-2.result.now ≡ None = search rules in
    let other : get_or c.self.inside.others.items c.args.at None ≡ None = elim c.if-has_narrow_numbers.branch [
      | then-has_narrow_numbers w ↦ is-none g.S.Symbol.symbol_of _ (c.self.invariant.unused (w.if-has_narrow_numbers.ensures refl) c.args.at)
      | else-has_narrow_numbers w ↦ (let empty : length c.self.inside.others.items ≡ 0 = search rules in none_beyond g.S.Symbol.symbol_of _ c.args.at empty)
    ] in
    sym (reads g.S.Symbol.symbol_of c.self.inside.numbers.items c.self.inside.others.items c.args.self.now c.self.invariant c.self.view_is c.args.at 0 free c.requires ∙ rw (sym read, lost) other)

pub returns-in-None-2 : goal.returns-in-None-2
returns-in-None-2 g c =
    let free : IsNone (g.S.Symbol.symbol_of (2 ^ 32 - 1)) = search rules in
    let l = length-is g.S.Symbol.symbol_of c.self.inside.numbers.items c.self.inside.others.items c.args.self.now c.self.invariant c.self.view_is free in
    let read = get_or_read c.self.inside.numbers.items c.args.at c.index-2.result.now (omega (arith, l, c.requires)) c.index-2.ensures 0 in
    let lost : g.S.Symbol.symbol_of c.index-2.result.now ≡ None = search rules in
    let some : 0 < length c.self.inside.others.items = search rules in
    let within = within-others g.S.Symbol.symbol_of c.self.inside.numbers.items c.self.inside.others.items c.args.self.now c.self.invariant c.self.view_is c.args.at free c.requires
    (λ nothing. let m = ap length nothing.0 in omega (arith, m, some)) in
    let other = get_or_read c.self.inside.others.items c.args.at c.index-in-None-2.result.now within c.index-in-None-2.ensures None in
    sym (reads g.S.Symbol.symbol_of c.self.inside.numbers.items c.self.inside.others.items c.args.self.now c.self.invariant c.self.view_is c.args.at 0 free c.requires ∙ rw (sym read, lost) (sym other))
