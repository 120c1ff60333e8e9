use Rattle.std.proofs.Common.{None, set, length, arith, ap, ◌∙◌}
use Rattle.std.proofs.lemmas.List.{get_or-set_other, length-map, map-set}
use Rattle.string_interner.specs.Tagged.{code_at, code_in, symbol_in, symbols_in}
use Rattle.string_interner.proofs.Lemmas.TaggedSlots.IsTagged.{slots_of-unset, IsTagged-unset}
use Rattle.string_interner.proofs.dedup.tagged.TaggedSlotsLayout.unset.Goals as goal

pub returns-clause-slots : goal.returns-clause-slots
returns-clause-slots g c =
    ap symbols_in (slots_of-unset c.self.inside.count c.self.inside.tags.items c.self.inside.items.items c.args.at ∙ ap (λ xs. set xs c.args.at None) c.self.view_is) ∙ map-set symbol_in c.args.self.now c.args.at None

pub returns-clause-others : goal.returns-clause-others
returns-clause-others g c k ne =
    ap (λ xs. code_at xs k) (slots_of-unset c.self.inside.count c.self.inside.tags.items c.self.inside.items.items c.args.at ∙ ap (λ xs. set xs c.args.at None) c.self.view_is)
    ∙ ap code_in (get_or-set_other c.args.self.now c.args.at k None None ne)

pub invariant_of-self : goal.invariant_of-self
invariant_of-self g c =
    let n = length-map c.args.self.now symbol_in in let v = ap length c.self.view_is in let a = c.self.invariant.counted in let r = c.requires in
    IsTagged-unset c.self.inside.count c.self.inside.tags.items c.self.inside.items.items _ c.self.invariant c.args.at (omega arith)
