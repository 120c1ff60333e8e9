use Rattle.std.proofs.Common.{◌≡◌, ◌<◌, Some, None, set, length, arith, ap, ◌∙◌}
use Rattle.std.proofs.lemmas.List.{get_or-set_same, get_or-set_other, length-map, map-set}
use Rattle.string_interner.specs.declared.dedup.tagged.CodedSymbol.{CodedSymbol}
use Rattle.string_interner.specs.Tagged.{code_at, code_in, slots_of, symbol_in, symbols_in}
use Rattle.string_interner.proofs.Lemmas.TaggedSlots.IsTagged.{slots_of-put, IsTagged-put}
use Rattle.string_interner.proofs.dedup.tagged.TaggedSlotsLayout.set.Goals as goal
use Rattle.string_interner.proofs.dedup.tagged.TaggedSlotsLayout.set.Goals.{After-tag_of}
use Rattle.string_interner.proofs.dedup.tagged.TaggedSlotsLayout.set.Given.{Over}

abbrev item : (g : Over) → After-tag_of g → CodedSymbol g.row.S.Denot
item g c = record { symbol = c.args.symbol; code = c.stored_code-code.result }

within : (g : Over) (c : After-tag_of g) → c.args.at < c.self.inside.count
within g c = let n = length-map c.args.self.now symbol_in in let v = ap length c.self.view_is in let a = c.self.invariant.counted in let r = c.requires in omega arith

written : (g : Over) (c : After-tag_of g)
    → slots_of c.self.inside.count (set c.self.inside.tags.items c.args.at c.tag_of.result) (set c.fill_items.new.items.items c.args.at (item g c)) ≡ set c.args.self.now c.args.at (Some (item g c))
written g c =
    slots_of-put c.self.inside.count c.self.inside.tags.items c.self.inside.items.items c.fill_items.new.items.items _ _ c.self.invariant c.args.at c.tag_of.result (item g c)
    (λ z. c.fill_items.ensures.filled (omega arith)) (λ some. c.fill_items.ensures.same (omega arith)) c.fill_items.ensures.capacity (within g c) c.tag_of.ensures
    ∙ ap (λ xs. set xs c.args.at (Some (item g c))) c.self.view_is

pub returns-clause-slots : goal.returns-clause-slots
returns-clause-slots g c = ap symbols_in (written g (goal.at.returns-clause-slots g c).After-tag_of) ∙ map-set symbol_in c.args.self.now c.args.at _

pub invariant_of-self : goal.invariant_of-self
invariant_of-self g c =
    IsTagged-put c.self.inside.count c.self.inside.tags.items c.self.inside.items.items c.fill_items.new.items.items _ _ c.self.invariant c.args.at c.tag_of.result _
    (λ z. c.fill_items.ensures.filled (omega arith)) (λ some. c.fill_items.ensures.same (omega arith)) c.fill_items.ensures.capacity (within g (goal.at.invariant_of-self g c).After-tag_of) c.tag_of.ensures

pub returns-clause-stored : goal.returns-clause-stored
returns-clause-stored g c =
    let n = length-map c.args.self.now symbol_in in let r = c.requires in
    ap (λ xs. code_at xs c.args.at) (written g (goal.at.returns-clause-stored g c).After-tag_of) ∙ ap code_in (get_or-set_same c.args.self.now c.args.at _ None (omega arith)) ∙ c.stored_code-code.ensures

pub returns-clause-others : goal.returns-clause-others
returns-clause-others g c k ne = ap (λ xs. code_at xs k) (written g (goal.at.returns-clause-others g c).After-tag_of) ∙ ap code_in (get_or-set_other c.args.self.now c.args.at k _ None ne)
