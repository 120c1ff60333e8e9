use Rattle.std.proofs.Common.{◌≡◌, rules, replicate, ap, length, sym, ◌∙◌}
use Rattle.std.proofs.lemmas.List.{length-map, length-replicate}
use Rattle.string_interner.specs.Slots.{symbols}
use Rattle.string_interner.specs.Tagged.{symbol_in, symbols_in}
use Rattle.string_interner.proofs.Lemmas.Index.Rebuilt.{symbols-replicate}
use Rattle.string_interner.proofs.Lemmas.TaggedSlots.IsTagged.{slots_of-zeroes, IsTagged-zeroes}
use Rattle.string_interner.proofs.Lemmas.TaggedSlots.SymbolsIn.{symbols_in-none}
use Rattle.string_interner.proofs.dedup.tagged.TaggedSlotsLayout.clear.Goals as goal

pub returns-clause-empty : goal.returns-clause-empty
returns-clause-empty g c =
    let z : c.fill.new.self.items ≡ replicate (length c.self.inside.tags.items) 0 = search rules in
    rw z (ap (λ xs. symbols (symbols_in xs)) (slots_of-zeroes c.self.inside.count (length c.self.inside.tags.items) c.self.inside.items.items c.self.invariant.ahead c.self.invariant.all)
    ∙ ap symbols (symbols_in-none c.self.inside.count) ∙ symbols-replicate g.row.S.Denot c.self.inside.count)

pub returns-clause-count : goal.returns-clause-count
returns-clause-count g c =
    let z : c.fill.new.self.items ≡ replicate (length c.self.inside.tags.items) 0 = search rules in
    rw z (length-map _ symbol_in ∙ ap length (slots_of-zeroes c.self.inside.count (length c.self.inside.tags.items) c.self.inside.items.items c.self.invariant.ahead c.self.invariant.all)
    ∙ length-replicate c.self.inside.count _ ∙ sym c.self.invariant.counted ∙ ap length c.self.view_is ∙ sym (length-map c.args.self.now symbol_in))

pub invariant_of-self : goal.invariant_of-self
invariant_of-self g c =
    let z : c.fill.new.self.items ≡ replicate (length c.self.inside.tags.items) 0 = search rules in
    rw z (IsTagged-zeroes c.self.inside.count (length c.self.inside.tags.items) c.self.inside.items.items _ c.self.invariant.ahead c.self.invariant.all c.self.invariant.room)
