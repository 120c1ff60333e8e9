use Rattle.std.proofs.Common.{◌+◌, arith, refl, ap, subst, sym, ◌∙◌, length}
use Rattle.string_interner.specs.Layout.{KeepsFilled}
use Rattle.string_interner.specs.Slots.{symbols}
use Rattle.string_interner.specs.Table.{HasRoom}
use Rattle.string_interner.proofs.Lemmas.Table.IsCoded.{Fills-keeps}
use Rattle.string_interner.proofs.Lemmas.Table.IsSoundTable.{HasFreeSlot-sound, IsSoundTable-filled, entries-lt}
use Rattle.string_interner.proofs.Lemmas.Table.IsTable.{inserted}
use Rattle.string_interner.proofs.Lemmas.Index.LookUp.{FillsSlot-symbols, FillsSlot-length}
use Rattle.string_interner.proofs.dedup.table.Table.insert_at.Goals as goal

pub occupy-requires-clause-free : goal.occupy-requires-clause-free
occupy-requires-clause-free g c =
    let less = entries-lt g.L.Layout.layout g.met.L.Layout.layout_laws.load _ _ c.self.invariant (subst (HasRoom g.L.Layout.layout) (sym c.self.view_is) c.requires.room) in
    HasFreeSlot-sound g.L.Layout.layout g.met.L.Layout.layout_laws.load _ _ c.self.invariant (omega arith)

pub overflow_add-self : goal.overflow_add-self
overflow_add-self g c =
    let less = entries-lt g.L.Layout.layout g.met.L.Layout.layout_laws.load _ _ c.self.invariant (subst (HasRoom g.L.Layout.layout) (sym c.self.view_is) c.requires.room) in
    omega (arith, c.occupy.ensures.small)

pub invariant_of-self : goal.invariant_of-self
invariant_of-self g c =
    let n = c.self.invariant.counted in
    IsSoundTable-filled g.L.Layout.layout g.met.L.Layout.layout_laws.load _ _ c.self.invariant _ _
    (subst (λ m. g.L.Layout.layout.holds (length (g.L.Layout.layout.slots c.self.inside.slots)) (m + 1)) (sym n) (subst (HasRoom g.L.Layout.layout) (sym c.self.view_is) c.requires.room))
    (FillsSlot-symbols _ _ _ _ c.occupy.ensures.puts.slot ∙ sym (ap (λ m. m + 1) n)) (FillsSlot-length _ _ _ _ c.occupy.ensures.puts.slot) refl (omega arith) (omega arith)

pub returns-clause-inserts : goal.returns-clause-inserts
returns-clause-inserts g c =
    rw (← c.self.view_is) (inserted g.L.Layout.layout g.met.L.Layout.layout_laws _ _ _ _ c.occupy.ensures.puts refl (let n = c.self.invariant.counted in omega arith))

pub returns-clause-kept : goal.returns-clause-kept
returns-clause-kept g c = subst (λ x. KeepsFilled g.L.Layout.layout x.slots c.occupy.new.slots) c.self.view_is (Fills-keeps g.L.Layout.layout _ _ _ _ _ c.occupy.ensures.puts)

pub returns-clause-count : goal.returns-clause-count
returns-clause-count g c = FillsSlot-symbols _ _ _ _ c.occupy.ensures.puts.slot ∙ ap (λ x. length (symbols (g.L.Layout.layout.slots x.slots)) + 1) c.self.view_is

pub returns-clause-slots : goal.returns-clause-slots
returns-clause-slots g c = FillsSlot-length _ _ _ _ c.occupy.ensures.puts.slot ∙ ap (λ x. length (g.L.Layout.layout.slots x.slots)) c.self.view_is
