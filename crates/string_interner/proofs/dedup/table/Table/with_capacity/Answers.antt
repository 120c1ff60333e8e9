use Rattle.std.proofs.Common.{◌≡◌, None, refl, ap, sym, subst, ◌∙◌, length}
use Rattle.std.proofs.lemmas.List.{length-replicate}
use Rattle.string_interner.specs.LoadFactor.{IsSlotCount}
use Rattle.string_interner.specs.Slots.{symbols}
use Rattle.string_interner.proofs.Lemmas.Index.Rebuilt.{no_symbols, symbols-replicate}
use Rattle.string_interner.proofs.Lemmas.Table.IsSoundTable.{IsSoundTable-empty}
use Rattle.string_interner.proofs.Lemmas.Table.IsTable.{FitsAll-empty}
use Rattle.string_interner.proofs.dedup.table.Table.with_capacity.Goals as goal

pub returns-clause-slots : goal.returns-clause-slots
returns-clause-slots g c =
    rw (ap length c.in_ok-empty.ensures ∙ length-replicate c.in_ok-count.count None) (rw c.in_ok-count.ensures.ok_part at c.least_slot_count.ensures.least)

pub returns-clause-count : goal.returns-clause-count
returns-clause-count g c = ap (λ xs. length (symbols xs)) c.in_ok-empty.ensures ∙ no_symbols g.row.S.Denot c.in_ok-count.count

pub returns-clause-fits : goal.returns-clause-fits
returns-clause-fits g c = FitsAll-empty g.L.Layout.layout g.met.L.Layout.layout_laws _ (ap symbols c.in_ok-empty.ensures ∙ symbols-replicate g.row.S.Denot c.in_ok-count.count)

pub invariant_of-result : goal.invariant_of-result
invariant_of-result g c =
    let n : length (g.L.Layout.layout.slots c.in_ok-empty.field-0) ≡ c.in_ok-count.count = ap length c.in_ok-empty.ensures ∙ length-replicate c.in_ok-count.count None in
    let least = rw c.in_ok-count.ensures.ok_part at c.least_slot_count.ensures.least in
    IsSoundTable-empty g.L.Layout.layout g.met.L.Layout.layout_laws.load _ c.args.capacity (ap (λ xs. length (symbols xs)) c.in_ok-empty.ensures ∙ no_symbols g.row.S.Denot c.in_ok-count.count) refl
    (subst IsSlotCount (sym n) least.allowed) (subst (λ m. g.L.Layout.layout.holds m c.args.capacity) (sym n) least.room)
