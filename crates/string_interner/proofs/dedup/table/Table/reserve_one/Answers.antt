use Rattle.std.proofs.Common.{ap, subst, arith, length}
use Rattle.string_interner.specs.Entry.{entry_text}
use Rattle.string_interner.specs.LoadFactor.{GrowsTo}
use Rattle.string_interner.specs.LoadFactorLaws.{IsSlotCount-grown}
use Rattle.string_interner.specs.Probe.{Rebuilt}
use Rattle.string_interner.proofs.Lemmas.Index.Rebuilt.{Rebuilt-same}
use Rattle.string_interner.proofs.Lemmas.Index.Vacancy.{IsVacant-grown}
use Rattle.string_interner.proofs.Lemmas.Index.SlotCount.{GrowsTo-more}
use Rattle.string_interner.proofs.Lemmas.Table.IsTable.{Fits-of}
use Rattle.string_interner.proofs.dedup.table.Table.reserve_one.Goals as goal

pub returns-clause-same : goal.returns-clause-same
returns-clause-same g c =
    let entry = entry_text g.B.Store.numbering (g.B.Store.texts c.args.backend.now) in let code = g.H.TextHasher.code c.args.hasher.now in let slots = g.L.Layout.layout.slots in
    rw c.grow.ensures.slots (Rebuilt-same entry code (slots c.args.self.now.slots) (slots c.in_ok-bigger.bigger) (Fits-of g.L.Layout.layout g.met.L.Layout.layout_laws entry code c.args.self.now.slots c.requires)
    (subst (λ x. Rebuilt entry code (slots x.slots) (slots c.in_ok-bigger.bigger)) c.self.view_is c.in_ok-bigger.ensures.made))

pub rehash-requires-clause-count : goal.rehash-requires-clause-count
rehash-requires-clause-count g c = IsSlotCount-grown _ _ c.self.invariant.bounded.allowed
    (subst (λ n. GrowsTo n c.in_ok-count.count) c.len.ensures (rw c.in_ok-count.ensures.ok_part at c.next_slot_count.ensures.some))

pub rehash-requires-clause-more : goal.rehash-requires-clause-more
rehash-requires-clause-more g c = GrowsTo-more _ _
    (subst (λ n. GrowsTo n c.in_ok-count.count) c.len.ensures (rw c.in_ok-count.ensures.ok_part at c.next_slot_count.ensures.some))

pub returns-clause-vacant : goal.returns-clause-vacant
returns-clause-vacant g c = λ code vacancy is.
    let more = GrowsTo-more _ _ (subst (λ n. GrowsTo n c.in_ok-count.count) c.len.ensures (rw c.in_ok-count.ensures.ok_part at c.next_slot_count.ensures.some)) in
    rw c.grow.ensures.slots (IsVacant-grown (g.L.Layout.layout.slots c.args.self.now.slots) _ code vacancy (omega (arith, more, c.in_ok-bigger.ensures.count, ap (λ x. length (g.L.Layout.layout.slots x.slots)) c.self.view_is)) is)
