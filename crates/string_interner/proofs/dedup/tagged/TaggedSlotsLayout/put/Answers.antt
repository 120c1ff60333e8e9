use Rattle.std.proofs.Common.{None, false, sym, ◌∙◌}
use Rattle.string_interner.specs.Tagged.{tagged_layout}
use Rattle.string_interner.proofs.Lemmas.TaggedSlots.SymbolsIn.{symbols_in-at}
use Rattle.string_interner.proofs.Lemmas.Index.ProbeLoop.{empty_from, Stands-start, Stands-free}
use Rattle.string_interner.proofs.Lemmas.Table.IsCoded.{Fills-free}
use Rattle.string_interner.proofs.dedup.tagged.TaggedSlotsLayout.put.Goals as goal

pub returns-then-is_none : goal.returns-then-is_none
returns-then-is_none g c =
    let tagged = c.args.self.now in
    let e = symbols_in-at tagged c.args.home None (sym c.item_at.ensures ∙ empty_from c.item_at.result c.if-is_none.ensures) in
    Fills-free tagged_layout tagged c.set.new.self c.args.home c.args.home c.args.symbol c.args.code
    (Stands-free (λ _. false) _ _ c.requires.home c.requires.free 0 _ (Stands-start _ _ _ c.requires.home c.requires.free) e)
    c.set.ensures.slots c.set.ensures.stored c.set.ensures.others
