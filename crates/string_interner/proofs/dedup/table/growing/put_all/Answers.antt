use Rattle.std.proofs.Common.{refl, ap, ◌∙◌}
use Rattle.string_interner.specs.Entry.{entry_text}
use Rattle.string_interner.proofs.Lemmas.Backend.Numbering.{numbered, injective}
use Rattle.string_interner.proofs.Lemmas.Index.Inserts.{puts_at}
use Rattle.string_interner.proofs.Lemmas.Index.LookUp.{FillsSlot-length}
use Rattle.string_interner.proofs.Lemmas.Index.Refills.{placed-start, placed-next, placed-end}
use Rattle.string_interner.proofs.Lemmas.Interner.IsSoundInterner.{IsFilled}
use Rattle.string_interner.proofs.Lemmas.Table.EntryAhead.{entry-ahead}
use Rattle.string_interner.proofs.Lemmas.Table.IsCoded.{IsCoded-none, IsCoded-put}
use Rattle.string_interner.proofs.Lemmas.Table.IsTable.{fits-of}
use Rattle.string_interner.proofs.dedup.table.growing.put_all.Goals as goal
use Rattle.string_interner.proofs.dedup.table.growing.put_all.Goals.{In-None}
use Rattle.string_interner.proofs.dedup.table.growing.put_all.Given.{Over}

pub loop-symbol-init : goal.loop-symbol-init
loop-symbol-init g c = record {
  placed = rw (c.into_iter-symbol-iterator.ensures.into_iter_gives, c.iter-symbol-items.ensures) (placed-start g.B.Store.numbering (numbered g.B.Store.numbering g.met.B.Store.symbols g.met.S.Symbol.numbered) (injective g.B.Store.numbering g.met.B.Store.symbols g.met.S.Symbol.injective) g.met.B.Store.grows (g.H.TextHasher.code c.args.hasher.now) (g.B.Store.texts c.args.backend.now) c.requires.valid c.requires.distinct (g.L.Layout.layout.slots c.args.slots.now) c.requires.empty);
  coded = IsCoded-none g.L.Layout.layout.stores _ (g.H.TextHasher.code c.args.hasher.now) _ (g.L.Layout.layout.stored c.args.slots.now) c.requires.empty;
  size = refl;
}

pub loop-symbol-preserved : goal.loop-symbol-preserved
loop-symbol-preserved g c =
    let inv = c.loop-symbol.invariant in let layout = g.L.Layout.layout in
    let code = g.H.TextHasher.code c.args.hasher.now in let texts = g.B.Store.texts c.args.backend.now in
    let puts = puts_at _ _ _ _ _ c.hash_text.ensures c.put_by_code.ensures.slot in
    record {
      placed = placed-next g.B.Store.numbering (numbered g.B.Store.numbering g.met.B.Store.symbols g.met.S.Symbol.numbered) (injective g.B.Store.numbering g.met.B.Store.symbols g.met.S.Symbol.injective) g.met.B.Store.grows code texts c.requires.valid c.requires.distinct _ _ _ _ (layout.slots c.loop-symbol.slots) (layout.slots c.put_by_code.new.slots) c.in-Some.symbol c.in-Some.text.now inv.placed c.in-Some.ensures.steps puts;
      coded = IsCoded-put layout (entry_text g.B.Store.numbering texts) code c.loop-symbol.slots c.put_by_code.new.slots _ c.in-Some.symbol _ c.put_by_code.ensures c.in-Some.text.now
          (entry-ahead g.B.Store.numbering (numbered g.B.Store.numbering g.met.B.Store.symbols g.met.S.Symbol.numbered) g.met.B.Store.grows code texts _ _ _ _ _ c.in-Some.symbol c.in-Some.text.now inv.placed c.in-Some.ensures.steps)
          (ap layout.stores c.hash_text.ensures) inv.coded;
      size = FillsSlot-length _ _ _ _ puts ∙ inv.size;
    }

-- once the iteration has ended, all entries are in the slots
filled : (g : Over) (c : In-None g) → IsFilled g.B.Store.numbering (g.H.TextHasher.code c.args.hasher.now) (g.B.Store.texts c.args.backend.now) (g.L.Layout.layout.slots c.loop-symbol.slots)
filled g c = placed-end g.B.Store.numbering (numbered g.B.Store.numbering g.met.B.Store.symbols g.met.S.Symbol.numbered) (injective g.B.Store.numbering g.met.B.Store.symbols g.met.S.Symbol.injective) g.met.B.Store.grows (g.H.TextHasher.code c.args.hasher.now) (g.B.Store.texts c.args.backend.now) c.requires.valid c.requires.distinct _ _ (g.L.Layout.layout.slots c.loop-symbol.slots) c.loop-symbol.invariant.placed c.in-None.ensures.steps.0

pub returns-clause-whole : goal.returns-clause-whole
returns-clause-whole g c =
    let whole = (filled g c).whole in
    record { fits = fits-of g.L.Layout.layout g.met.L.Layout.layout_laws _ _ c.loop-symbol.slots whole.fits c.loop-symbol.invariant.coded; whole = whole.whole }

pub returns-clause-entries : goal.returns-clause-entries
returns-clause-entries g c = (filled g c).count
