use Rattle.std.proofs.Common.{None, length, get_or, refl, sym, ap, subst, ◌∙◌, arith}
use Rattle.std.proofs.lemmas.List.{length-replicate}
use Rattle.string_interner.specs.Entry.{entry_text}
use Rattle.string_interner.specs.LoadFactor.{IsSlotCount}
use Rattle.string_interner.specs.Index.{Fits, text_of}
use Rattle.string_interner.proofs.Lemmas.Index.LookUp.{FillsSlot-length}
use Rattle.string_interner.proofs.Lemmas.Index.Rebuilt.{slot_entry, symbols-replicate, Rebuilt-start, skipped, placed_again, has_free}
use Rattle.string_interner.proofs.Lemmas.Index.Inserts.{puts_home, text_of_is}
use Rattle.string_interner.proofs.Lemmas.Table.IsCoded.{IsCoded-none, IsCoded-put}
use Rattle.string_interner.proofs.Lemmas.Table.IsTable.{Fits-of, fits-of}
use Rattle.string_interner.proofs.dedup.table.growing.rehash.Goals as goal
use Rattle.string_interner.proofs.dedup.table.growing.rehash.Goals.{in-Some, in_default}

pub loop-at-init : goal.loop-at-init
loop-at-init g c = record {
  same = refl;
  size = ap length c.in_ok-bigger.ensures ∙ length-replicate c.args.count None;
  rebuilt = rw c.in_ok-bigger.ensures (Rebuilt-start _ _ c.args.count);
  coded = IsCoded-none g.L.Layout.layout.stores _ (g.H.TextHasher.code c.args.hasher.now) _ (g.L.Layout.layout.stored c.in_ok-bigger.bigger) (rw c.in_ok-bigger.ensures (symbols-replicate g.row.S.Denot c.args.count));
}

pub put_by_code-requires : goal.put_by_code-requires
put_by_code-requires g c = let inv = c.loop-at.invariant in record {
  allowed = subst IsSlotCount (sym inv.size) c.requires.count;
  free = has_free _ _ _ (Fits-of g.L.Layout.layout g.met.L.Layout.layout_laws _ _ c.args.slots.now c.requires.fits) _ (omega arith) _ inv.rebuilt (omega arith);
}

pub loop-at-preserved : goal.loop-at-preserved
loop-at-preserved g c =
    let inv = c.loop-at.invariant in let layout = g.L.Layout.layout in let slots = layout.slots c.args.slots.now in
    let entry = entry_text g.B.Store.numbering (g.B.Store.texts c.args.backend.now) in let code = g.H.TextHasher.code c.args.hasher.now in
    let fits : Fits entry code slots = Fits-of layout g.met.L.Layout.layout_laws entry code c.args.slots.now c.requires.fits in
    let same = ap (λ s. get_or (layout.slots s) c.loop-at.at None) (sym inv.same) in
    elim c.match-rehash_slot.branch [
      | in-Some w ↦
          let s = w.in-Some.moved.1 in let here = same ∙ w.in-Some.ensures.symbol in
          let is = slot_entry entry code slots fits c.loop-at.at (omega arith) s here in
          let placed = puts_home _ _ _ (code (text_of entry s)) c.args.count s inv.size w.in-Some.ensures.home w.put_by_code.ensures.slot in
          rw w.bigger-is (record {
            same = w.in-Some.ensures.same ∙ inv.same;
            size = FillsSlot-length _ _ _ _ placed ∙ inv.size;
            rebuilt = placed_again entry code slots fits c.loop-at.at (omega arith) (layout.slots c.loop-at.bigger) inv.rebuilt s (layout.slots w.put_by_code.new.slots) here placed;
            coded = IsCoded-put layout entry code c.loop-at.bigger w.put_by_code.new.slots _ s _ w.put_by_code.ensures (text_of entry s) (text_of_is entry s is) w.in-Some.ensures.stored inv.coded;
          })
      | in_default w ↦ rw w.bigger-is (record {
        same = w.in_default.ensures.same ∙ inv.same;
        size = inv.size;
        rebuilt = skipped entry code slots fits c.loop-at.at (omega arith) (layout.slots c.loop-at.bigger) inv.rebuilt (same ∙ w.in_default.ensures.empty);
        coded = inv.coded;
      })
    ]

pub returns-clause-fits : goal.returns-clause-fits
returns-clause-fits g c = fits-of g.L.Layout.layout g.met.L.Layout.layout_laws _ _ c.loop-at.bigger c.loop-at.invariant.rebuilt.fits c.loop-at.invariant.coded
