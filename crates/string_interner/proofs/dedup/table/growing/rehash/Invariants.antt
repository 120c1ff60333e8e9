use Rattle.std.proofs.Common.{◌≡◌, length, take}
use Rattle.string_interner.specs.Entry.{entry_text}
use Rattle.string_interner.specs.Layout.{IsCoded}
use Rattle.string_interner.specs.Probe.{Rebuilt}
use Rattle.string_interner.proofs.dedup.table.growing.rehash.Given as goal

abbrev pub invariant-loop-at : goal.invariant-loop-at
invariant-loop-at g l = record {
  same : l.slots ≡ l.fn.slots;
  size : length (g.L.Layout.layout.slots l.bigger) ≡ l.count;
  rebuilt : Rebuilt (entry_text g.B.Store.numbering (g.B.Store.texts l.backend)) (g.H.TextHasher.code l.hasher) (take l.at (g.L.Layout.layout.slots l.fn.slots)) (g.L.Layout.layout.slots l.bigger);
  coded : IsCoded g.L.Layout.layout.stores (entry_text g.B.Store.numbering (g.B.Store.texts l.backend)) (g.H.TextHasher.code l.hasher) (g.L.Layout.layout.slots l.bigger) (g.L.Layout.layout.stored l.bigger);
}
