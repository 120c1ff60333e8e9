use Rattle.std.proofs.Common.{◌≡◌, length}
use Rattle.string_interner.specs.Entry.{entry_text}
use Rattle.string_interner.specs.Layout.{IsCoded}
use Rattle.string_interner.proofs.Lemmas.Index.Refills.{IsPlaced}
use Rattle.string_interner.proofs.dedup.table.growing.put_all.Given as goal

-- the entries so far are in the slots, with what is stored of their codes
abbrev pub invariant-loop-symbol : goal.invariant-loop-symbol
invariant-loop-symbol g l = record {
  placed : IsPlaced g.B.Store.numbering (g.H.TextHasher.code l.hasher) (g.B.Store.texts l.backend) l.symbol-iterator.behind l.symbol-iterator.ahead (g.L.Layout.layout.slots l.slots);
  coded : IsCoded g.L.Layout.layout.stores (entry_text g.B.Store.numbering (g.B.Store.texts l.backend)) (g.H.TextHasher.code l.hasher) (g.L.Layout.layout.slots l.slots) (g.L.Layout.layout.stored l.slots);
  size : length (g.L.Layout.layout.slots l.slots) ≡ length (g.L.Layout.layout.slots l.fn.slots);
}
