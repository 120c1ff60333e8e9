use Rattle.std.proofs.Common.{◌≡◌, ◌+◌, take}
use Rattle.string_interner.specs.Table.{entry_count, slot_count}
use Rattle.string_interner.proofs.Lemmas.Table.Removes.{Lacks}
use Rattle.string_interner.proofs.dedup.table.Table.remove_last.Given as goal

-- the texts up to this one are removed
abbrev pub invariant-loop-entry : goal.invariant-loop-entry
invariant-loop-entry g l = record {
  at : l.at ≡ g.B.Store.numbering.place (take l._entry (g.B.Store.texts l.backend));
  lacks : Lacks g.L.Layout.layout g.B.Store.numbering (g.H.TextHasher.code l.hasher) (g.B.Store.texts l.backend) l.len l.self.slots l._entry;
  count : entry_count g.L.Layout.layout l.self + l._entry ≡ entry_count g.L.Layout.layout l.fn.self + l.len;
  slots : slot_count g.L.Layout.layout l.self ≡ slot_count g.L.Layout.layout l.fn.self;
}
