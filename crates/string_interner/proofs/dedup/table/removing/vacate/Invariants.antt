use Rattle.std.proofs.Common.{ℕ}
use Rattle.string_interner.specs.Entry.{entry_text}
use Rattle.string_interner.proofs.Lemmas.Index.IsVacating.{IsVacating, IsWalking}
use Rattle.string_interner.proofs.dedup.table.removing.vacate.Given as goal

abbrev pub invariant-loop-step : goal.invariant-loop-step
invariant-loop-step g l = record {
  fits : g.L.Layout.layout.fits (entry_text g.B.Store.numbering (g.B.Store.texts l.backend)) (g.H.TextHasher.code l.hasher) l.slots;
  vacating : IsVacating (entry_text g.B.Store.numbering (g.B.Store.texts l.backend)) (g.H.TextHasher.code l.hasher) (g.L.Layout.layout.slots l.fn.slots) (g.L.Layout.layout.slots l.slots) l.symbol l.hole l.next;
  walking : (start : ℕ) × IsWalking (entry_text g.B.Store.numbering (g.B.Store.texts l.backend)) (g.H.TextHasher.code l.hasher) (g.L.Layout.layout.slots l.fn.slots) (g.L.Layout.layout.slots l.slots) start l._step l.next;
}
