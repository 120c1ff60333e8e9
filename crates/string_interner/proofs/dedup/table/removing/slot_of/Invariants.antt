use Rattle.std.proofs.Common.{◌≡◌, ◌<◌, ◌%◌, ℕ, Some, None, length, get_or}
use Rattle.string_interner.proofs.Lemmas.Index.IsAhead.{IsAfter, IsAhead}
use Rattle.string_interner.proofs.dedup.table.removing.slot_of.Given as goal

abbrev pub invariant-loop-step : goal.invariant-loop-step
invariant-loop-step g l = record {
  same : l.slots ≡ l.fn.slots;
  walked : IsAfter (length (g.L.Layout.layout.slots l.fn.slots)) (l.code % length (g.L.Layout.layout.slots l.fn.slots)) l._step l.at;
  ahead : (k : ℕ) → k < length (g.L.Layout.layout.slots l.fn.slots) → get_or (g.L.Layout.layout.slots l.fn.slots) k None ≡ Some l.symbol
      → IsAhead (length (g.L.Layout.layout.slots l.fn.slots)) (l.code % length (g.L.Layout.layout.slots l.fn.slots)) l._step k;
}
