use Rattle.std.proofs.Common.{◌≡◌, ◌+◌, ◌≤◌, ◌%◌, length}
use Rattle.string_interner.specs.Entry.{entry_text}
use Rattle.string_interner.specs.Index.{has_text}
use Rattle.string_interner.proofs.Lemmas.Index.ProbeLoop.{Stands}
use Rattle.string_interner.proofs.dedup.probe.probe_on.Given as goal

abbrev pub invariant-loop-step : goal.invariant-loop-step
invariant-loop-step g l = record {
  stands : Stands (has_text (entry_text g.B.Store.numbering (g.B.Store.texts l.fn.looks.backend)) l.text) (g.L.Layout.layout.slots l.slots) (l.code % length (g.L.Layout.layout.slots l.slots)) (l._step + 1) l.at;
  backend : l.looks.backend ≡ l.fn.looks.backend;
  counts : l.fn.looks.count ≤ l.looks.count;
  count : l.looks.count ≤ l.fn.looks.count + l._step;
}
