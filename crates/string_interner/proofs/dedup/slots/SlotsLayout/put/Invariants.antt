use Rattle.std.proofs.Common.{◌≡◌, false}
use Rattle.string_interner.proofs.Lemmas.Index.ProbeLoop.{Walked}
use Rattle.string_interner.proofs.dedup.slots.SlotsLayout.put.Given as goal

abbrev pub invariant-loop-step : goal.invariant-loop-step
invariant-loop-step g l = record {
  walked : Walked (λ _. false) l.fn.self l.home l._step l.at;
  same : l.self ≡ l.fn.self;
}
