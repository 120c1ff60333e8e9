use Rattle.std.proofs.Common.{◌≡◌, take}
use Rattle.suite.proofs.backends.tell_places.Given as goal

-- the entries so far were printed
abbrev pub invariant-loop-entry : goal.invariant-loop-entry
invariant-loop-entry g l = l.at ≡ g.B.Store.numbering.place (take l._entry (g.B.Store.texts l.backend))
