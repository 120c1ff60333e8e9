use Rattle.std.proofs.Common.{◌≡◌, take}
use Rattle.string_interner.proofs.backend.Backend.place_of.Given as goal

-- the entries so far were walked over
abbrev pub invariant-loop-entry : goal.invariant-loop-entry
invariant-loop-entry g l = l.at ≡ g.Self.Store.numbering.place (take l._entry (g.Self.Store.texts l.self))
