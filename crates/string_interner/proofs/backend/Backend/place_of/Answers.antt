use Rattle.std.proofs.Common.{arith, sym}
use Rattle.string_interner.proofs.backend.Backend.place_of.Goals as goal

pub entry_at-at-requires : goal.entry_at-at-requires
entry_at-at-requires g c = (c.loop-entry._entry, record { within = omega arith; begins = sym c.loop-entry.invariant })
