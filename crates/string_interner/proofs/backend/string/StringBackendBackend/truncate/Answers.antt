use Rattle.std.proofs.Common.{◌≡◌, length, take, sym, ap, ◌∙◌, arith}
use Rattle.std.specs.String.{string_bytes}
use Rattle.std.proofs.lemmas.List.{take_all}
use Rattle.string_interner.specs.StringBackend.{cut, IsJoined}
use Rattle.string_interner.specs.Backend.{Contents}
use Rattle.string_interner.proofs.Lemmas.StringBackend.IsCut.{cut_length, start_boundary, stored-take}
use Rattle.string_interner.proofs.backend.string.StringBackendBackend.truncate.Goals as goal
use Rattle.string_interner.proofs.backend.string.StringBackendBackend.truncate.Goals.{After-truncate-then-len}
use Rattle.string_interner.proofs.backend.string.StringBackendBackend.truncate.Given.{Over}

pub truncate-requires : goal.truncate-requires
truncate-requires g c = λ _.
    let b = start_boundary _ _ _ c.self.invariant.parts c.args.len (omega (arith, c.if-len.true, c.len.ensures, cut_length 0 (string_bytes c.self.inside.joined) c.self.inside.ends.items)) in
    rw c.start_of.ensures (b.0, λ _. b.1)

-- the first texts stay
stored : (g : Over) (c : After-truncate-then-len g) → (cut 0 (string_bytes c.truncate.new.self) c.truncate-then-len.new.self.items ≡ take c.args.len (cut 0 (string_bytes c.self.inside.joined) c.self.inside.ends.items)) × IsJoined g.S.Symbol.symbol_of (string_bytes c.truncate.new.self) c.truncate-then-len.new.self.items (cut 0 (string_bytes c.truncate.new.self) c.truncate-then-len.new.self.items)
stored g c = stored-take g.S.Symbol.symbol_of _ _ _ _ c.args.len c.self.invariant (omega (arith, c.if-len.true, c.len.ensures)) (rw (← c.start_of.ensures) c.truncate.ensures.bytes) c.truncate-then-len.ensures.items

pub invariant_of-self : goal.invariant_of-self
invariant_of-self g c = (stored g c).1

pub returns-then-len-clause-texts : goal.returns-then-len-clause-texts
returns-then-len-clause-texts g c = (stored g c).0 ∙ ap (λ (b : Contents). take c.args.len b.texts) c.self.view_is

pub returns-else-len-clause-texts : goal.returns-else-len-clause-texts
returns-else-len-clause-texts g c =
    let e = ap (λ (b : Contents). length b.texts) c.self.view_is in
    sym (take_all c.args.len c.args.self.now.texts (omega (arith, e, c.if-len.false, c.len.ensures, cut_length 0 (string_bytes c.self.inside.joined) c.self.inside.ends.items)))
