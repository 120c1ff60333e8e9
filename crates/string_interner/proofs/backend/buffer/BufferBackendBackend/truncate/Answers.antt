use Rattle.std.proofs.Common.{◌≡◌, length, take, sym, ap, ◌∙◌, arith}
use Rattle.std.proofs.lemmas.List.{take_all}
use Rattle.string_interner.specs.Backend.{Contents}
use Rattle.string_interner.specs.BufferBackend.{front_texts, IsSpelled}
use Rattle.string_interner.proofs.Lemmas.BufferBackend.Bytes.{length-front_texts, spelled-take}
use Rattle.string_interner.proofs.backend.buffer.BufferBackendBackend.truncate.Goals as goal
use Rattle.string_interner.proofs.backend.buffer.BufferBackendBackend.truncate.Goals.{After-truncate}
use Rattle.string_interner.proofs.backend.buffer.BufferBackendBackend.truncate.Given.{Over}

pub place_at-end-requires : goal.place_at-end-requires
place_at-end-requires g c = omega (arith, c.if-len-self.true, length-front_texts c.self.inside.count c.self.inside.bytes.items, ap (λ (b : Contents). length b.texts) c.self.view_is)

-- the first texts stay
spelled : (g : Over) (c : After-truncate g) → (front_texts c.args.len c.truncate.new.self.items ≡ take c.args.len (front_texts c.self.inside.count c.self.inside.bytes.items)) × IsSpelled g.S.Symbol.symbol_of c.truncate.new.self.items (front_texts c.args.len c.truncate.new.self.items)
spelled g c = spelled-take g.S.Symbol.symbol_of _ _ _ c.args.len c.self.invariant (omega (arith, c.if-len-self.true)) (rw (ap (λ (b : Contents). b.texts) c.self.view_is, ← c.place_at-end.ensures) c.truncate.ensures.items)

pub invariant_of-self : goal.invariant_of-self
invariant_of-self g c = (spelled g (goal.at.invariant_of-self g c).After-truncate).1

pub returns-then-len-self-clause-texts : goal.returns-then-len-self-clause-texts
returns-then-len-self-clause-texts g c = (spelled g (goal.at.returns-then-len-self-clause-texts g c).After-truncate).0 ∙ ap (λ (b : Contents). take c.args.len b.texts) c.self.view_is

pub returns-then-len-self-clause-same : goal.returns-then-len-self-clause-same
returns-then-len-self-clause-same g c = λ h. absurd (omega (arith, h, c.if-len-self.true, length-front_texts c.self.inside.count c.self.inside.bytes.items, ap (λ (b : Contents). length b.texts) c.self.view_is))

pub returns-else-len-self-clause-texts : goal.returns-else-len-self-clause-texts
returns-else-len-self-clause-texts g c =
    sym (take_all c.args.len c.args.self.now.texts (omega (arith, c.if-len-self.false, length-front_texts c.self.inside.count c.self.inside.bytes.items, ap (λ (b : Contents). length b.texts) c.self.view_is)))
