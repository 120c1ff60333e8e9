use Rattle.std.proofs.Common.{◌<◌, ◌-◌, length, drop, arith, ◌∙◌, ap}
use Rattle.std.proofs.lemmas.List.{length-drop}
use Rattle.string_interner.specs.Iter.{IterState}
use Rattle.string_interner.proofs.Lemmas.Backend.Entries.{entries-drop}
use Rattle.string_interner.proofs.backend.iter.IterIterator.next.Goals as goal

pub returns-clause-steps : goal.returns-clause-steps
returns-clause-steps g c =
    let texts = g.B.Store.texts c.self.inside.backend.now in
    let within : length texts - c.self.inside.left < length texts = omega (arith, c.self.invariant.0, c.if-self-eq0.false) in
    rw (← c.self.view_is) (entries-drop g.B.Store.numbering texts _ _ _ _ within (omega (arith, c.self.invariant.0, c.if-self-eq0.false)) (ap g.B.Store.numbering.symbol_of c.self.invariant.1 ∙ c.entry_at-symbol.ensures.symbol)
    (c.entry_at-symbol.ensures.text _ (record { within = within; begins = c.self.invariant.1 })))

pub returns-clause-goes : goal.returns-clause-goes
returns-clause-goes g c =
    let texts = g.B.Store.texts c.self.inside.backend.now in
    let ahead = ap (λ (walk : IterState). length walk.ahead) c.self.view_is in
    let fewer : length (drop (length texts - (c.self.inside.left - 1)) texts) < length c.args.self.now.ahead = omega (arith, ahead, length-drop (length texts - c.self.inside.left) texts, length-drop (length texts - (c.self.inside.left - 1)) texts, c.self.invariant.0, c.if-self-eq0.false) in
    record { on = λ _. (tt, tt, fewer); keeps = tt; rests = λ _. tt }
