use Rattle.std.proofs.Common.{◌≡◌, sym, ap, ◌∙◌}
use Rattle.std.specs.Prelude.{◌&&◌}
use Rattle.string_interner.specs.Text.{texts_eq}
use Rattle.string_interner.proofs.Lemmas.Backend.Entries.{first_entry, no_entry, no_more}
use Rattle.string_interner.proofs.interner.StringInternerPartialEq.eq.Goals as goal
use Rattle.string_interner.proofs.interner.StringInternerPartialEq.eq.Goals.{After-next_is}
use Rattle.string_interner.proofs.interner.StringInternerPartialEq.eq.Given.{Over}

-- the texts are equal where the next ones are and the later ones
step : (g : Over) (c : After-next_is g) → texts_eq c.args.self.now.texts c.args.other.now.texts ≡ (c.next_is.result && texts_eq c.next.new.self.ahead c.next_is.new.iter.ahead)
step g c = c.loop-text.invariant ∙ (ap (λ xs. texts_eq xs c.loop-text.theirs.ahead) (first_entry g.B.Store.numbering _ _ _ _ _ _ c.in-Some.ensures.steps) ∙ c.next_is.ensures c.next.new.self.ahead)

pub returns-then-not-next_is : goal.returns-then-not-next_is
returns-then-not-next_is g c = sym (step g (goal.at.returns-then-not-next_is g c).After-next_is ∙ ap (λ b. b && texts_eq c.next.new.self.ahead c.next_is.new.iter.ahead) c.if-not-next_is.true)

pub loop-text-preserved : goal.loop-text-preserved
loop-text-preserved g c = step g (goal.at.loop-text-preserved g c).After-next_is ∙ ap (λ b. b && texts_eq c.next.new.self.ahead c.next_is.new.iter.ahead) c.if-not-next_is.false

pub returns : goal.returns
returns g c =
    no_more g.B.Store.numbering c.loop-text.theirs c.next-2.new.self c.next-2.result c.is_none.result c.next-2.ensures.steps c.is_none.ensures
    ∙ sym (c.loop-text.invariant ∙ ap (λ xs. texts_eq xs c.loop-text.theirs.ahead) (no_entry g.B.Store.numbering _ _ c.in-None.ensures.steps.0))
