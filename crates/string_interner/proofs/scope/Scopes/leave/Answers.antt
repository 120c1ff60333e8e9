use Rattle.std.proofs.Common.{refl, ap, sym, subst, ◌∙◌, rules}
use Rattle.string_interner.specs.Scopes.{ScopesContents, joined_layers}
use Rattle.string_interner.specs.StandsFor.{StandsFor}
use Rattle.string_interner.proofs.Lemmas.Scopes.Layers.{left_below, step-stays, step-leaves}
use Rattle.string_interner.proofs.scope.Scopes.leave.Goals as goal

pub returns-in-Some-clause-layers : goal.returns-in-Some-clause-layers
returns-in-Some-clause-layers g c =
    let below = left_below _ _ _ _ _ _ (ap (λ (s : ScopesContents). s.below) c.self.view_is) c.in-Some.ensures.items c.truncate.ensures.texts in
    rw below (refl, refl)

pub returns-in-Some-clause-none : goal.returns-in-Some-clause-none
returns-in-Some-clause-none g c = λ none.
    let below = left_below _ _ _ _ _ _ (ap (λ (s : ScopesContents). s.below) c.self.view_is) c.in-Some.ensures.items c.truncate.ensures.texts in
    absurd (let is = sym below ∙ none in cc)

pub returns-in-Some-clause-step : goal.returns-in-Some-clause-step
returns-in-Some-clause-step g c = rw (← c.self.view_is) (step-leaves _ _ _ _ _ c.in-Some.ensures.items c.truncate.ensures.texts)

pub returns-in-Some-clause-keeps : goal.returns-in-Some-clause-keeps
returns-in-Some-clause-keeps g c = λ symbol text stands.
    let below = left_below _ _ _ _ _ _ (ap (λ (s : ScopesContents). s.below) c.self.view_is) c.in-Some.ensures.items c.truncate.ensures.texts in
    subst (λ layers. StandsFor g.B.Store.numbering (joined_layers layers) symbol text) below stands

pub returns-in-None-clause-step : goal.returns-in-None-clause-step
returns-in-None-clause-step g c = step-stays _ _ (search rules)
