use Rattle.std.proofs.Common.{refl, sym, ap}
use Rattle.std.specs.Prelude.{◌&&◌}
use Rattle.string_interner.specs.Text.{texts_eq}
use Rattle.string_interner.proofs.Lemmas.Backend.Entries.{first_entry, no_entry}
use Rattle.string_interner.proofs.interner.next_is.Goals as goal

pub returns-in-Some : goal.returns-in-Some
returns-in-Some g c = λ texts. rw (first_entry g.B.Store.numbering _ _ _ _ _ _ c.in-Some.ensures.steps) (ap (λ b. b && texts_eq texts c.next.new.self.ahead) (sym c.eq.ensures))

pub returns-in-None : goal.returns-in-None
returns-in-None g c = λ texts. rw (no_entry g.B.Store.numbering _ _ c.in-None.ensures.steps.0) refl
