use Rattle.std.proofs.Common.{ap, ◌∙◌}
use Rattle.string_interner.specs.EntryLaws.{entry_text-IsPlace}
use Rattle.string_interner.proofs.Lemmas.Index.EntryText.{has_text-resolved}
use Rattle.string_interner.proofs.dedup.slots.Looks.has_text.Goals as goal

pub resolve_unchecked-requires : goal.resolve_unchecked-requires
resolve_unchecked-requires g c = entry_text-IsPlace g.B.Store.numbering _ c.args.symbol (rw (ap (λ x. x.backend) c.self.view_is) c.requires)

pub returns-clause-value : goal.returns-clause-value
returns-clause-value g c = rw (← ap (λ x. x.backend) c.self.view_is)
    (c.texts_are_equal.ensures ∙ has_text-resolved g.B.Store.numbering _ c.args.symbol _ _ (rw (ap (λ x. x.backend) c.self.view_is) c.requires) c.resolve_unchecked.ensures)
