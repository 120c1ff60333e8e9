use Rattle.std.proofs.Common.{sym, ap, ◌∙◌}
use Rattle.string_interner.specs.EntryLaws.{entry_text-IsPlace}
use Rattle.string_interner.proofs.Lemmas.Index.EntryText.{has_text-resolved}
use Rattle.string_interner.proofs.dedup.slots.Looks.look.Goals as goal

pub resolve_unchecked-requires : goal.resolve_unchecked-requires
resolve_unchecked-requires g c =
    let some = c.requires.entry c.in_ok-symbol.symbol (sym c.symbol_at.ensures ∙ c.in_ok-symbol.was) in
    entry_text-IsPlace g.B.Store.numbering _ c.in_ok-symbol.symbol (rw (ap (λ x. x.backend) c.self.view_is) some)

pub returns-clause-matches : goal.returns-clause-matches
returns-clause-matches g c =
    let some = c.requires.entry c.in_ok-symbol.symbol (sym c.symbol_at.ensures ∙ c.in_ok-symbol.was) in
    rw (← ap (λ x. x.backend) c.self.view_is)
    (c.eq-matches.ensures ∙ has_text-resolved g.B.Store.numbering _ c.in_ok-symbol.symbol _ _ (rw (ap (λ x. x.backend) c.self.view_is) some) c.resolve_unchecked.ensures)
