use Rattle.std.proofs.Common.{◌%◌, None, ap, subst, sym, ◌∙◌}
use Rattle.std.specs.List.{Contains}
use Rattle.std.specs.Option.{IsSome}
use Rattle.std.proofs.lemmas.List.Elements.{Contains-get_or}
use Rattle.string_interner.specs.Entry.{entry_text}
use Rattle.string_interner.specs.EntryLaws.{entry_text-IsPlace}
use Rattle.string_interner.proofs.Lemmas.Index.EntryText.{text_of-resolved}
use Rattle.string_interner.proofs.dedup.slots.SlotsLayout.rehash_slot.Goals as goal
use Rattle.string_interner.proofs.dedup.slots.SlotsLayout.rehash_slot.Goals.{In_ok-symbol}
use Rattle.string_interner.proofs.dedup.slots.SlotsLayout.rehash_slot.Given.{Over}

-- the symbol in the slot is an entry's
is_entry : (g : Over) (c : In_ok-symbol g) → IsSome (entry_text g.B.Store.numbering (g.B.Store.texts c.args.backend.now) c.in_ok-symbol.symbol)
is_entry g c = c.requires.fits.entries c.in_ok-symbol.symbol (subst (Contains c.args.self.now) (sym c.symbol_at.ensures ∙ c.in_ok-symbol.was) (Contains-get_or c.args.self.now c.args.at None c.requires.within))

pub resolve_unchecked-requires : goal.resolve_unchecked-requires
resolve_unchecked-requires g c = entry_text-IsPlace g.B.Store.numbering _ c.in_ok-symbol.symbol (is_entry g c)

pub returns-clause-home : goal.returns-clause-home
returns-clause-home g c =
    ap (λ n. n % c.args._count) (c.hash_text.ensures ∙ ap (g.H.TextHasher.code c.args.hasher.now) (text_of-resolved g.B.Store.numbering _ c.in_ok-symbol.symbol _ (is_entry g (goal.at.returns-clause-home g c).In_ok-symbol) c.resolve_unchecked.ensures))
