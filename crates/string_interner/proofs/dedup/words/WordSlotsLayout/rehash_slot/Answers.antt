use Rattle.std.proofs.Common.{◌≡◌, ◌%◌, None, Some, get_or, ap, subst, sym, ◌∙◌}
use Rattle.std.specs.List.{Contains}
use Rattle.std.specs.Option.{IsSome}
use Rattle.std.proofs.lemmas.List.Elements.{Contains-get_or}
use Rattle.string_interner.specs.Entry.{entry_text}
use Rattle.string_interner.specs.Index.{text_of}
use Rattle.string_interner.specs.Tagged.{code_in, stored_code, symbols_in}
use Rattle.string_interner.specs.EntryLaws.{entry_text-IsPlace}
use Rattle.string_interner.proofs.Lemmas.Index.EntryText.{text_of-resolved}
use Rattle.string_interner.proofs.Lemmas.Index.Inserts.{text_of_is}
use Rattle.string_interner.proofs.Lemmas.TaggedSlots.StoredCode.{stored_code-again, stored_code-home}
use Rattle.string_interner.proofs.Lemmas.TaggedSlots.SymbolsIn.{symbols_in-at}
use Rattle.string_interner.proofs.dedup.words.WordSlotsLayout.rehash_slot.Goals as goal
use Rattle.string_interner.proofs.dedup.words.WordSlotsLayout.rehash_slot.Goals.{In_ok-item}
use Rattle.string_interner.proofs.dedup.words.WordSlotsLayout.rehash_slot.Given.{Over}

there : (g : Over) (c : In_ok-item g) → get_or c.args.self.now c.args.at None ≡ Some c.in_ok-item.item
there g c = sym c.item_at.ensures ∙ c.in_ok-item.was

-- the symbol in the slot is an entry's
is_entry : (g : Over) (c : In_ok-item g) → IsSome (entry_text g.B.Store.numbering (g.B.Store.texts c.args.backend.now) c.in_ok-item.item.symbol)
is_entry g c = c.requires.fits.slots.entries c.in_ok-item.item.symbol
    (subst (Contains (symbols_in c.args.self.now)) (symbols_in-at c.args.self.now c.args.at _ (there g c)) (Contains-get_or (symbols_in c.args.self.now) c.args.at None c.requires.within))

-- and the code beside it is what is stored of that entry's
is_coded : (g : Over) (c : In_ok-item g) → c.in_ok-item.item.code ≡ stored_code (g.H.TextHasher.code c.args.hasher.now (text_of (entry_text g.B.Store.numbering (g.B.Store.texts c.args.backend.now)) c.in_ok-item.item.symbol))
is_coded g c =
    sym (ap code_in (there g c)) ∙ c.requires.fits.coded c.args.at c.in_ok-item.item.symbol _ c.requires.within (symbols_in-at c.args.self.now c.args.at _ (there g c))
    (text_of_is (entry_text g.B.Store.numbering (g.B.Store.texts c.args.backend.now)) c.in_ok-item.item.symbol (is_entry g c))

pub resolve_unchecked-requires : goal.resolve_unchecked-requires
resolve_unchecked-requires g c = entry_text-IsPlace g.B.Store.numbering _ c.in_ok-item.item.symbol (is_entry g (goal.at.resolve_unchecked-requires g c).In_ok-item)

pub returns-then-count-le-MOST_SLOTS_BY_STORED_CODE-clause-home : goal.returns-then-count-le-MOST_SLOTS_BY_STORED_CODE-clause-home
returns-then-count-le-MOST_SLOTS_BY_STORED_CODE-clause-home g c =
    ap (λ n. n % c.args.count) (c.from.ensures ∙ is_coded g (goal.at.returns-then-count-le-MOST_SLOTS_BY_STORED_CODE-clause-home g c).In_ok-item)
    ∙ stored_code-home _ c.args.count c.requires.some c.requires.count c.if-count-le-MOST_SLOTS_BY_STORED_CODE.true

pub returns-then-count-le-MOST_SLOTS_BY_STORED_CODE-clause-stored : goal.returns-then-count-le-MOST_SLOTS_BY_STORED_CODE-clause-stored
returns-then-count-le-MOST_SLOTS_BY_STORED_CODE-clause-stored g c =
    ap stored_code (c.from.ensures ∙ is_coded g (goal.at.returns-then-count-le-MOST_SLOTS_BY_STORED_CODE-clause-stored g c).In_ok-item) ∙ stored_code-again _

pub returns-clause-home : goal.returns-clause-home
returns-clause-home g c =
    ap (λ n. n % c.args.count) (c.hash_text.ensures ∙ ap (g.H.TextHasher.code c.args.hasher.now) (text_of-resolved g.B.Store.numbering _ c.in_ok-item.item.symbol _ (is_entry g (goal.at.returns-clause-home g c).In_ok-item) c.resolve_unchecked.ensures))

pub returns-clause-stored : goal.returns-clause-stored
returns-clause-stored g c =
    ap stored_code (c.hash_text.ensures ∙ ap (g.H.TextHasher.code c.args.hasher.now) (text_of-resolved g.B.Store.numbering _ c.in_ok-item.item.symbol _ (is_entry g (goal.at.returns-clause-stored g c).In_ok-item) c.resolve_unchecked.ensures))
