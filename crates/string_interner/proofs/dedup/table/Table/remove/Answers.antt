use Rattle.std.proofs.Common.{ap, ◌∙◌}
use Rattle.string_interner.specs.EntryLaws.{entry_text-IsPlace}
use Rattle.string_interner.proofs.Lemmas.Index.EntryText.{text_of-resolved}
use Rattle.string_interner.proofs.Lemmas.Table.IsTable.{Fits-of}
use Rattle.string_interner.proofs.dedup.table.Table.remove.Goals as goal

pub resolve_unchecked-requires : goal.resolve_unchecked-requires
resolve_unchecked-requires g c = entry_text-IsPlace g.B.Store.numbering _ c.args.symbol ((Fits-of g.L.Layout.layout g.met.L.Layout.layout_laws _ _ c.args.self.now.slots c.requires.fits).entries c.args.symbol c.requires.there)

pub vacate-requires-clause-code : goal.vacate-requires-clause-code
vacate-requires-clause-code g c = c.hash_text-code.ensures ∙ ap (g.H.TextHasher.code c.args.hasher.now)
    (text_of-resolved g.B.Store.numbering _ c.args.symbol _ ((Fits-of g.L.Layout.layout g.met.L.Layout.layout_laws _ _ c.args.self.now.slots c.requires.fits).entries c.args.symbol c.requires.there) c.resolve_unchecked.ensures)
