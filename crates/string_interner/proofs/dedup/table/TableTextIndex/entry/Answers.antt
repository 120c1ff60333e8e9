use Rattle.std.proofs.Common.{ap, ◌∙◌}
use Rattle.string_interner.specs.Entry.{entry_text}
use Rattle.string_interner.specs.Index.{look_up}
use Rattle.string_interner.proofs.Lemmas.Index.IsWhole.{found-entry}
use Rattle.string_interner.proofs.Lemmas.Table.IsTable.{IsWhole-of}
use Rattle.string_interner.proofs.dedup.table.TableTextIndex.entry.Goals as goal

pub returns-clause-found : goal.returns-clause-found
returns-clause-found g c = found-entry _ _ _ _ _ (IsWhole-of g.L.Layout.layout g.met.L.Layout.layout_laws _ _ c.args.self.now.slots c.requires.1.0)
    (c.entry.ensures.seeks.found_is ∙ ap (λ (b : g.row.B.Denot). look_up (entry_text g.B.Store.numbering (g.B.Store.texts b)) (g.L.Layout.layout.slots c.args.self.now.slots) c.args.text.now) c.new.ensures.backend)
