use Rattle.string_interner.proofs.dedup.text_index.TextIndex.find.Goals as goal

pub returns : goal.returns
returns g c = rw c.symbol.ensures c.entry.ensures.found
