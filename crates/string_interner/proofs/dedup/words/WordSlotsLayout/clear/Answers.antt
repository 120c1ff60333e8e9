use Rattle.std.proofs.Common.{length, ap, ◌∙◌}
use Rattle.string_interner.specs.Slots.{symbols}
use Rattle.string_interner.proofs.Lemmas.Index.Rebuilt.{symbols-replicate}
use Rattle.string_interner.proofs.Lemmas.WordSlots.{symbols-zeros}
use Rattle.string_interner.proofs.dedup.words.WordSlotsLayout.clear.Goals as goal

pub returns-clause-empty : goal.returns-clause-empty
returns-clause-empty g c =
    let n = length c.self.inside.words in
    rw c.clear.ensures (ap symbols (symbols-zeros g.S.Symbol.symbol_of n) ∙ symbols-replicate g.row.S.Denot n)
