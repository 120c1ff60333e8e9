use Rattle.std.proofs.Common.{drop, Result}
use Rattle.serde_json.specs.View.{items_view}
use Rattle.string_interner.specs.Interner.{InternerContents}
use Rattle.string_interner.specs.Json.{KeepsLeastSlots, ReadsElements}
use Rattle.string_interner.specs.declared.json.JsonError.{JsonError}
use Rattle.string_interner.proofs.interner.StringInterner.read_elements.Given as goal

-- what comes of reading the elements ahead into the texts so far comes of reading all, and the slots are the least for
-- these texts, if they were before
abbrev pub invariant-loop-index : goal.invariant-loop-index
invariant-loop-index g l = record {
  reads : (outcome : Result InternerContents JsonError) → ReadsElements g.B.Store.numbering l.self.texts l.index (items_view (drop l.index l.elements)) outcome
      → ReadsElements g.B.Store.numbering l.fn.self.texts 0 (items_view l.elements) outcome;
  slots : KeepsLeastSlots g.I.TextIndex.rule l.fn.self l.self;
}
