use Rattle.std.proofs.Common.{rules}
use Rattle.string_interner.proofs.Lemmas.Interner.Extends.{interned-least}
use Rattle.string_interner.proofs.Lemmas.Json.Reads.{next_element, reads_refused, reads_more}
use Rattle.string_interner.proofs.interner.StringInterner.read_elements.Goals as goal

pub loop-index-preserved : goal.loop-index-preserved
loop-index-preserved g c = let call = c.in_ok-get_or_intern.ensures in record {
  reads = λ outcome more. c.loop-index.invariant.reads outcome (reads_more g.B.Store.numbering _ _ _ _ _ _ (next_element _ _ _ c.loop-index-test.true c.index-elements-index.is) _ _ _ (search rules) call.interns more);
  slots = λ before. interned-least g.B.Store.numbering g.I.TextIndex.rule g.met.I.TextIndex.rule_laws _ _ _ _ call c.len.ensures.holds.loaded (c.loop-index.invariant.slots before);
}

pub returns-in_err-get_or_intern-clause-reads : goal.returns-in_err-get_or_intern-clause-reads
returns-in_err-get_or_intern-clause-reads g c = c.loop-index.invariant.reads _
    (reads_refused g.B.Store.numbering _ _ _ _ _ _ (next_element _ _ _ c.loop-index-test.true c.index-elements-index.is) _ _ _ (search rules) c.in_err-get_or_intern.ensures.interns (search rules))
