use Rattle.std.proofs.Common.{◌≡◌, rules, refl, sym, ◌∙◌, Err}
use Rattle.string_interner.specs.declared.json.JsonError.TheVariants.{NotAText, Repeated}
use Rattle.string_interner.proofs.Lemmas.Interner.Extends.{interned-least}
use Rattle.string_interner.proofs.Lemmas.Json.Reads.{next_element}
use Rattle.string_interner.proofs.Lemmas.Json.ReadsExactly.{lengthened, exact_no_text, exact_refused, exact_repeated, exact_more}
use Rattle.string_interner.proofs.interner.StringInterner.read_elements_exactly.Goals as goal

pub loop-index-preserved : goal.loop-index-preserved
loop-index-preserved g c =
    let new = lengthened g.B.Store.numbering _ _ _ _ c.in_ok-get_or_intern.ensures.interns (λ same. c.if-len-known.false (c.len.ensures.value ∙ same ∙ sym c.len-known.ensures.value)) in
    let call = c.in_ok-get_or_intern.ensures in record {
      reads = λ outcome more. c.loop-index.invariant.reads outcome (exact_more g.B.Store.numbering _ _ _ _ _ _ (next_element _ _ _ c.loop-index-test.true c.index-elements-index.is) _ (search rules) _ _ new more);
      slots = λ before. interned-least g.B.Store.numbering g.I.TextIndex.rule g.met.I.TextIndex.rule_laws _ _ _ _ call c.len.ensures.holds.loaded (c.loop-index.invariant.slots before);
    }

pub returns-in_err-text-clause-reads : goal.returns-in_err-text-clause-reads
returns-in_err-text-clause-reads g c =
    let is : c.from_residual.result ≡ Err (NotAText c.loop-index.index) = search rules in
    c.loop-index.invariant.reads _ (exact_no_text g.B.Store.numbering _ _ _ _ _ _ (next_element _ _ _ c.loop-index-test.true c.index-elements-index.is) (search rules) (rw is refl))

pub returns-in_err-get_or_intern-clause-reads : goal.returns-in_err-get_or_intern-clause-reads
returns-in_err-get_or_intern-clause-reads g c = c.loop-index.invariant.reads _
    (exact_refused g.B.Store.numbering _ _ _ _ _ _ (next_element _ _ _ c.loop-index-test.true c.index-elements-index.is) _ (search rules) _ _ c.in_err-get_or_intern.ensures.interns (search rules))

pub returns-then-len-known-clause-reads : goal.returns-then-len-known-clause-reads
returns-then-len-known-clause-reads g c = c.loop-index.invariant.reads (Err (Repeated c.loop-index.index))
    (exact_repeated g.B.Store.numbering _ _ _ _ _ _ (next_element _ _ _ c.loop-index-test.true c.index-elements-index.is) _ (search rules) _ _ c.in_ok-get_or_intern.ensures.interns (sym c.len.ensures.value ∙ c.if-len-known.true ∙ c.len-known.ensures.value) refl)
