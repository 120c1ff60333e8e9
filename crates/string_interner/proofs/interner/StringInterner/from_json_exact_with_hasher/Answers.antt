use Rattle.std.proofs.Common.{rules, Ok}
use Rattle.string_interner.proofs.Lemmas.Json.ReadsExactly.{exact_form, exact_reads_back}
use Rattle.string_interner.proofs.interner.StringInterner.from_json_exact_with_hasher.Goals as goal

pub returns-in_err-read_elements_exactly-clause-gives_back : goal.returns-in_err-read_elements_exactly-clause-gives_back
returns-in_err-read_elements_exactly-clause-gives_back g c = exact_reads_back g.B.Store.numbering _ _ (search rules)

pub returns-clause-form : goal.returns-clause-form
returns-clause-form g c = exact_form g.B.Store.numbering _ c.read_elements_exactly.new.self (search rules)

pub returns-clause-gives_back : goal.returns-clause-gives_back
returns-clause-gives_back g c = exact_reads_back g.B.Store.numbering _ (Ok c.read_elements_exactly.new.self) (search rules)
