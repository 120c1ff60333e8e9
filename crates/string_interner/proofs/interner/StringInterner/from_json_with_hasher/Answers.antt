use Rattle.std.proofs.Common.{rules, Ok}
use Rattle.string_interner.proofs.Lemmas.Json.Reads.{reads_back}
use Rattle.string_interner.proofs.interner.StringInterner.from_json_with_hasher.Goals as goal

pub returns-in_err-read_elements-clause-gives_back : goal.returns-in_err-read_elements-clause-gives_back
returns-in_err-read_elements-clause-gives_back g c = reads_back g.B.Store.numbering _ _ (search rules)

pub returns-clause-gives_back : goal.returns-clause-gives_back
returns-clause-gives_back g c = reads_back g.B.Store.numbering _ (Ok c.read_elements.new.self) (search rules)
