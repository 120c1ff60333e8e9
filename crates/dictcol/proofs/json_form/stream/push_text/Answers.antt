use Rattle.std.proofs.Common.{◌≡◌, Err, IfErr, sym, subst, rules}
use Rattle.std.proofs.lemmas.Result.{IfErr-weaker}
use Rattle.string_interner.specs.declared.backend.InternError.{InternError}
use Rattle.string_column.specs.Entries.{LacksSymbol}
use Rattle.dictcol.specs.Fault.{IsTakeFault, intern_fault}
use Rattle.dictcol.proofs.TooMany.{interns-fault}
use Rattle.dictcol.proofs.json_form.stream.push_text.Goals as goal

pub returns-in_err-map_err-clause-fault : goal.returns-in_err-map_err-clause-fault
returns-in_err-map_err-clause-fault g c =
    let old = c.args.dictionary.now.texts in
    let refused : (error : InternError) × (c.get_or_intern.result ≡ Err error) × IfErr c.from_residual.result (λ fault. fault ≡ intern_fault error) = search rules in
    let interned = rw refused.1 at c.get_or_intern.ensures.interns in
    let taking = interns-fault g.B.Store.numbering old c.get_or_intern.new.self.texts c.args.text.now refused.0 interned in
    IfErr-weaker c.from_residual.result (λ fault. fault ≡ intern_fault refused.0) (IsTakeFault (LacksSymbol g.B.Store.numbering c.args.dictionary.now.texts c.args.text.now)) (λ fault is. subst (IsTakeFault (LacksSymbol g.B.Store.numbering c.args.dictionary.now.texts c.args.text.now)) (sym is) taking) refused.2
