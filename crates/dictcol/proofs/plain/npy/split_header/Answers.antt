use Rattle.std.proofs.Common.{◌++◌, length, sym, ap, ap₂, ◌∙◌, rules, arith}
use Rattle.std.specs.List.{IsSplitAt}
use Rattle.std.proofs.lemmas.List.{take-append-drop}
use Rattle.std.proofs.lemmas.Result.{err_from_is_err_and}
use Rattle.dictcol.specs.Plain.{IsHeaderFault}
use Rattle.dictcol.proofs.PlainColumns.{array-fault}
use Rattle.dictcol.proofs.plain.npy.split_header.Goals as goal

pub returns-in_err-count_numbers-clause-err : goal.returns-in_err-count_numbers-clause-err
returns-in_err-count_numbers-clause-err c =
    let split : IsSplitAt c.args.file.now 128 c.in-Some.header.now c.in-Some.numbers.now = search rules in
    let p = err_from_is_err_and c.from_residual.result c.from_residual.ensures.1 in
    let wrong : IsHeaderFault c.in-Some.header.now (length c.in-Some.numbers.now) c.in_err-count_numbers.field-0.0 = c.in_err-count_numbers.ensures.err in
    rw (p.1, p.2) (array-fault c.args.file.now c.in-Some.header.now c.in-Some.numbers.now _ split wrong)

pub returns-clause-ok : goal.returns-clause-ok
returns-clause-ok c =
    let split : IsSplitAt c.args.file.now 128 c.in-Some.header.now c.in-Some.numbers.now = search rules in
    let ok = c.in_ok-count_numbers.ensures.ok in (
      c.in_ok-count_numbers.field-0,
      sym (take-append-drop 128 c.args.file.now) ∙ sym (ap₂ (λ front back. front ++ back) split.1 split.2) ∙ ap (λ front. front ++ c.in-Some.numbers.now) ok.0,
      ok.1,
      omega (arith, ok.1),
    )
