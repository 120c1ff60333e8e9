use Rattle.std.proofs.Common.{◌≡◌, ◌≢◌, ℕ, ◌+◌, [], false, length, refl, ap, subst, arith, inl, inr, rules}
use Rattle.string_interner.specs.Text.{IsDistinct}
use Rattle.string_column.specs.Parts.{IsRepeat}
use Rattle.dictcol.specs.declared.fault.Fault.TheVariants.{RepeatedLine}
use Rattle.dictcol.proofs.PlainColumns.{some-weaker, distinct-dictionary, file-ended, is-dictionary}
use Rattle.dictcol.proofs.plain.dictionary.read.Goals as goal

pub returns-in-Err-clause-err : goal.returns-in-Err-clause-err
returns-in-Err-clause-err g c = inl (c.in-Err.fault, c.in-Err.ensures.fault, c.of_dictionary.ensures)

pub returns-then-not-is_empty-clause-err : goal.returns-then-not-is_empty-clause-err
returns-then-not-is_empty-clause-err g c =
    let lines = c.in-Ok.read.0 in
    let is_ended = c.in-Ok.read.1 in
    let unended : c.in-Ok.read.1 ≡ false = search rules in
    let some : c.in-Ok.read.0 ≢ [] = λ e. search rules in
    inr (inl (refl, some-weaker _ _ (g.R.Read.remaining c.args.file.now) (λ text are others is. file-ended others lines text is_ended are unended some is) c.in-Ok.ensures.ok))

pub returns-in-Some-clause-err : goal.returns-in-Some-clause-err
returns-in-Some-clause-err g c =
    let found : (index : ℕ) × (c.in-Some.number ≡ index + 1) × IsRepeat c.in-Ok.read.0 index = search rules in
    inr (inr (
      found.0,
      ap RepeatedLine found.1,
      some-weaker _ _ (g.R.Read.remaining c.args.file.now) (λ text are. subst (λ ls. IsRepeat ls found.0) are.lines_are found.2) c.in-Ok.ensures.ok,
    ))

pub returns-in-None-clause-ok : goal.returns-in-None-clause-ok
returns-in-None-clause-ok g c =
    let lines = c.in-Ok.read.0 in
    let is_ended = c.in-Ok.read.1 in
    let distinct : IsDistinct c.in-Ok.read.0 = search rules in
    let many = ap length (distinct-dictionary lines distinct) in
    some-weaker _ _ (g.R.Read.remaining c.args.file.now) (λ text are. is-dictionary lines text is_ended are (λ unended. search rules) (omega (arith, many))) c.in-Ok.ensures.ok
