use Rattle.std.proofs.Common.{◌≡◌, IfErr, Some, Ok, Err, inl, inr, refl, ap, subst, ◌∙◌, rules}
use Rattle.std.proofs.lemmas.Result.{IfErr-weaker}
use Rattle.dictcol.specs.Crowded.{CrowdsColumn, CrowdsFile}
use Rattle.dictcol.specs.File.{IsFileFault}
use Rattle.string_column.specs.Parts.{IsMadeOf}
use Rattle.string_column.specs.declared.rows.parts.PartsError.TheVariants.{NoSymbol}
use Rattle.dictcol.proofs.Parts.{made-rows, no-repeat, no-outside}
use Rattle.dictcol.proofs.Written.{file-weaker}
use Rattle.dictcol.proofs.json_form.file.read_column.Goals as goal

pub returns-in-Ok-clause-lines : goal.returns-in-Ok-clause-lines
returns-in-Ok-clause-lines g c =
    let parts = c.in_ok-dictionary.field-0 in
    let is : c.from_interner.result ≡ Ok c.in-Ok.lines = search rules in
    let rows = made-rows g.B.Store.numbering parts.dictionary.texts parts.codes.items c.from_interner.result c.from_interner.ensures c.in-Ok.lines is in
    rw (← rows) c.in_ok-dictionary.ensures.lines

pub returns-in_err-dictionary-clause-err : goal.returns-in_err-dictionary-clause-err
returns-in_err-dictionary-clause-err g c =
    let faults : IfErr c.from_residual.result (IsFileFault (CrowdsFile g.B.Store.numbering) (Some c.args.bytes.items)) = search rules in
    IfErr-weaker c.from_residual.result _ _ (λ fault why. file-weaker (CrowdsFile g.B.Store.numbering) (CrowdsColumn g.B.Store.numbering) (Some c.args.bytes.items) fault (λ text lacks. inl lacks) why) faults

pub returns-in-Err-NoSymbol-clause-err : goal.returns-in-Err-NoSymbol-clause-err
returns-in-Err-NoSymbol-clause-err g c =
    let parts = c.in_ok-dictionary.field-0 in
    let texts = parts.dictionary.texts in
    let numbering = g.B.Store.numbering in
    let is : c.from_interner.result ≡ Err NoSymbol = search rules in
    let lacks = subst (λ outcome. IsMadeOf numbering texts parts.codes.items outcome) is c.from_interner.ensures in
    inr (c.args.bytes.items, refl, inl (inr (refl, inr (texts, c.in_ok-dictionary.ensures.texts, lacks))))

pub returns-in-Err-Memory-clause-err : goal.returns-in-Err-Memory-clause-err
returns-in-Err-Memory-clause-err g c = inr (c.args.bytes.items, refl, inl (inl refl))

pub unreachable-requires : goal.unreachable-requires
unreachable-requires g c =
    let parts = c.in_ok-dictionary.field-0 in
    no-repeat g.B.Store.numbering parts.dictionary.texts parts.codes.items c.from_interner.result c.from_interner.ensures
    c.in-Err-Repeated.field-0-0 (c.in-Err-Repeated.is ∙ ap Err c.in-Err-Repeated.field-0-is) c.len.ensures.holds.texts.distinct

pub unreachable-requires-in-Err-NoEntry : goal.unreachable-requires-in-Err-NoEntry
unreachable-requires-in-Err-NoEntry g c =
    let parts = c.in_ok-dictionary.field-0 in
    no-outside g.B.Store.numbering parts.dictionary.texts parts.codes.items c.from_interner.result c.from_interner.ensures
    c.in-Err-NoEntry.field-0-0 (c.in-Err-NoEntry.is ∙ ap Err c.in-Err-NoEntry.field-0-is) c.in_ok-dictionary.ensures.within
