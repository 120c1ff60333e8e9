use Rattle.std.proofs.Common.{◌≡◌, ◌≢◌, ◌++◌, [], length, true, string_bytes, refl, sym, ap, ◌∙◌, rules, inl, inr, Some}
use Rattle.dictcol.specs.Lines.{text_of_ended, text_of_lines}
use Rattle.dictcol.proofs.TextLines.{picked-plain, ended-lines, no-text}
use Rattle.dictcol.specs.Crowded.{CrowdsColumn}
use Rattle.dictcol.specs.Merge.{CrowdsBehind}
use Rattle.dictcol.proofs.Written.{file-weaker}
use Rattle.std.proofs.lemmas.Result.{IfErr-weaker, err_from_is_err_and}
use Rattle.dictcol.proofs.TooMany.{take-weaker}
use Rattle.dictcol.proofs.merge.TextLines.append_file.Goals as goal

pub invariant_of-self : goal.invariant_of-self
invariant_of-self g c =
    let holds = c.in_ok-lines.ensures.lines.1 in
    (picked-plain holds.dictionary holds.each_a_line holds.numbers c.in_ok-lines.lines holds.picked, c.self.invariant.1)

pub returns-then-is_empty-2-clause-ok : goal.returns-then-is_empty-2-clause-ok
returns-then-is_empty-2-clause-ok g c =
    let lines = c.in_ok-lines.lines in
    let rest = string_bytes c.self.inside.rest in
    let none : length (string_bytes c.self.inside.rest) ≡ 0 = search rules in
    let empty : c.self.inside.lines ≡ [] = search rules in
    let some : c.in_ok-lines.lines ≢ [] = λ e. search rules in
    let is_ended : c.in_ok-lines.is_ended ≡ true = search rules in
    let view : text_of_ended c.self.inside.lines (string_bytes c.self.inside.rest) ≡ c.args.self.now = search rules in
    let old = sym view ∙ no-text c.self.inside.lines rest empty none in
    let file = c.in_ok-lines.ensures.lines in (
      text_of_lines lines c.in_ok-lines.is_ended,
      (file.0, (lines, c.in_ok-lines.is_ended, file.1, refl), file.2),
      ended-lines lines rest some none ∙ ap (text_of_lines lines) (sym is_ended) ∙ ap (λ text. text ++ text_of_lines lines c.in_ok-lines.is_ended) (sym old),
    )

pub append-requires : goal.append-requires
append-requires g c =
    let holds = c.in_ok-lines.ensures.lines.1 in picked-plain holds.dictionary holds.each_a_line holds.numbers c.in_ok-lines.lines holds.picked

pub returns-clause-err : goal.returns-clause-err
returns-clause-err g c =
    let lines = c.in_ok-lines.lines in
    let file = c.in_ok-lines.ensures.lines in
    IfErr-weaker c.append.result _ _ (λ fault taking. inr (
      c.args.bytes.items,
      refl,
      inl (take-weaker fault
          (λ refused. inr (text_of_lines lines c.in_ok-lines.is_ended, (file.0, (lines, c.in_ok-lines.is_ended, file.1, refl), file.2), refused)) taking),
    )) c.append.ensures.fault

pub returns-in_err-lines-clause-err : goal.returns-in_err-lines-clause-err
returns-in_err-lines-clause-err g c =
    let p = err_from_is_err_and c.from_residual.result c.from_residual.ensures.1 in
    rw (p.1, p.2) (file-weaker (CrowdsColumn g.B.Store.numbering) (CrowdsBehind g.B.Store.numbering c.args.self.now) (Some c.args.bytes.items) _ (λ text crowded. inl crowded) c.in_err-lines.ensures.err)
