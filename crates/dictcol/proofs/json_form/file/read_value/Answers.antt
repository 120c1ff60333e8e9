use Rattle.std.proofs.Common.{◌≡◌, true, None, IfErr, inl, inr, rules}
use Rattle.std.specs.Prelude.{◌⊎◌}
use Rattle.std.specs.List.{list_any}
use Rattle.std.proofs.lemmas.Result.{IfErr-weaker}
use Rattle.serde_json.specs.View.{view, items_view}
use Rattle.dictcol.specs.Fault.{IsValueDamage}
use Rattle.dictcol.specs.declared.fault.Fault.TheVariants.{Memory}
use Rattle.dictcol.specs.File.{indexed_texts}
use Rattle.dictcol.specs.Lines.{has_newline}
use Rattle.dictcol.proofs.HoldsLines.{more-than-a-line, no-index}
use Rattle.dictcol.proofs.json_form.file.read_value.Goals as goal

pub returns-in_err-check_texts-clause-err : goal.returns-in_err-check_texts-clause-err
returns-in_err-check_texts-clause-err g c =
    let dictionary = c.in_ok-dictionary.dictionary.texts in
    let has : IfErr c.from_residual-in_err-check_texts.result (λ fault. IsValueDamage fault × (list_any has_newline c.in_ok-dictionary.dictionary.texts ≡ true)) = search rules in
    IfErr-weaker c.from_residual-in_err-check_texts.result _ _ (λ fault why. inr (why.0, more-than-a-line (view c.args.file.now) dictionary c.in_ok-dictionary.ensures.ok why.1)) has

pub returns-in_err-codes-clause-err : goal.returns-in_err-codes-clause-err
returns-in_err-codes-clause-err g c =
    let dictionary = c.in_ok-dictionary.dictionary.texts in
    let numbers = items_view c.in_ok-find_numbers.field-0.now.items in
    let none : IfErr c.from_residual-in_err-codes.result (λ fault. (fault ≡ Memory) ⊎ (IsValueDamage fault × (indexed_texts c.in_ok-dictionary.dictionary.texts (items_view c.in_ok-find_numbers.field-0.now.items) ≡ None))) = search rules in
    IfErr-weaker c.from_residual-in_err-codes.result _ _ (λ fault why. elim why [
      | inl memory ↦ inl (inl memory)
      | inr damage ↦ inr (damage.0, no-index (view c.args.file.now) dictionary c.in_ok-dictionary.ensures.ok numbers c.in_ok-find_numbers.ensures.ok damage.1)
    ]) none
