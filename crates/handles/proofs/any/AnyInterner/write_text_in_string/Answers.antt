use Rattle.std.proofs.Common.{refl, sym, ap, ◌∙◌, Ok, Some, inl}
use Rattle.handles.proofs.any.AnyInterner.write_text_in_string.Goals as goal

pub returns-in-Some : goal.returns-in-Some
returns-in-Some c =
    let is = c.in-Some.ensures ∙ ap Some (sym c.as_bytes.ensures.value) in
    rw c.in-String.is (record { outcome = Ok (record { bytes = c.as_bytes.result }); tells = (refl, refl); outcome_holds = inl (refl, is) })
