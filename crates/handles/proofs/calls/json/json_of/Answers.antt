use Rattle.std.proofs.Common.{ap, ◌∙◌}
use Rattle.string_interner.specs.Json.{json_of_texts}
use Rattle.handles.specs.Any.{texts_in}
use Rattle.handles.specs.declared.any.AnyInterner.{AnyInterner}
use Rattle.handles.proofs.Lemmas.Json.{text_of_json}
use Rattle.handles.proofs.calls.json.json_of.Goals as goal

pub returns-in-Ok-clause-json : goal.returns-in-Ok-clause-json
returns-in-Ok-clause-json c = text_of_json _ _ _ (c.in_ok-value.ensures ∙ ap (λ (any : AnyInterner). json_of_texts (texts_in any)) c.interner.ensures.value) c.in-Ok.ensures.text
