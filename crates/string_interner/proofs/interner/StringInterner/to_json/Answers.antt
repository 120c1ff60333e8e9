use Rattle.std.proofs.Common.{rules, ap, ◌∙◌}
use Rattle.serde_json.specs.Data.{string, array}
use Rattle.serde_json.specs.View.{view, items_of}
use Rattle.string_interner.proofs.Lemmas.Backend.Entries.{first_entry, no_entry}
use Rattle.string_interner.proofs.Lemmas.Json.Reads.{written_on, written_over}
use Rattle.string_interner.proofs.interner.StringInterner.to_json.Goals as goal

pub loop-text-preserved : goal.loop-text-preserved
loop-text-preserved g c = record {
  so_far = written_on view string c.loop-text.elements.items c.push_reserved.new.self.items c.in_ok-try_from_str.field-0 c.in-Some.text.now _ _ _ c.loop-text.invariant.so_far
      (first_entry g.B.Store.numbering _ _ _ _ _ _ c.in-Some.ensures.steps) (search rules) (search rules);
  room = search rules;
}

pub returns : goal.returns
returns g c = record {
  value = c.from.ensures ∙ ap (λ xs. array (items_of xs)) (written_over view string c.loop-text.elements.items _ _ c.loop-text.invariant.so_far
      (no_entry g.B.Store.numbering _ _ c.in-None.ensures.steps.0));
}
