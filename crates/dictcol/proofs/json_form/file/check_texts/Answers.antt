use Rattle.std.proofs.Common.{◌≡◌, ◌||◌, true, false, sym, ap, ◌∙◌}
use Rattle.std.specs.List.{list_any}
use Rattle.string_interner.proofs.Lemmas.Backend.Entries.{first_entry, no_entry}
use Rattle.dictcol.specs.Lines.{has_newline}
use Rattle.dictcol.proofs.json_form.file.check_texts.Goals as goal

pub returns-then-contains-clause-err : goal.returns-then-contains-clause-err
returns-then-contains-clause-err g c =
    let first = first_entry g.B.Store.numbering _ _ _ _ _ _ c.in-Some.ensures.steps in
    let has : has_newline c.in-Some.text.now ≡ true = sym (ap has_newline c.as_bytes.ensures.value) ∙ sym c.contains.ensures.value ∙ c.if-contains.true in
    (tt, sym c.loop-text.invariant ∙ ap (list_any has_newline) first ∙ ap (λ b. b || list_any has_newline c.next.new.self.ahead) has)

pub loop-text-preserved : goal.loop-text-preserved
loop-text-preserved g c =
    let first = first_entry g.B.Store.numbering _ _ _ _ _ _ c.in-Some.ensures.steps in
    let plain : has_newline c.in-Some.text.now ≡ false = sym (ap has_newline c.as_bytes.ensures.value) ∙ sym c.contains.ensures.value ∙ c.if-contains.false in
    sym (ap (λ b. b || list_any has_newline c.next.new.self.ahead) plain) ∙ sym (ap (list_any has_newline) first) ∙ c.loop-text.invariant

pub returns-clause-ok : goal.returns-clause-ok
returns-clause-ok g c = sym c.loop-text.invariant ∙ ap (list_any has_newline) (no_entry g.B.Store.numbering _ _ c.in-None.ensures.steps.0)
