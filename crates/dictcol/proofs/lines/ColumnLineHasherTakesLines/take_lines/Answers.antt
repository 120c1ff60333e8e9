use Rattle.std.proofs.Common.{◌++◌, ap, ◌∙◌, ◌∷◌, refl, sym, subst}
use Rattle.std.proofs.lemmas.Iterator.{items_from_drains}
use Rattle.std.proofs.lemmas.Iterator.Consumers.{YieldsList-from_first}
use Rattle.std.specs.List.{slice_split}
use Rattle.string_interner.specs.Extend.{texts_of}
use Rattle.dictcol.specs.Lines.{is_newline}
use Rattle.dictcol.specs.Fault.{intern_fault}
use Rattle.dictcol.specs.TooMany.{LacksLine}
use Rattle.dictcol.proofs.TooMany.{next-refused, refusal-fault, take-weaker, yields-first}
use Rattle.dictcol.proofs.lines.ColumnLineHasherTakesLines.take_lines.Goals as goal

pub returns-in-Ok-clause-ok : goal.returns-in-Ok-clause-ok
returns-in-Ok-clause-ok g c lines is =
    let h = c.in-Ok.ensures in
    let yielded = h.2 in
    let then = rw yielded.1 at yielded.3 in
    let cut = YieldsList-from_first (λ line. line.now) (λ lines. lines) (slice_split is_newline c.args.text.now) c.new.ensures in
    let taken = items_from_drains h.0 (then.0, then.1, λ _. (yielded.2, then.2)) cut in
    h.1 ∙ ap (λ old. old ++ texts_of h.0) is ∙ ap (λ more. lines ++ more) taken

pub returns-in-Err-clause-fault : goal.returns-in-Err-clause-fault
returns-in-Err-clause-fault g c lines is =
    let numbering = g.B.Store.numbering in
    let h = c.in-Err.ensures in
    let refused = h.2.0 in
    let yielded = h.2.1 in
    let then = rw yielded.1 at yielded.3 in
    let first = yields-first (λ lines. lines) h.0 refused _ then.0 yielded.2 then.1 then.2 in
    rw c.of_intern.ensures.value (take-weaker (intern_fault c.in-Err.error)
    (λ lacks. next-refused (LacksLine numbering) lines (texts_of h.0) (refused.now ∷ yielded.2) yielded.2 (slice_split is_newline c.args.text.now) refused.now refl (sym (sym c.new.ensures ∙ first))
    (subst (λ rows. LacksLine numbering rows refused.now) (h.1 ∙ ap (λ old. old ++ texts_of h.0) is) lacks))
    (refusal-fault numbering _ refused.now c.in-Err.error h.2.2))
