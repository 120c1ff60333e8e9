use Rattle.std.proofs.Common.{◌++◌, length, sym, ap, ◌∙◌, arith}
use Rattle.std.proofs.lemmas.List.{append-nil}
use Rattle.string_interner.specs.Extend.{texts_of}
use Rattle.string_interner.proofs.Lemmas.Backend.Entries.{first_entry, no_entry}
use Rattle.dictcol.proofs.LinesOf.{walked-on}
use Rattle.dictcol.proofs.HoldsLines.{dictionary_numbering}
use Rattle.dictcol.proofs.json_form.file.list_texts.Goals as goal

pub loop-text-preserved : goal.loop-text-preserved
loop-text-preserved c =
    let first = first_entry dictionary_numbering _ _ _ _ _ _ c.in-Some.ensures.steps in
    record {
      so_far = walked-on c.loop-text.texts.items _ c.in-Some.text _ _ _ c.loop-text.invariant.so_far first c.push_reserved.ensures.items;
      room = omega (arith, ap length first, c.loop-text.invariant.room, c.push_reserved.ensures.len, c.push_reserved.ensures.capacity);
    }

pub returns-clause-ok : goal.returns-clause-ok
returns-clause-ok c =
    let none = no_entry dictionary_numbering _ _ c.in-None.ensures.steps.0 in
    sym (append-nil (texts_of c.loop-text.texts.items)) ∙ ap (λ ahead. texts_of c.loop-text.texts.items ++ ahead) (sym none) ∙ c.loop-text.invariant.so_far
