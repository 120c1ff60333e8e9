use Rattle.std.proofs.Common.{◌≡◌, ℕ, ◌+◌, ◌<◌, List, Some, length, refl, sym, ap, ◌∙◌, subst, arith, rules, tests}
use Rattle.std.proofs.lemmas.List.{length-append, length-set, length-take-le}
use Rattle.string_interner.specs.Text.{Text}
use Rattle.string_interner.specs.StringBackend.{IsCut}
use Rattle.handles.specs.Any.{any_of, text_at}
use Rattle.handles.specs.Entries.{IsEntryAt}
use Rattle.handles.specs.declared.kind.Kind.TheVariants.{String}
use Rattle.handles.specs.declared.text.Cursor.{Cursor}
use Rattle.handles.specs.declared.text.Entry.{Entry}
use Rattle.handles.proofs.Lemmas.IsCut.{count_is, start_after, within_texts, front_start_le_end, front_start_boundary, front_end_boundary, front_text}
use Rattle.handles.proofs.Lemmas.Entries.{index_fits, reads_text, piece-more, read-more, rest-more}
use Rattle.handles.proofs.any.entries.string_entries.Goals as goal

pub overflow_cast-entry : goal.overflow_cast-entry
overflow_cast-entry c =
    let within : c.args.cursor.now.place + c.loop-index.index < length c.as_slices.result.0.now = omega arith in
    let cut = subst (λ (texts : List Text). IsCut c.as_parts.result.0.now c.as_parts.result.1.now.items texts) c.backend.ensures.texts c.as_parts.ensures in
    let fits = index_fits c.args.interner.now c.len.ensures.holds.texts _ (within_texts _ _ _ _ _ cut c.as_slices.ensures _ within) in
    search rules

pub range-requires-clause-start_le_end : goal.range-requires-clause-start_le_end
range-requires-clause-start_le_end c = rw c.loop-index.invariant.start (front_start_le_end _ _ _ _ _ c.as_parts.ensures c.as_slices.ensures (c.args.cursor.now.place + c.loop-index.index) (omega arith))

pub range-requires-clause-start_boundary : goal.range-requires-clause-start_boundary
range-requires-clause-start_boundary c = λ _. rw c.loop-index.invariant.start (front_start_boundary _ _ _ _ _ c.as_parts.ensures c.as_slices.ensures (c.args.cursor.now.place + c.loop-index.index) (omega arith))

pub range-requires-clause-end_boundary : goal.range-requires-clause-end_boundary
range-requires-clause-end_boundary c = front_end_boundary _ _ _ _ _ c.as_parts.ensures c.as_slices.ensures (c.args.cursor.now.place + c.loop-index.index) (omega arith)

pub loop-index-preserved : goal.loop-index-preserved
loop-index-preserved c =
    let so_far = c.loop-index.invariant in
    let of = c.args.interner.now in
    let list = c.len.ensures.holds.texts in
    let i = c.args.cursor.now.place + c.loop-index.index in
    let at : Cursor = record { index = c.args.cursor.now.index + c.loop-index.index; place = i } in
    let entry : Entry = record { symbol = i; text = record { bytes = c.as_bytes-entry.result } } in
    let within : i < length c.as_slices.result.0.now = omega arith in
    let fits : c.loop-index.index < length c.loop-index.room = omega arith in
    let ahead : c.args.cursor.now.index + c.loop-index.index < length of.texts = omega arith in
    let cut = subst (λ (texts : List Text). IsCut c.as_parts.result.0.now c.as_parts.result.1.now.items texts) c.backend.ensures.texts c.as_parts.ensures in
    let read : text_at (any_of String of) i ≡ Some c.as_bytes-entry.result.now =
    reads_text of list i _ (within_texts _ _ _ _ _ cut c.as_slices.ensures i within) (rw (c.as_bytes-entry.ensures.value, c.range.ensures.value, so_far.start) (front_text _ _ _ _ _ cut c.as_slices.ensures i within)) in
    let is : IsEntryAt (any_of String of) i (Some entry) = (refl, read) in
    record {
      room = rw (length-set c.loop-index.room c.loop-index.index entry) so_far.room;
      rest = rest-more c.loop-index.room c.args.room.now _ c.loop-index.index entry so_far.rest refl;
      start = sym (start_after c.as_slices.result.0.now i _ (omega arith));
      read = read-more (any_of String of) i c.loop-index.index c.loop-index.room _ entry so_far.read is fits refl;
      piece = λ here. piece-more (any_of String of) list at (so_far.piece here).cursor ahead c.args.cursor.now _ c.loop-index.index c.loop-index.room _ entry (so_far.piece here) is fits refl (omega arith) (λ _. omega arith);
    }

pub returns : goal.returns
returns c =
    let so_far = c.loop-index.invariant in
    let texts = c.args.interner.now.texts in
    let at = c.args.cursor.now in
    let all : c.loop-index.index ≡ c.min-many.result = omega arith in
    let cut = subst (λ (texts : List Text). IsCut c.as_parts.result.0.now c.as_parts.result.1.now.items texts) c.backend.ensures.texts c.as_parts.ensures in
    let none : length c.as_slices.result.1.now ≡ 0 = search (rules, tests) in
    let count : length texts ≡ length c.as_slices.result.0.now = omega (arith, count_is _ _ _ cut, ap (λ (ends : List ℕ). length ends) c.as_slices.ensures, length-append c.as_slices.result.0.now c.as_slices.result.1.now) in
    rw (← all) (record {
      fits = omega arith;
      same_length = so_far.room;
      rest = so_far.rest;
      read = so_far.read;
      piece = so_far.piece;
      many = λ here. let place_is : at.index ≡ at.place = sym (length-take-le at.index texts here.within) ∙ here.place in omega arith;
    })
