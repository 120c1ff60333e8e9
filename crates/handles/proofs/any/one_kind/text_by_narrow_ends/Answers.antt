use Rattle.std.proofs.Common.{◌-◌, ◌≡◌, ◌<◌, List, length, get_or, subst, arith}
use Rattle.string_interner.specs.Text.{Text}
use Rattle.string_interner.specs.StringBackend.{IsCut, start_at}
use Rattle.handles.proofs.Lemmas.IsCut.{start_after, within_texts, front_start_le_end, front_start_boundary, front_end_boundary, front_text}
use Rattle.handles.proofs.Lemmas.Entries.{reads_text}
use Rattle.handles.proofs.any.one_kind.text_by_narrow_ends.Goals as goal

pub range-requires-clause-start_le_end : goal.range-requires-clause-start_le_end
range-requires-clause-start_le_end c =
    rw (← (start_after c.as_slices.result.0.now (c.args.symbol - 1) c.args.symbol (omega arith))) (front_start_le_end _ _ _ _ _ c.as_parts.ensures c.as_slices.ensures c.args.symbol (omega arith))

pub range-requires-clause-start_boundary : goal.range-requires-clause-start_boundary
range-requires-clause-start_boundary c = λ _.
    rw (← (start_after c.as_slices.result.0.now (c.args.symbol - 1) c.args.symbol (omega arith))) (front_start_boundary _ _ _ _ _ c.as_parts.ensures c.as_slices.ensures c.args.symbol (omega arith))

pub range-requires-clause-end_boundary : goal.range-requires-clause-end_boundary
range-requires-clause-end_boundary c = front_end_boundary _ _ _ _ _ c.as_parts.ensures c.as_slices.ensures c.args.symbol (omega arith)

pub returns : goal.returns
returns c =
    let narrow = c.as_slices.result.0.now in
    let within : c.args.symbol < length narrow = omega arith in
    let start_is : start_at narrow c.args.symbol ≡ get_or narrow (c.args.symbol - 1) 0 = start_after narrow (c.args.symbol - 1) c.args.symbol (omega arith) in
    let cut = subst (λ (texts : List Text). IsCut c.as_parts.result.0.now c.as_parts.result.1.now.items texts) c.backend.ensures.texts c.as_parts.ensures in
    reads_text c.args.interner.now c.len.ensures.holds.texts c.args.symbol _ (within_texts _ _ _ _ _ cut c.as_slices.ensures c.args.symbol within)
    (rw (c.range.ensures.value, ← start_is) (front_text _ _ _ _ _ cut c.as_slices.ensures c.args.symbol within))
