use Rattle.std.proofs.Common.{◌<◌, length, suc, sym, ap, ◌∙◌, arith}
use Rattle.std.specs.Prelude.{slice_get}
use Rattle.std.specs.String.{string_bytes}
use Rattle.string_interner.specs.Backend.{Contents}
use Rattle.string_interner.specs.StringBackend.{cut}
use Rattle.string_interner.proofs.Lemmas.StringBackend.IsCut.{start_le_end, start_boundary, part_at, cut_length}
use Rattle.string_interner.proofs.backend.string.StringBackend.text_at.Goals as goal
use Rattle.string_interner.proofs.backend.string.StringBackend.text_at.Goals.{After-self}
use Rattle.string_interner.proofs.backend.string.StringBackend.text_at.Given.{Over}

within : (g : Over) (c : After-self g) → c.args.index < length (cut 0 (string_bytes c.self.inside.joined) c.self.inside.ends.items)
within g c = let n = ap (λ (b : Contents). length b.texts) c.self.view_is in omega (arith, c.requires)

pub span-start-requires : goal.span-start-requires
span-start-requires g c = omega (arith, within g c, cut_length 0 (string_bytes c.self.inside.joined) c.self.inside.ends.items)

pub range-requires-clause-start_le_end : goal.range-requires-clause-start_le_end
range-requires-clause-start_le_end g c =
    let n = ap (λ (b : Contents). length b.texts) c.self.view_is in
    rw c.span-start.ensures (start_le_end _ _ _ c.self.invariant.parts c.args.index (omega (arith, c.requires)))

pub range-requires-clause-start_boundary : goal.range-requires-clause-start_boundary
range-requires-clause-start_boundary g c = λ _.
    let n = ap (λ (b : Contents). length b.texts) c.self.view_is in
    rw (c.span-start.ensures, c.deref.ensures) (start_boundary _ _ _ c.self.invariant.parts c.args.index (omega (arith, c.requires)))

pub range-requires-clause-end_boundary : goal.range-requires-clause-end_boundary
range-requires-clause-end_boundary g c =
    let n = ap (λ (b : Contents). length b.texts) c.self.view_is in
    rw (c.span-start.ensures, c.deref.ensures) (start_boundary _ _ _ c.self.invariant.parts (suc c.args.index) (omega (arith, c.requires)))

pub returns-clause-text : goal.returns-clause-text
returns-clause-text g c =
    let n = ap (λ (b : Contents). length b.texts) c.self.view_is in
    rw (c.range.ensures.value, c.span-start.ensures, c.deref.ensures) (sym (ap (λ (b : Contents). slice_get b.texts c.args.index) c.self.view_is) ∙ part_at _ _ _ c.self.invariant.parts c.args.index (omega (arith, c.requires)))
