use Rattle.std.proofs.Common.{◌≡◌, ◌<◌, length, suc, sym, ap, ◌∙◌, arith, rules}
use Rattle.std.specs.Prelude.{slice_get, slice_index}
use Rattle.std.specs.String.{string_bytes}
use Rattle.string_interner.specs.Backend.{Contents}
use Rattle.string_interner.specs.StringBackend.{cut, start_at}
use Rattle.string_interner.proofs.Lemmas.StringBackend.IsCut.{start_le_end, start_boundary, part_at, cut_length}
use Rattle.string_interner.proofs.backend.string.StringBackend.narrow_text.Goals as goal
use Rattle.string_interner.proofs.backend.string.StringBackend.narrow_text.Goals.{After-deref}
use Rattle.string_interner.proofs.backend.string.StringBackend.narrow_text.Given.{Over}

within : (g : Over) (c : After-deref g) → c.args.index < length (cut 0 (string_bytes c.self.inside.joined) c.self.inside.ends.items)
within g c =
    let n : c.args.index < length c.self.inside.ends.items = search rules in
    omega (arith, cut_length 0 (string_bytes c.self.inside.joined) c.self.inside.ends.items)

start_is : (g : Over) (c : After-deref g) → c.in-Some.start ≡ start_at c.self.inside.ends.items c.args.index
start_is g c = search rules

end_is : (g : Over) (c : After-deref g) → c.in-Some.end ≡ slice_index c.self.inside.ends.items c.args.index
end_is g c = search rules

pub range-requires-clause-start_le_end : goal.range-requires-clause-start_le_end
range-requires-clause-start_le_end g c = rw (start_is g c, end_is g c) (start_le_end _ _ _ c.self.invariant.parts c.args.index (within g c))

pub range-requires-clause-start_boundary : goal.range-requires-clause-start_boundary
range-requires-clause-start_boundary g c = λ _. rw (start_is g c, c.deref.ensures) (start_boundary _ _ _ c.self.invariant.parts c.args.index (omega (arith, within g c)))

pub range-requires-clause-end_boundary : goal.range-requires-clause-end_boundary
range-requires-clause-end_boundary g c = rw (end_is g c, c.deref.ensures) (start_boundary _ _ _ c.self.invariant.parts (suc c.args.index) (omega (arith, within g c)))

pub returns-in-Some : goal.returns-in-Some
returns-in-Some g c =
    let n : c.args.index < length c.self.inside.ends.items = search rules in
    let start_is : c.in-Some.start ≡ start_at c.self.inside.ends.items c.args.index = search rules in
    let end_is : c.in-Some.end ≡ slice_index c.self.inside.ends.items c.args.index = search rules in
    let within : c.args.index < length (cut 0 (string_bytes c.self.inside.joined) c.self.inside.ends.items) = omega (arith, cut_length 0 (string_bytes c.self.inside.joined) c.self.inside.ends.items) in
    rw (c.range.ensures.value, start_is, end_is, c.deref.ensures) (sym (ap (λ (b : Contents). slice_get b.texts c.args.index) c.self.view_is) ∙ part_at _ _ _ c.self.invariant.parts c.args.index within)
