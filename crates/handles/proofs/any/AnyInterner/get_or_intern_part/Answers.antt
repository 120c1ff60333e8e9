use Rattle.std.proofs.Common.{rules, refl, inl}
use Rattle.std.specs.Prelude.{slice_range}
use Rattle.handles.proofs.any.AnyInterner.get_or_intern_part.Goals as goal

pub returns-in_default-to_vec : goal.returns-in_default-to_vec
returns-in_default-to_vec c = (slice_range c.in-Some.text.now c.args.from c.args.to, (c.in-Some.text.now, search rules, search rules, search rules, search rules), inl refl)
