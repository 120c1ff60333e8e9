use Rattle.std.proofs.Common.{ℕ, ◌-◌, take, ap, arith, ◌∙◌}
use Rattle.std.proofs.lemmas.List.Sums.{sum_by-take-drop}
use Rattle.string_interner.specs.BucketEntries.{EntryList, is_long}
use Rattle.string_interner.proofs.Lemmas.BucketEntries.{count-behind, kept-packed}
use Rattle.string_interner.proofs.backend.bucket.entries.Entries.truncate.Goals as goal

pub overflow_sub-len : goal.overflow_sub-len
overflow_sub-len c = omega (arith, count-behind c.self.inside.packed.items _ c.args.len _ c.deref.ensures.value c.count_long-dropped.ensures, c.len-then-len.ensures, c.self.invariant.count, c.self.inside.long.ok.0, sum_by-take-drop is_long c.self.inside.packed.items c.args.len)

pub invariant_of-self : goal.invariant_of-self
invariant_of-self c = (kept-packed c.self.inside.long.items _ c.self.inside.packed.items _ c.args.len c.count_long-dropped.result c.self.invariant (count-behind c.self.inside.packed.items _ c.args.len _ c.deref.ensures.value c.count_long-dropped.ensures) c.truncate-then-len.ensures.items (c.truncate.ensures.items ∙ ap (λ (n : ℕ). take (n - c.count_long-dropped.result) c.self.inside.long.items) (c.len-then-len.ensures ∙ c.self.inside.long.ok.0))).1

pub returns-then-len-clause-items : goal.returns-then-len-clause-items
returns-then-len-clause-items c = (kept-packed c.self.inside.long.items _ c.self.inside.packed.items _ c.args.len c.count_long-dropped.result c.self.invariant (count-behind c.self.inside.packed.items _ c.args.len _ c.deref.ensures.value c.count_long-dropped.ensures) c.truncate-then-len.ensures.items (c.truncate.ensures.items ∙ ap (λ (n : ℕ). take (n - c.count_long-dropped.result) c.self.inside.long.items) (c.len-then-len.ensures ∙ c.self.inside.long.ok.0))).0 ∙ ap (λ (e : EntryList). take c.args.len e.items) c.self.view_is
