use Rattle.std.proofs.Common.{◌++◌, ◌∷◌, [], ap, arith, ◌∙◌}
use Rattle.string_interner.specs.BucketEntries.{EntryList}
use Rattle.string_interner.proofs.Lemmas.BucketEntries.{pushed-packed, pushed-long}
use Rattle.string_interner.proofs.backend.bucket.entries.Entries.push_reserved.Goals as goal

pub invariant_of-self : goal.invariant_of-self
invariant_of-self c = pushed-packed c.self.inside.long.items c.self.inside.packed.items _ c.in-Some.packed c.self.invariant c.push_reserved.ensures.items c.in-Some.ensures.short c.in-Some.ensures.sound

pub invariant_of-self-in-None : goal.invariant_of-self-in-None
invariant_of-self-in-None c = (pushed-long c.self.inside.long.items _ c.self.inside.packed.items _ c.len.result c.args.interned c.self.invariant c.push_reserved-in-None-2.ensures.items c.push_reserved-in-None.ensures.items (omega (arith, c.len.ensures, c.self.inside.long.ok.0))).1

pub returns-in-None-clause-items : goal.returns-in-None-clause-items
returns-in-None-clause-items c = (pushed-long c.self.inside.long.items _ c.self.inside.packed.items _ c.len.result c.args.interned c.self.invariant c.push_reserved-in-None-2.ensures.items c.push_reserved-in-None.ensures.items (omega (arith, c.len.ensures, c.self.inside.long.ok.0))).0 ∙ ap (λ (e : EntryList). e.items ++ c.args.interned ∷ []) c.self.view_is
