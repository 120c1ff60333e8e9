use Rattle.std.proofs.Common.{map, take, sym, ap, ◌∙◌}
use Rattle.std.proofs.lemmas.List.{take-map}
use Rattle.string_interner.specs.BucketBackend.{BucketContents, buckets_of, interned_text, is_static}
use Rattle.string_interner.proofs.Lemmas.BucketBackend.IsInBuckets.{stored-take}
use Rattle.string_interner.proofs.backend.bucket.BucketBackendBackend.truncate.Goals as goal

pub invariant_of-self : goal.invariant_of-self
invariant_of-self g c = stored-take g.S.Symbol.symbol_of _ _ _ _ c.args.len c.self.invariant c.truncate.ensures.items

pub returns-clause-texts : goal.returns-clause-texts
returns-clause-texts g c =
    let f = interned_text (buckets_of c.self.inside.full.items c.self.inside.head) in
    ap (map f) c.truncate.ensures.items ∙ sym (take-map f c.args.len c.self.inside.entries.items) ∙ ap (λ (b : BucketContents). take c.args.len b.texts) c.self.view_is

pub returns-clause-statics : goal.returns-clause-statics
returns-clause-statics g c =
    ap (map is_static) c.truncate.ensures.items ∙ sym (take-map is_static c.args.len c.self.inside.entries.items) ∙ ap (λ (b : BucketContents). take c.args.len b.statics) c.self.view_is
