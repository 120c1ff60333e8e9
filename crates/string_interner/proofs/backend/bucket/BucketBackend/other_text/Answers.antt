use Rattle.std.proofs.Common.{◌<◌, List, length, sym, ap, ◌∙◌, arith}
use Rattle.std.specs.Prelude.{slice_get}
use Rattle.std.proofs.lemmas.List.{length-map}
use Rattle.string_interner.specs.Backend.{Bucket}
use Rattle.string_interner.specs.BucketBackend.{BucketContents, buckets_of, interned_text}
use Rattle.string_interner.proofs.Lemmas.BucketBackend.IsEntry.{entry_text}
use Rattle.string_interner.proofs.backend.bucket.BucketBackend.other_text.Goals as goal

pub returns : goal.returns
returns g c =
    let buckets = buckets_of c.self.inside.full.items c.self.inside.head in
    let entries = c.self.inside.entries.items in
    let within : c.args.index < length entries = omega (arith, c.requires, ap (λ (b : BucketContents). length b.texts) c.self.view_is, length-map entries (interned_text buckets)) in
    let read = c.interned_text.ensures ∙ ap (λ (full : List Bucket). interned_text (buckets_of full c.self.inside.head) c.get.result) c.deref.ensures.value in
    ap (λ (b : BucketContents). slice_get b.texts c.args.index) (sym c.self.view_is) ∙ entry_text buckets entries c.args.index c.get.result c.interned_text.result.now within c.get.ensures read
