use Rattle.std.proofs.Common.{◌∙◌}
use Rattle.string_interner.proofs.Lemmas.BucketBackend.AreCopies.{copies-joined}
use Rattle.string_interner.proofs.backend.bucket.BucketBackendCopyBackend.try_copy.Goals as goal

pub returns-clause-buckets : goal.returns-clause-buckets
returns-clause-buckets g c = copies-joined _ c.clone.result (c.count.ensures.statics ∙ c.count.ensures.value) c.clone.ensures
