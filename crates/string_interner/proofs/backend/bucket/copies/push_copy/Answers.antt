use Rattle.std.proofs.Common.{subst}
use Rattle.string_interner.specs.BucketBackend.{buckets_of, IsEntry}
use Rattle.string_interner.proofs.Lemmas.BucketBackend.Piece.{piece-joined}
use Rattle.string_interner.proofs.backend.bucket.copies.push_copy.Goals as goal

pub returns-clause-pushes : goal.returns-clause-pushes
returns-clause-pushes c = record { copy = _; pushed = c.in_ok-push-2.ensures.items; copied = piece-joined (buckets_of c.args.full.now c.args.head.now) c.lead_to.new.piece c.lead_to.new.bucket _ c.args.interned c.in-InBucket.number c.in-InBucket.span c.len.result c.in_ok-lead_to.ensures.piece (subst (IsEntry (buckets_of c.args.full.now c.args.head.now)) c.in-InBucket.is c.requires.entry) c.in_ok-lead_to.ensures.same c.in_ok-lead_to.ensures.ends.0 c.in_ok-lead_to.ensures.ends.1 c.len.ensures.value c.in-InBucket.is }
