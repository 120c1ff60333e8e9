use Rattle.std.proofs.Common.{◌≡◌, take}
use Rattle.string_interner.specs.BucketBackend.{buckets_of, IsPiece, after_piece, AreCopies}
use Rattle.string_interner.proofs.backend.bucket.copies.copies_of.Given as goal

-- the entries so far were copied, of which the texts of the piece come last
abbrev pub invariant-loop-index : goal.invariant-loop-index
invariant-loop-index l = record {
  capacity : l.bucket.capacity ≡ l.capacity;
  piece : IsPiece (buckets_of l.full l.head) l.piece;
  copies : AreCopies (buckets_of l.full l.head) (take l.index l.entries.items) l.copies.items (after_piece (buckets_of l.full l.head) l.piece l.bucket);
}
