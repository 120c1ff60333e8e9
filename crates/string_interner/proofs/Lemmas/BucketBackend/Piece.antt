-- A piece of texts that stand one after another in a bucket.
use Rattle.std.proofs.Common.{◌≡◌, ℕ, ◌+◌, ◌-◌, ◌≤◌, List, [], ◌++◌, length, take, drop, ap, ◌∙◌, refl, sym, arith}
use Rattle.std.specs.Prelude.{slice_range}
use Rattle.std.specs.Str.{IsUtf8, IsCharBoundary}
use Rattle.std.proofs.Math.Seq.{take-add}
use Rattle.std.proofs.lemmas.List.{append_assoc, length-append, length_push, drop-drop}
use Rattle.std.proofs.lemmas.Str.{IsCharBoundary-start}
use Rattle.string_interner.specs.Backend.{Bucket}
use Rattle.string_interner.specs.BucketBackend.{buckets_of, bucket_at, interned_text, IsPart, IsPiece, after_piece, IsBucketCopy, AreCopies}
use Rattle.string_interner.specs.declared.backend.bucket.interned_str.Piece.{Piece}
use Rattle.string_interner.specs.declared.backend.bucket.fixed_str.Span.{Span}
use Rattle.string_interner.specs.declared.backend.bucket.interned_str.InternedStr.{InternedStr}
use Rattle.string_interner.specs.declared.backend.bucket.interned_str.InternedStr.TheVariants.{InBucket}
use Rattle.string_interner.proofs.Lemmas.BucketBackend.Stays.{length-slice_range}

-- a part is its first bytes and then the rest
pub slice_range-split : (bytes : List ℕ) (i j k : ℕ) → i ≤ j → j ≤ k → slice_range bytes i k ≡ slice_range bytes i j ++ slice_range bytes j k
slice_range-split bytes i j k ij jk =
    ap (λ (n : ℕ). take n (drop i bytes)) (let whole : k - i ≡ (j - i) + (k - j) = omega arith in whole)
    ∙ take-add (j - i) (k - j) (drop i bytes)
    ∙ ap (λ (rest : List ℕ). slice_range bytes i j ++ take (k - j) rest) (drop-drop (j - i) i bytes ∙ ap (λ (n : ℕ). drop n bytes) (let at : i + (j - i) ≡ j = omega arith in at))

-- how long the bucket is with the texts of a piece
pub after_piece-len : (buckets : List Bucket) (piece : Piece) (b : Bucket) → IsPiece buckets piece → length (after_piece buckets piece b).bytes ≡ length b.bytes + (piece.span.to - piece.span.from)
after_piece-len buckets piece b h = omega (arith, length-append b.bytes (interned_text buckets (InBucket piece.bucket piece.span)), length-slice_range (bucket_at buckets piece.bucket).bytes piece.span.from piece.span.to h.ends.0)

-- a text that stands where a piece ends joins the piece
pub piece-joined : (buckets : List Bucket) (piece : Piece) (b old : Bucket) (e : InternedStr) (number : ℕ) (span : Span) (len : ℕ) → IsPiece buckets piece → IsPart buckets number span.from span.to → after_piece buckets piece b ≡ old → piece.bucket ≡ number → piece.span.to ≡ span.from → len ≡ length b.bytes → e ≡ InBucket number span
    → IsBucketCopy buckets e old (after_piece buckets (record { bucket = piece.bucket; span = record { from = piece.span.from; to = span.to } }) b) (InBucket 0 (record { from = len + (piece.span.to - piece.span.from); to = len + (piece.span.to - piece.span.from) + (span.to - span.from) }))
piece-joined buckets piece b old e number span len is part same bucket_is ends_is len_is e_is =
    let bytes = (bucket_at buckets piece.bucket).bytes in
    let first : List ℕ = slice_range bytes piece.span.from piece.span.to in
    let text : List ℕ = slice_range (bucket_at buckets number).bytes span.from span.to in
    let rest : slice_range bytes piece.span.to span.to ≡ text = rw (bucket_is, ends_is) refl in
    let whole : b.bytes ++ slice_range bytes piece.span.from span.to ≡ (b.bytes ++ first) ++ text =
    ap (λ (part : List ℕ). b.bytes ++ part) (slice_range-split bytes piece.span.from piece.span.to span.to is.ordered (omega (arith, part.ordered, ends_is)) ∙ ap (λ (part : List ℕ). first ++ part) rest) ∙ sym (append_assoc b.bytes first text) in
    let from : len + (piece.span.to - piece.span.from) ≡ length (b.bytes ++ first) = omega (arith, len_is, after_piece-len buckets piece b is) in
    let size : span.to - span.from ≡ length text = sym (length-slice_range (bucket_at buckets number).bytes span.from span.to part.ends.0) in
    rw (e_is, ← same) (
      ap (λ (all : List ℕ). let grown : Bucket = record b { bytes = all } in grown) whole,
      record { before = b.bytes ++ first; bytes_are = whole; entry_is = rw from (ap (λ (n : ℕ). let e : InternedStr = InBucket 0 (record { from = length (b.bytes ++ first); to = length (b.bytes ++ first) + n }) in e) size) },
    )

-- before the first entry
pub piece-none : (full : List Bucket) (head bucket : Bucket) (copies : List InternedStr) (text : List ℕ) → IsUtf8 text → text ≡ (bucket_at (buckets_of full head) 0).bytes → copies ≡ [] → bucket.bytes ≡ []
    → IsPiece (buckets_of full head) (record { bucket = 0; span = record { from = 0; to = 0 } }) × AreCopies (buckets_of full head) [] copies (after_piece (buckets_of full head) (record { bucket = 0; span = record { from = 0; to = 0 } }) bucket)
piece-none full head bucket copies text utf8 is none empty =
    let starts : IsCharBoundary (bucket_at (buckets_of full head) 0).bytes 0 = rw (← is) (IsCharBoundary-start text utf8) in (
      record { there = omega (arith, length_push full head); ordered = omega arith; begins = starts; ends = starts },
      rw (none, empty) (record { standing = λ _ _ some. absurd (omega (arith, some)); texts = refl; statics = refl; bytes = refl; filled = refl; len = refl }),
    )
