-- How texts lie in buckets: where the text of an entry is stored, how a text is appended, and what bounds the
-- capacities.
-- Cited by the model and the contracts of `BucketBackend`.
use Rattle.std.specs.Prelude.{◌≡◌, ℕ, ◌+◌, ◌-◌, ◌*◌, ◌^◌, ◌<◌, ◌≤◌, min, max, List, [], ◌∷◌, ◌++◌, length, map, sum_by, slice_index_or, slice_get, slice_range, All, Bool, true, false, Option, Some, Result}
use Rattle.std.specs.Str.{IsUtf8, IsCharBoundary}
use Rattle.std.specs.Int.{IsNextPowerOfTwo}
use Rattle.string_interner.specs.Text.{Text}
use Rattle.string_interner.specs.Numbering.{Numbering, by_index}
use Rattle.string_interner.specs.Backend.{AppendsInto, Bucket, IsValidList}
use Rattle.string_interner.specs.declared.backend.InternError.{InternError}
use Rattle.string_interner.specs.declared.backend.bucket.interned_str.Piece.{Piece}
use Rattle.string_interner.specs.declared.backend.bucket.interned_str.InternedStr.{InternedStr}
use Rattle.string_interner.specs.declared.backend.bucket.interned_str.InternedStr.TheVariants.{InBucket, Static}

-- what contracts see of a `BucketBackend`
pub record BucketContents : Type 0 where
  pub texts : List Text
  -- for each text, whether it is static, and so stored in no bucket
  pub statics : List Bool
  -- the older buckets, in the order in which they were filled
  pub full : List Bucket
  -- the bucket to which texts are appended
  pub head : Bucket
  pub room : ℕ

-- the entry with this index has this text
abbrev pub HasTextAt : BucketContents → ℕ → Text → Type 0
HasTextAt contents index text = slice_get contents.texts index ≡ Some text

-- How many more entries there is room for. More than 2^32 - 1 count only as far as each may be long, since a text that takes
-- as many bytes is.
abbrev pub entry_room : ℕ → ℕ → ℕ
entry_room spare long_spare = min spare (max (2 ^ 32 - 1) long_spare)

-- a backend without texts, with one bucket of this capacity
abbrev pub empty_contents : ℕ → ℕ → BucketContents
empty_contents capacity room = record { texts = []; statics = []; full = []; head = record { capacity = capacity; bytes = [] }; room = room }

-- all buckets: the older ones, then the head
abbrev pub buckets_of : List Bucket → Bucket → List Bucket
buckets_of full head = full ++ head ∷ []

-- the bucket with this number
abbrev pub bucket_at : List Bucket → ℕ → Bucket
bucket_at buckets number = slice_index_or buckets number (record { capacity = 0; bytes = [] })

-- the sum of the requested capacities
abbrev pub total_capacity : List Bucket → ℕ
total_capacity buckets = sum_by (λ bucket. bucket.capacity) buckets

-- how many bytes are stored in the buckets
abbrev pub byte_count : List Bucket → ℕ
byte_count buckets = sum_by (λ bucket. length bucket.bytes) buckets

-- the requested capacities add up to at most that of the first bucket, or four times the bytes stored
abbrev pub AreBounded : List Bucket → Type 0
AreBounded buckets = total_capacity buckets ≤ max (bucket_at buckets 0).capacity (4 * byte_count buckets)

-- How a `BucketBackend` numbers texts: by their index. A text costs its length in bytes, and at least one.
abbrev pub bucket_numbering : {S : Type 0} → (ℕ → Option S) → (S → ℕ) → Numbering S
bucket_numbering symbol_of number = by_index symbol_of number (λ text. max 1 (length text))

-- a text is appended
abbrev pub AppendsText : {S : Type 0} → (ℕ → Option S) → (S → ℕ) → BucketContents → Text → Result S InternError → BucketContents → Type 0
AppendsText symbol_of number =
    AppendsInto (bucket_numbering symbol_of number) (λ b. b.texts) (λ b. buckets_of b.full b.head) (λ b. b.room)

-- A text is stored in the buckets: appended to the head, if it fits the head's capacity. Else the head joins the older
-- buckets, and the text begins a new head, whose capacity is the least power of two above both the old head's capacity
-- and the text's length.
pub record Puts (text : Text) (full : List Bucket) (head : Bucket) (new_full : List Bucket) (new_head : Bucket) : Type 0 where
  pub fits : length head.bytes + length text ≤ head.capacity → (new_full ≡ full) × (new_head ≡ record head { bytes = head.bytes ++ text })
  pub too_long : head.capacity < length head.bytes + length text
      → (new_full ≡ full ++ head ∷ []) × (new_head.bytes ≡ text) × IsNextPowerOfTwo (max head.capacity (length text) + 1) new_head.capacity

-- the bucket has the same capacity, and the same bytes or more after them
pub record StaysIn (old new : Bucket) : Type 0 where
  pub capacity : new.capacity ≡ old.capacity
  pub more : List ℕ
  pub bytes : new.bytes ≡ old.bytes ++ more

-- each byte of a bucket stays at its index in its bucket
pub record Stays (old new : List Bucket) : Type 0 where
  pub count : length old ≤ length new
  pub each : (k : ℕ) → k < length old → StaysIn (bucket_at old k) (bucket_at new k)

-- the texts stored in buckets, one after another: all but the static ones
abbrev pub copied_bytes : List Text → List Bool → List ℕ
copied_bytes (text ∷ texts) (false ∷ statics) = text ++ copied_bytes texts statics
copied_bytes (text ∷ texts) (true ∷ statics) = copied_bytes texts statics
copied_bytes _ _ = []

-- the buckets are unchanged
pub record KeepsBuckets (old new : BucketContents) : Type 0 where
  pub full : new.full ≡ old.full
  pub head : new.head ≡ old.head

-- the capacity of a head that holds the bytes of all buckets and keeps the spare bytes of this head
abbrev pub joint_capacity : BucketContents → ℕ
joint_capacity contents = contents.head.capacity + byte_count contents.full

-- the copy has the same texts, with all that were in buckets in one head, and static texts by reference
pub record JoinsBuckets (old copy : BucketContents) : Type 0 where
  pub texts : copy.texts ≡ old.texts
  pub statics : copy.statics ≡ old.statics
  pub full : copy.full ≡ []
  pub head : copy.head ≡ record { capacity = joint_capacity old; bytes = copied_bytes old.texts old.statics }
  pub shared : length copy.head.bytes ≤ byte_count (buckets_of old.full old.head)
  pub fits : joint_capacity old < 2 ^ 64

-- What the buckets of a copy are, by the texts and the buckets that are copied: one, with the joint capacity and the
-- texts that are not static. No static text was copied: its bytes are no more than those that were in buckets.
pub record CopiesBuckets (texts : List Text) (old copy : List Bucket) : Type 0 where
  pub statics : List Bool
  pub full : List Bucket
  pub head : Bucket
  pub each : length statics ≡ length texts
  pub old_are : old ≡ buckets_of full head
  pub copy_is : copy ≡ record { capacity = head.capacity + byte_count full; bytes = copied_bytes texts statics } ∷ []
  pub shared : byte_count copy ≤ byte_count old

-- whether an entry is static
abbrev pub is_static : InternedStr → Bool
is_static (InBucket bucket span) = false
is_static (Static text) = true

-- the text of an entry
abbrev pub interned_text : List Bucket → InternedStr → Text
interned_text buckets (InBucket bucket span) = slice_range (bucket_at buckets bucket).bytes span.from span.to
interned_text buckets (Static text) = text.now

-- a byte range of a bucket, between two character boundaries
pub record IsPart (buckets : List Bucket) (bucket from to : ℕ) : Type 0 where
  pub there : bucket < length buckets
  pub ordered : from ≤ to
  pub begins : IsCharBoundary (bucket_at buckets bucket).bytes from
  pub ends : IsCharBoundary (bucket_at buckets bucket).bytes to

-- the entry is a part of a bucket, or a static text
abbrev pub IsEntry : List Bucket → InternedStr → Type 0
IsEntry buckets (InBucket bucket span) = IsPart buckets bucket span.from span.to
IsEntry buckets (Static text) = IsUtf8 text.now

-- how many bytes of the buckets an entry takes
abbrev pub interned_len : InternedStr → ℕ
interned_len (InBucket bucket span) = span.to - span.from
interned_len (Static text) = 0

-- the entry is the text at the end of the head
pub record IsLast (text : Text) (full : List Bucket) (head : Bucket) (entry : InternedStr) : Type 0 where
  pub before : List ℕ
  pub bytes_are : head.bytes ≡ before ++ text
  pub entry_is : entry ≡ InBucket (length full) (record { from = length before; to = length before + length text })

-- The buckets are few, since the capacity of each new head is a power of two above the one before.
abbrev pub AreFew : List Bucket → Bucket → Type 0
AreFew full head = 2 ^ length full ≤ max 1 head.capacity

-- What bounds the capacities: a new head is made only for a text that does not fit the old one.
pub record IsTight (full : List Bucket) (head : Bucket) : Type 0 where
  pub within : length head.bytes ≤ head.capacity
  pub older : 0 < length full → total_capacity full + 1 ≤ 2 * byte_count full + length head.bytes
  pub newest : 0 < length full → head.capacity ≤ 2 * (byte_count full + length head.bytes) + 1
  pub few : AreFew full head

-- The invariant of a `BucketBackend`. Buckets may hold bytes that are of no entry.
pub record IsInBuckets {S : Type 0} (symbol_of : ℕ → Option S) (full : List Bucket) (head : Bucket) (entries : List InternedStr) : Type 0 where
  pub standing : All (IsEntry (buckets_of full head)) entries
  pub shared : sum_by interned_len entries ≤ byte_count (buckets_of full head)
  pub tight : IsTight full head
  pub valid : IsValidList symbol_of length (map (interned_text (buckets_of full head)) entries)

-- a piece is a part of a bucket
abbrev pub IsPiece : List Bucket → Piece → Type 0
IsPiece buckets piece = IsEntry buckets (InBucket piece.bucket piece.span)

-- the bucket with the texts of a piece after its bytes
abbrev pub after_piece : List Bucket → Piece → Bucket → Bucket
after_piece buckets piece bucket = record bucket { bytes = bucket.bytes ++ interned_text buckets (InBucket piece.bucket piece.span) }

-- An entry is copied: a text stored in a bucket is appended to this one, and a static text stays a reference.
abbrev pub IsBucketCopy : List Bucket → InternedStr → Bucket → Bucket → InternedStr → Type 0
IsBucketCopy buckets (InBucket bucket span) old new copy =
    let text = interned_text buckets (InBucket bucket span) in
    (new ≡ record old { bytes = old.bytes ++ text }) × IsLast text [] new copy
IsBucketCopy buckets (Static text) old new copy = (new ≡ old) × (copy ≡ Static text)

-- the copy of an entry was pushed
pub record PushesCopy (buckets : List Bucket) (entry : InternedStr) (old new : Bucket) (copies more : List InternedStr) : Type 0 where
  pub copy : InternedStr
  pub copied : IsBucketCopy buckets entry old new copy
  pub pushed : more ≡ copies ++ copy ∷ []

-- the copies have the texts of the entries, of which those in buckets were appended to this one in order
pub record AreCopies (buckets : List Bucket) (entries copies : List InternedStr) (bucket : Bucket) : Type 0 where
  pub standing : All (IsEntry (bucket ∷ [])) copies
  pub texts : map (interned_text (bucket ∷ [])) copies ≡ map (interned_text buckets) entries
  pub statics : map is_static copies ≡ map is_static entries
  pub bytes : bucket.bytes ≡ copied_bytes (map (interned_text buckets) entries) (map is_static entries)
  pub filled : length bucket.bytes ≡ sum_by interned_len entries
  pub len : sum_by interned_len copies ≡ sum_by interned_len entries
