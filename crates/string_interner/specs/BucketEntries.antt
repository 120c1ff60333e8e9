-- How the entries of a `BucketBackend` are packed, each into 16 bytes.
-- Cited by the model and the contracts of `Entries`.
use Rattle.std.specs.Prelude.{◌≡◌, ℕ, ◌+◌, ◌-◌, ◌^◌, ◌<◌, ◌≤◌, List, [], ◌∷◌, length, sum_by, slice_index_or, All}
use Rattle.string_interner.specs.Lasting.{reference_at}
use Rattle.string_interner.specs.declared.backend.bucket.interned_str.InternedStr.{InternedStr}
use Rattle.string_interner.specs.declared.backend.bucket.interned_str.InternedStr.TheVariants.{InBucket, Static}
use Rattle.string_interner.specs.declared.backend.bucket.entries.Packed.{Packed}
use Rattle.string_interner.specs.declared.backend.bucket.entries.Packed.TheVariants.{Copied, Reference, Long}

-- what contracts see of `Entries`: the entries in order, how many more there is room for, and how many more long ones:
-- those whose text takes 2^32 bytes or more
pub record EntryList : Type 0 where
  pub items : List InternedStr
  pub spare : ℕ
  pub long_spare : ℕ

-- how long the text of an entry is
abbrev pub text_len : InternedStr → ℕ
text_len (InBucket bucket span) = span.to - span.from
text_len (Static text) = length text.now

-- the entry is static, or a span of a bucket
abbrev pub HasSpan : InternedStr → Type 0
HasSpan (InBucket bucket span) = span.from ≤ span.to
HasSpan (Static text) = Unit {0}

-- An entry packs if its text takes less than 2^32 bytes. The long ones are stored whole in a list of their own.
abbrev pub Packs : InternedStr → Type 0
Packs entry = text_len entry < 2 ^ 32

-- the entry that was packed: a span of a bucket, a reference to a static text, or an index among the long ones
abbrev pub unpack : List InternedStr → Packed → InternedStr
unpack long (Copied bucket len from) = InBucket bucket (record { from = from; to = from + len })
unpack long (Reference len at lasting) = Static (reference_at at lasting.bytes)
unpack long (Long index) = slice_index_or long index (InBucket 0 (record { from = 0; to = 0 }))

-- 1 for an entry that leads to the long ones
abbrev pub is_long : Packed → ℕ
is_long (Copied bucket len from) = 0
is_long (Reference len at lasting) = 0
is_long (Long index) = 1

-- how many of the entries are long
abbrev pub long_count : List Packed → ℕ
long_count packed = sum_by is_long packed

-- an entry that leads to the long ones leads to the index `n`
abbrev pub Leads : ℕ → Packed → Type 0
Leads n (Copied bucket len from) = Unit {0}
Leads n (Reference len at lasting) = Unit {0}
Leads n (Long index) = index ≡ n

-- they lead to the long ones in order, from the index `n` on
abbrev pub LeadFrom : ℕ → List Packed → Type 0
LeadFrom n [] = Unit {0}
LeadFrom n (p ∷ packed) = Leads n p × LeadFrom (n + is_long p) packed

-- The end of a text in a bucket fits a `usize`, and a static text is what lies at the stored address for good.
abbrev pub IsSound : Packed → Type 0
IsSound (Copied bucket len from) = from + len < 2 ^ 64
IsSound (Reference len at lasting) = (at ≡ lasting.at) × (len ≡ length lasting.bytes)
IsSound (Long index) = Unit {0}

-- the invariant of `Entries`
pub record ArePacked (long : List InternedStr) (packed : List Packed) : Type 0 where
  pub lead : LeadFrom 0 packed
  pub count : long_count packed ≡ length long
  pub sound : All IsSound packed
