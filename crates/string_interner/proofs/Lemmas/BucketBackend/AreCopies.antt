-- The entries of a copy.
use Rattle.std.proofs.Common.{◌≡◌, ℕ, ◌+◌, ◌-◌, ◌<◌, ◌≤◌, min, max, List, [], ◌∷◌, ◌++◌, length, take, get_or, map, All, Option, refl, sym, ap, ◌∙◌, inl, inr, arith}
use Rattle.std.specs.Prelude.{Result, Ok, Err, IfOk}
use Rattle.std.specs.Str.{IsUtf8}
use Rattle.std.proofs.lemmas.Bool.{cases_lt}
use Rattle.std.proofs.lemmas.List.{append-nil, append_assoc, length-append, map_push, length-map, take_more, get_or-map}
use Rattle.std.proofs.lemmas.List.Elements.{All-push, All-get_or}
use Rattle.std.proofs.lemmas.List.Sums.{sum_by_push}
use Rattle.string_interner.specs.Text.{Text}
use Rattle.string_interner.specs.Backend.{Bucket}
use Rattle.string_interner.specs.BucketBackend.{buckets_of, bucket_at, byte_count, Puts, is_static, copied_bytes, interned_text, IsEntry, interned_len, IsInBuckets, IsBucketCopy, PushesCopy, AreCopies, BucketContents, JoinsBuckets, CopiesBuckets}
use Rattle.string_interner.specs.declared.backend.bucket.interned_str.InternedStr.{InternedStr}
use Rattle.string_interner.specs.declared.backend.bucket.interned_str.InternedStr.TheVariants.{InBucket, Static}
use Rattle.string_interner.proofs.Lemmas.BucketBackend.Stays.{length-slice_range, Grow, grow-head}
use Rattle.string_interner.proofs.Lemmas.BucketBackend.IsEntry.{entries-more, texts-more, last_text, last_entry, last_len, last_static}

-- the bytes of one more entry come last
copied_bytes-more : (entries : List InternedStr) (buckets : List Bucket) (e : InternedStr) → copied_bytes (map (interned_text buckets) (entries ++ e ∷ [])) (map is_static (entries ++ e ∷ [])) ≡ copied_bytes (map (interned_text buckets) entries) (map is_static entries) ++ copied_bytes (interned_text buckets e ∷ []) (is_static e ∷ [])
copied_bytes-more [] buckets e = refl
copied_bytes-more (InBucket bucket span ∷ entries) buckets e = rw (copied_bytes-more entries buckets e) (sym (append_assoc (interned_text buckets (InBucket bucket span)) (copied_bytes (map (interned_text buckets) entries) (map is_static entries)) (copied_bytes (interned_text buckets e ∷ []) (is_static e ∷ []))))
copied_bytes-more (Static text ∷ entries) buckets e = copied_bytes-more entries buckets e

-- one more entry was copied
AreCopies-more : (buckets : List Bucket) (entries copies : List InternedStr) (old new : Bucket) (e copy : InternedStr) → IsEntry buckets e → IsUtf8 (interned_text buckets e) → AreCopies buckets entries copies old → IsBucketCopy buckets e old new copy → AreCopies buckets (entries ++ e ∷ []) (copies ++ copy ∷ []) new
AreCopies-more buckets entries copies old new (InBucket bucket span) copy there utf8 are is =
    let e : InternedStr = InBucket bucket span in
    let text = interned_text buckets e in
    let grow : Grow (old ∷ []) (new ∷ []) = grow-head [] old new text utf8 is.0 in
    let count : length new.bytes ≡ length old.bytes + length text = rw is.0 (length-append old.bytes text) in
    let part : length text ≡ span.to - span.from = length-slice_range (bucket_at buckets bucket).bytes span.from span.to there.ends.0 in
    record {
      standing = entries-more (old ∷ []) (new ∷ []) copies copy grow are.standing (last_entry text [] new copy utf8 is.1);
      texts = rw (texts-more (old ∷ []) (new ∷ []) copies copy grow are.standing, map_push (interned_text buckets) entries e, last_text text [] new copy is.1, are.texts) refl;
      statics = rw (map_push is_static copies copy, map_push is_static entries e, last_static text [] new copy is.1, are.statics) refl;
      bytes = rw (is.0, copied_bytes-more entries buckets e, ← are.bytes, append-nil text) refl;
      filled = omega (arith, sum_by_push interned_len entries e, are.filled, count, part);
      len = omega (arith, sum_by_push interned_len copies copy, sum_by_push interned_len entries e, are.len, last_len text [] new copy is.1, part);
    }
AreCopies-more buckets entries copies old new (Static text) copy there utf8 are is =
    rw (is.0, is.1) (record {
      standing = All-push (IsEntry (old ∷ [])) copies (Static text) are.standing there;
      texts = rw (map_push (interned_text (old ∷ [])) copies (Static text), map_push (interned_text buckets) entries (Static text), are.texts) refl;
      statics = rw (map_push is_static copies (Static text), map_push is_static entries (Static text), are.statics) refl;
      bytes = rw (copied_bytes-more entries buckets (Static text), append-nil) are.bytes;
      filled = omega (arith, sum_by_push interned_len entries (Static text), are.filled);
      len = omega (arith, sum_by_push interned_len copies (Static text), sum_by_push interned_len entries (Static text), are.len);
    })

copy_capacity : (buckets : List Bucket) (old new : Bucket) (e copy : InternedStr) → IsBucketCopy buckets e old new copy → new.capacity ≡ old.capacity
copy_capacity buckets old new (InBucket bucket span) copy is = rw is.0 refl
copy_capacity buckets old new (Static text) copy is = rw is.0 refl

-- the same in a loop over the entries, which leaves the capacity of the bucket
pub AreCopies-step : (buckets : List Bucket) (entries copies more : List InternedStr) (old new : Bucket) (i : ℕ) (d : InternedStr) → i < length entries → All (IsEntry buckets) entries → All IsUtf8 (map (interned_text buckets) entries)
    → AreCopies buckets (take i entries) copies old → PushesCopy buckets (get_or entries i d) old new copies more → (new.capacity ≡ old.capacity) × AreCopies buckets (take (i + 1) entries) more new
AreCopies-step buckets entries copies more old new i d within standing utf8 are is =
    let text : IsUtf8 (interned_text buckets (get_or entries i d)) = rw (← get_or-map (interned_text buckets) entries i d [] within) (All-get_or IsUtf8 (map (interned_text buckets) entries) i [] (omega (arith, length-map entries (interned_text buckets))) utf8) in
    (copy_capacity buckets old new (get_or entries i d) is.copy is.copied, rw (is.pushed, take_more entries i d within) (AreCopies-more buckets (take i entries) copies old new (get_or entries i d) is.copy (All-get_or (IsEntry buckets) entries i d within standing) text are is.copied))

-- the copies are stored, in one bucket
pub stored-copies : {S : Type 0} (symbol_of : ℕ → Option S) (full : List Bucket) (head : Bucket) (entries copies : List InternedStr) (bucket : Bucket) → IsInBuckets symbol_of full head entries → AreCopies (buckets_of full head) entries copies bucket → bucket.capacity ≡ head.capacity + byte_count full → IsInBuckets symbol_of [] bucket copies
stored-copies symbol_of full head entries copies bucket stored are capacity = record {
  standing = are.standing;
  shared = omega (arith, are.filled, are.len);
  tight = record {
    within = omega (arith, are.filled, stored.shared, stored.tight.within, capacity, sum_by_push (λ (b : Bucket). length b.bytes) full head);
    older = λ some. absurd (omega arith);
    newest = λ some. absurd (omega arith);
    few = omega arith;
  };
  valid = rw are.texts stored.valid;
}

-- a text takes no more of the room of the head and of the free entries than its length, and at least one
pub spent-puts : (text : Text) (full new_full : List Bucket) (head new_head : Bucket) (free left : ℕ) → Puts text full head new_full new_head → free ≤ left + 1
    → min (head.capacity - length head.bytes) free ≤ min (new_head.capacity - length new_head.bytes) left + max 1 (length text)
spent-puts text full new_full head new_head free left puts entry =
    elim (cases_lt head.capacity (length head.bytes + length text)) as (λ _. min (head.capacity - length head.bytes) free ≤ min (new_head.capacity - length new_head.bytes) left + max 1 (length text)) [
      | inl too_long ↦ omega (arith, too_long, entry)
      | inr fits ↦
          (let h = (puts.fits fits).1 in
          let capacity = ap (λ (b : Bucket). b.capacity) h in
          let bytes = ap (λ (b : Bucket). length b.bytes) h ∙ length-append head.bytes text in
          omega (arith, fits, entry, capacity, bytes))
    ]

-- the buckets of a copy by texts and buckets alone
pub copies-joined : {E : Type 0} (old : BucketContents) (outcome : Result BucketContents E) → length old.statics ≡ length old.texts → IfOk outcome (JoinsBuckets old)
    → IfOk outcome (λ copy. CopiesBuckets old.texts (buckets_of old.full old.head) (buckets_of copy.full copy.head))
copies-joined old (Err e) each joins = tt
copies-joined old (Ok copy) each joins = record {
  statics = old.statics;
  full = old.full;
  head = old.head;
  each = each;
  old_are = refl;
  copy_is = rw (joins.full, joins.head) refl;
  shared = rw joins.full (let one : byte_count (copy.head ∷ []) ≡ length copy.head.bytes = omega arith in omega (arith, one, joins.shared));
}
