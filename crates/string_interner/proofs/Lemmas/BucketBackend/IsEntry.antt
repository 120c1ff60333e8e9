-- What an entry reads stays while texts are put into the buckets.
use Rattle.std.proofs.Common.{◌≡◌, ℕ, ◌+◌, ◌-◌, ◌^◌, ◌<◌, List, [], ◌∷◌, ◌++◌, length, map, get_or, sym, All, Bool, true, false, refl, ap, ◌∙◌, arith}
use Rattle.std.proofs.lemmas.Option.{slice_get-get_or}
use Rattle.std.specs.Prelude.{slice_get, Some}
use Rattle.std.specs.Str.{IsUtf8}
use Rattle.std.proofs.lemmas.Str.{IsCharBoundary-at_seam, IsCharBoundary-end}
use Rattle.std.proofs.lemmas.List.{get_or_push, length_push, length-append, drop_at, map_push, take_all, get_or-map, length-map}
use Rattle.std.proofs.lemmas.List.Elements.{All-push, All-head, All-tail, All-weaker}
use Rattle.string_interner.specs.Text.{Text}
use Rattle.string_interner.specs.Backend.{Bucket}
use Rattle.string_interner.specs.BucketBackend.{buckets_of, bucket_at, is_static, interned_text, IsPart, IsEntry, interned_len, IsLast}
use Rattle.string_interner.specs.BucketEntries.{HasSpan, Packs}
use Rattle.string_interner.specs.declared.backend.bucket.interned_str.InternedStr.{InternedStr}
use Rattle.string_interner.specs.declared.backend.bucket.interned_str.InternedStr.TheVariants.{InBucket, Static}
use Rattle.string_interner.proofs.Lemmas.BucketBackend.Stays.{IsCharBoundary-append, slice_range-append, Grow}

part_stays : (old new : List Bucket) (bucket from to : ℕ) → Grow old new → IsPart old bucket from to → IsPart new bucket from to
part_stays old new bucket from to grow part =
    let g = grow.each bucket part.there in
    record {
      there = omega (arith, part.there, grow.count);
      ordered = part.ordered;
      begins = rw g.bytes (IsCharBoundary-append (bucket_at old bucket).bytes g.more from g.utf8 part.begins);
      ends = rw g.bytes (IsCharBoundary-append (bucket_at old bucket).bytes g.more to g.utf8 part.ends);
    }

entry_stays : (old new : List Bucket) (e : InternedStr) → Grow old new → IsEntry old e → IsEntry new e
entry_stays old new (InBucket bucket span) grow h = part_stays old new bucket span.from span.to grow h
entry_stays old new (Static text) grow h = h

text_stays : (old new : List Bucket) (e : InternedStr) → Grow old new → IsEntry old e → interned_text new e ≡ interned_text old e
text_stays old new (InBucket bucket span) grow h =
    let g = grow.each bucket h.there in
    rw g.bytes (slice_range-append (bucket_at old bucket).bytes g.more span.from span.to h.ordered h.ends.0)
text_stays old new (Static text) grow h = refl

texts_stay : (old new : List Bucket) (entries : List InternedStr) → Grow old new → All (IsEntry old) entries → map (interned_text new) entries ≡ map (interned_text old) entries
texts_stay old new [] grow h = refl
texts_stay old new (e ∷ entries) grow h =
    rw (text_stays old new e grow (All-head (IsEntry old) e entries h), texts_stay old new entries grow (All-tail (IsEntry old) e entries h)) refl

-- one more entry, after the buckets grew
pub entries-more : (old new : List Bucket) (entries : List InternedStr) (e : InternedStr) → Grow old new → All (IsEntry old) entries → IsEntry new e → All (IsEntry new) (entries ++ e ∷ [])
entries-more old new entries e grow h is = All-push (IsEntry new) entries e (All-weaker (IsEntry old) (IsEntry new) (λ e h. entry_stays old new e grow h) entries h) is

pub texts-more : (old new : List Bucket) (entries : List InternedStr) (e : InternedStr) → Grow old new → All (IsEntry old) entries → map (interned_text new) (entries ++ e ∷ []) ≡ map (interned_text old) entries ++ interned_text new e ∷ []
texts-more old new entries e grow h = rw (map_push (interned_text new) entries e, texts_stay old new entries grow h) refl

pub last_text : (text : Text) (full : List Bucket) (head : Bucket) (e : InternedStr) → IsLast text full head e → interned_text (buckets_of full head) e ≡ text
last_text text full head e last =
    let at : bucket_at (buckets_of full head) (length full) ≡ head = get_or_push full head _ (length full) refl in
    let n : (length last.before + length text) - length last.before ≡ length text = omega arith in
    rw (last.entry_is, at, last.bytes_are, drop_at last.before text (length last.before) refl, n) (take_all (length text) text (omega arith))

pub last_entry : (text : Text) (full : List Bucket) (head : Bucket) (e : InternedStr) → IsUtf8 text → IsLast text full head e → IsEntry (buckets_of full head) e
last_entry text full head e utf8 last =
    let at : bucket_at (buckets_of full head) (length full) ≡ head = get_or_push full head _ (length full) refl in
    rw last.entry_is (record {
      there = omega (arith, length_push full head);
      ordered = omega arith;
      begins = rw (at, last.bytes_are) (IsCharBoundary-at_seam (last.before ++ text) last.before text refl utf8);
      ends = rw (at, last.bytes_are, ← length-append last.before text) (IsCharBoundary-end (last.before ++ text));
    })

pub last_len : (text : Text) (full : List Bucket) (head : Bucket) (e : InternedStr) → IsLast text full head e → interned_len e ≡ length text
last_len text full head e last = rw last.entry_is (omega arith)

-- the text of an entry is the text at its index
pub entry_text : (buckets : List Bucket) (entries : List InternedStr) (i : ℕ) (e : InternedStr) (text : Text) → i < length entries → e ≡ get_or entries i e → text ≡ interned_text buckets e → slice_get (map (interned_text buckets) entries) i ≡ Some text
entry_text buckets entries i e text h is text_is =
    let there : get_or (map (interned_text buckets) entries) i text ≡ text = get_or-map (interned_text buckets) entries i e text h ∙ ap (interned_text buckets) (sym is) ∙ sym text_is in
    slice_get-get_or (map (interned_text buckets) entries) i text (omega (arith, h, length-map entries (interned_text buckets))) ∙ ap Some there

-- a text at the end of the head is a span of a bucket
pub last_span : (text : Text) (full : List Bucket) (head : Bucket) (e : InternedStr) → IsLast text full head e → HasSpan e
last_span text full head e last = rw last.entry_is (omega arith)

-- a text at the end of the head packs unless it is long
pub last_packs : (text : Text) (full : List Bucket) (head : Bucket) (e : InternedStr) → length text < 2 ^ 32 → IsLast text full head e → Packs e
last_packs text full head e short last = rw last.entry_is (omega arith)

-- or there is room for a long one
pub last_packs-unless : (long : Bool) (spare : ℕ) (text : Text) (full : List Bucket) (head : Bucket) (e : InternedStr) → (long ≡ false → length text < 2 ^ 32) → (long ≡ true → 0 < spare) → IsLast text full head e → spare ≡ 0 → Packs e
last_packs-unless true spare text full head e short room last none = absurd (omega (arith, room refl, none))
last_packs-unless false spare text full head e short room last none = last_packs text full head e (short refl) last

pub last_static : (text : Text) (full : List Bucket) (head : Bucket) (e : InternedStr) → IsLast text full head e → is_static e ≡ false
last_static text full head e last = rw last.entry_is refl
