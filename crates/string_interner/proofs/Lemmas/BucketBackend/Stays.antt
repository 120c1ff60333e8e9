-- How buckets stay while texts are put into them.
use Rattle.std.proofs.Common.{◌≡◌, ℕ, ◌+◌, ◌-◌, ◌<◌, ◌≤◌, List, [], ◌∷◌, ◌++◌, length, take, drop, get_or, refl, sym, ap, subst, ◌∙◌, inl, inr, arith}
use Rattle.std.specs.Prelude.{slice_range}
use Rattle.std.specs.Str.{IsUtf8, IsCharBoundary}
use Rattle.std.proofs.lemmas.Bool.{cases_lt, cases_eq}
use Rattle.std.proofs.lemmas.Str.{IsCharBoundary-at_seam, IsUtf8-nil}
use Rattle.std.proofs.lemmas.List.{append-nil, get_or_append_left, get_or_push, length_push, length-append, length-take, length-drop, drop-append-le, take-append-le}
use Rattle.string_interner.specs.Text.{Text}
use Rattle.string_interner.specs.Backend.{Bucket}
use Rattle.string_interner.specs.BucketBackend.{buckets_of, bucket_at, Puts, Stays}

-- a boundary between characters is one still where a text follows
pub IsCharBoundary-append : (bytes text : List ℕ) (i : ℕ) → IsUtf8 text → IsCharBoundary bytes i → IsCharBoundary (bytes ++ text) i
IsCharBoundary-append bytes text i utf8 h =
    elim (cases_eq i (length bytes)) [
      | inl e ↦ subst (λ (k : ℕ). IsCharBoundary (bytes ++ text) k) (sym e) (IsCharBoundary-at_seam (bytes ++ text) bytes text refl utf8)
      | inr ne ↦
          let lt : i < length bytes = omega (arith, h.0) in
          let same : get_or (bytes ++ text) i 0 ≡ get_or bytes i 0 = get_or_append_left bytes text 0 i lt in
          (omega (arith, length-append bytes text), λ _ high. omega (arith, same, h.1 lt (omega (arith, same, high))))
    ]

-- a part of some bytes is the same where more bytes follow
pub slice_range-append : (bytes more : List ℕ) (i j : ℕ) → i ≤ j → j ≤ length bytes → slice_range (bytes ++ more) i j ≡ slice_range bytes i j
slice_range-append bytes more i j ij jl =
    ap (take (j - i)) (drop-append-le i bytes more (omega arith)) ∙ take-append-le (j - i) (drop i bytes) more (omega (arith, length-drop i bytes))

pub length-slice_range : (bytes : List ℕ) (i j : ℕ) → j ≤ length bytes → length (slice_range bytes i j) ≡ j - i
length-slice_range bytes i j h = omega (arith, length-take (j - i) (drop i bytes), length-drop i bytes)

-- a bucket got a text after its bytes
pub record GetsText (old new : Bucket) : Type 0 where
  pub capacity : new.capacity ≡ old.capacity
  pub more : Text
  pub bytes : new.bytes ≡ old.bytes ++ more
  pub utf8 : IsUtf8 more

-- each bucket got a text after its bytes, and there may be more buckets
pub record Grow (old new : List Bucket) : Type 0 where
  pub count : length old ≤ length new
  pub each : (k : ℕ) → k < length old → GetsText (bucket_at old k) (bucket_at new k)

Stays-grow : (old new : List Bucket) → Grow old new → Stays old new
Stays-grow old new grow = record {
  count = grow.count;
  each = λ k h. let g = grow.each k h in record { capacity = g.capacity; more = g.more; bytes = g.bytes };
}

-- a bucket as it is
same_bucket : (b : Bucket) → GetsText b b
same_bucket b = record { capacity = refl; more = []; bytes = sym (append-nil b.bytes); utf8 = IsUtf8-nil }

-- buckets stay where nothing is put
pub Stays-same : (buckets : List Bucket) → Stays buckets buckets
Stays-same buckets = Stays-grow _ _ (record { count = omega arith; each = λ k _. same_bucket (bucket_at buckets k) })

-- the last bucket got a text
pub grow-head : (full : List Bucket) (head new : Bucket) (text : Text) → IsUtf8 text → new ≡ record head { bytes = head.bytes ++ text } → Grow (buckets_of full head) (buckets_of full new)
grow-head full head new text utf8 is = rw is (record {
  count = omega (arith, length_push full head, length_push full (let b : Bucket = record head { bytes = head.bytes ++ text } in b));
  each = λ k h.
      let grown : Bucket = record head { bytes = head.bytes ++ text } in
      elim (cases_lt k (length full)) [
        | inl below ↦
            let a : bucket_at (full ++ head ∷ []) k ≡ bucket_at full k = get_or_append_left full (head ∷ []) _ k below in
            let b : bucket_at (full ++ grown ∷ []) k ≡ bucket_at full k = get_or_append_left full (grown ∷ []) _ k below in
            rw (a, b) (same_bucket (bucket_at full k))
        | inr above ↦
            let at : length full ≡ k = omega (arith, length_push full head, h) in
            let a : bucket_at (full ++ head ∷ []) k ≡ head = get_or_push full head _ k at in
            let b : bucket_at (full ++ grown ∷ []) k ≡ grown = get_or_push full grown _ k at in
            rw (a, b) (record { capacity = refl; more = text; bytes = refl; utf8 = utf8 })
      ];
})

-- a bucket is put last
grow-push : (buckets : List Bucket) (b : Bucket) → Grow buckets (buckets ++ b ∷ [])
grow-push buckets b = record {
  count = omega (arith, length_push buckets b);
  each = λ k h. let a : bucket_at (buckets ++ b ∷ []) k ≡ bucket_at buckets k = get_or_append_left buckets (b ∷ []) _ k h in rw a (same_bucket (bucket_at buckets k));
}

-- where a text was put, the buckets grow
pub grow-puts : (text : Text) (full : List Bucket) (head : Bucket) (new_full : List Bucket) (new_head : Bucket) → IsUtf8 text → Puts text full head new_full new_head → Grow (buckets_of full head) (buckets_of new_full new_head)
grow-puts text full head new_full new_head utf8 puts =
    elim (cases_lt head.capacity (length head.bytes + length text)) [
      | inl lt ↦ rw (puts.too_long lt).0 (grow-push (buckets_of full head) new_head)
      | inr le ↦ rw (puts.fits le).0 (grow-head full head new_head text utf8 (puts.fits le).1)
    ]

pub Stays-puts : (text : Text) (full : List Bucket) (head : Bucket) (new_full : List Bucket) (new_head : Bucket) → IsUtf8 text → Puts text full head new_full new_head → Stays (buckets_of full head) (buckets_of new_full new_head)
Stays-puts text full head new_full new_head utf8 puts = Stays-grow _ _ (grow-puts text full head new_full new_head utf8 puts)
