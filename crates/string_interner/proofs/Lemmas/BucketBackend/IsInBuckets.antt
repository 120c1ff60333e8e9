-- The invariant of a `BucketBackend`, when an entry is stored and when entries are dropped.
use Rattle.std.proofs.Common.{◌≡◌, ℕ, ◌+◌, ◌^◌, ◌<◌, List, [], ◌∷◌, ◌++◌, length, take, map, Option, IsSome, ap, subst, ◌∙◌, arith, Bor}
use Rattle.std.specs.Str.{IsUtf8}
use Rattle.std.proofs.lemmas.List.{length_push, map_push, length-map, take-map}
use Rattle.std.proofs.lemmas.List.Elements.{All-push, All-take}
use Rattle.std.proofs.lemmas.List.Sums.{sum_by_push, sum_by-take-le}
use Rattle.string_interner.specs.Text.{Text}
use Rattle.string_interner.specs.Backend.{Bucket, IsValidList}
use Rattle.string_interner.specs.ByIndexLaws.{length_grows}
use Rattle.string_interner.specs.BucketBackend.{buckets_of, Puts, interned_text, IsEntry, interned_len, IsLast, IsInBuckets}
use Rattle.string_interner.specs.declared.backend.bucket.interned_str.InternedStr.{InternedStr}
use Rattle.string_interner.specs.declared.backend.bucket.interned_str.InternedStr.TheVariants.{Static}
use Rattle.string_interner.proofs.Lemmas.Backend.IsValidList.{valid-take, valid-more}
use Rattle.string_interner.proofs.Lemmas.BucketBackend.Stays.{grow-puts}
use Rattle.string_interner.proofs.Lemmas.BucketBackend.IsEntry.{entries-more, texts-more, last_text, last_entry, last_len}
use Rattle.string_interner.proofs.Lemmas.BucketBackend.IsTight.{byte_count-puts, tight-puts}

-- a text that was put into the buckets
pub stored-puts : {S : Type 0} (symbol_of : ℕ → Option S) (text : Text) (full : List Bucket) (head : Bucket) (new_full : List Bucket) (new_head : Bucket) (e : InternedStr) (entries more : List InternedStr)
    → IsInBuckets symbol_of full head entries → IsUtf8 text → IsSome (symbol_of (length (map (interned_text (buckets_of full head)) entries))) → length entries + 1 < 2 ^ 64 → Puts text full head new_full new_head → IsLast text new_full new_head e → more ≡ entries ++ e ∷ []
    → (map (interned_text (buckets_of new_full new_head)) more ≡ map (interned_text (buckets_of full head)) entries ++ text ∷ []) × IsInBuckets symbol_of new_full new_head more
stored-puts symbol_of text full head new_full new_head e entries more stored utf8 some small puts last is =
    let grow = grow-puts text full head new_full new_head utf8 puts in
    let texts = map (interned_text (buckets_of full head)) entries in
    let count : length texts ≡ length entries = length-map entries (interned_text (buckets_of full head)) in
    let now : map (interned_text (buckets_of new_full new_head)) (entries ++ e ∷ []) ≡ texts ++ text ∷ [] = texts-more _ _ entries e grow stored.standing ∙ ap (λ (t : Text). texts ++ t ∷ []) (last_text text new_full new_head e last) in (
      rw is now,
      rw is (record {
        standing = entries-more _ _ entries e grow stored.standing (last_entry text new_full new_head e utf8 last);
        shared = omega (arith, sum_by_push interned_len entries e, stored.shared, last_len text new_full new_head e last, byte_count-puts text full head new_full new_head puts);
        tight = tight-puts text full head new_full new_head stored.tight puts;
        valid = rw now (valid-more symbol_of length texts text stored.valid utf8 some (omega (arith, count, length_push texts text)));
      }),
    )

-- a text that stays where it is
pub stored-static : {S : Type 0} (symbol_of : ℕ → Option S) (text : Bor Text) (full : List Bucket) (head : Bucket) (entries more : List InternedStr)
    → IsInBuckets symbol_of full head entries → IsUtf8 text.now → IsSome (symbol_of (length (map (interned_text (buckets_of full head)) entries))) → length entries + 1 < 2 ^ 64 → more ≡ entries ++ Static text ∷ []
    → IsInBuckets symbol_of full head more
stored-static symbol_of text full head entries more stored utf8 some small is =
    let texts = map (interned_text (buckets_of full head)) entries in
    let count : length texts ≡ length entries = length-map entries (interned_text (buckets_of full head)) in
    let now : map (interned_text (buckets_of full head)) (entries ++ Static text ∷ []) ≡ texts ++ text.now ∷ [] = map_push (interned_text (buckets_of full head)) entries (Static text) in
    rw is (record {
      standing = All-push (IsEntry (buckets_of full head)) entries (Static text) stored.standing utf8;
      shared = omega (arith, sum_by_push interned_len entries (Static text), stored.shared);
      tight = stored.tight;
      valid = rw now (valid-more symbol_of length texts text.now stored.valid utf8 some (omega (arith, count, length_push texts text.now)));
    })

-- the first entries stay stored, in the same buckets
pub stored-take : {S : Type 0} (symbol_of : ℕ → Option S) (full : List Bucket) (head : Bucket) (entries fewer : List InternedStr) (len : ℕ) → IsInBuckets symbol_of full head entries → fewer ≡ take len entries → IsInBuckets symbol_of full head fewer
stored-take symbol_of full head entries fewer len stored is = rw is (record {
  standing = All-take (IsEntry (buckets_of full head)) len entries stored.standing;
  shared = omega (arith, sum_by-take-le interned_len entries len, stored.shared);
  tight = stored.tight;
  valid = subst (IsValidList symbol_of length) (take-map (interned_text (buckets_of full head)) len entries) (valid-take symbol_of length length_grows len (map (interned_text (buckets_of full head)) entries) stored.valid);
})
