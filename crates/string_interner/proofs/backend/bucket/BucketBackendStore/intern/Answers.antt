use Rattle.std.proofs.Common.{◌≡◌, List, true, false, length, ◌<◌, ◌+◌, ◌≤◌, ◌++◌, ◌∷◌, [], map, arith, rules, refl, ap, ◌∙◌}
use Rattle.std.proofs.lemmas.List.{map_push, length_push}
use Rattle.string_interner.specs.BucketBackend.{BucketContents, Puts, buckets_of, entry_room, interned_text, is_static, IsLast, IsInBuckets}
use Rattle.string_interner.specs.declared.backend.bucket.interned_str.InternedStr.{InternedStr}
use Rattle.string_interner.proofs.Lemmas.BucketBackend.IsInBuckets.{stored-puts}
use Rattle.string_interner.proofs.Lemmas.BucketBackend.AreCopies.{spent-puts}
use Rattle.string_interner.proofs.Lemmas.BucketBackend.IsEntry.{last_span, last_packs-unless}
use Rattle.string_interner.proofs.Lemmas.BucketBackend.Stays.{Stays-puts, Stays-same}
use Rattle.string_interner.proofs.Lemmas.Results.{OnErr-always}
use Rattle.string_interner.proofs.backend.bucket.BucketBackendStore.intern.Goals as goal
use Rattle.string_interner.proofs.backend.bucket.BucketBackendStore.intern.Goals.{After-push_reserved, After-from_residual-in_err-interned}
use Rattle.string_interner.proofs.backend.bucket.BucketBackendStore.intern.Given.{Over}

-- the text is put into the buckets
puts : (g : Over) (c : After-push_reserved g) → Puts c.args.text.now c.self.inside.full.items c.self.inside.head c.store.new.full.items c.store.new.head
puts g c = c.in_ok-interned.ensures.puts

-- on `Err` the buckets are unchanged
same : (g : Over) (c : After-from_residual-in_err-interned g) → (c.store.new.full.items ≡ c.self.inside.full.items) × (c.store.new.head ≡ c.self.inside.head)
same g c = c.in_err-interned.ensures.err

-- the entry is the text at the end of the head, and comes last
last : (g : Over) (c : After-push_reserved g) → IsLast c.args.text.now c.store.new.full.items c.store.new.head c.in_ok-interned.interned
last g c = search rules

more : (g : Over) (c : After-push_reserved g) → c.push_reserved.new.self.items ≡ c.self.inside.entries.items ++ c.in_ok-interned.interned ∷ []
more g c = c.push_reserved.ensures.items ∙ ap (λ (entries : List InternedStr). entries ++ c.in_ok-interned.interned ∷ []) c.reserve.ensures.items

-- the text is stored
stored : (g : Over) (c : After-push_reserved g) → (map (interned_text (buckets_of c.store.new.full.items c.store.new.head)) c.push_reserved.new.self.items ≡ map (interned_text (buckets_of c.self.inside.full.items c.self.inside.head)) c.self.inside.entries.items ++ c.args.text.now ∷ []) × IsInBuckets g.S.Symbol.symbol_of c.store.new.full.items c.store.new.head c.push_reserved.new.self.items
stored g c = stored-puts g.S.Symbol.symbol_of c.args.text.now _ _ _ _ c.in_ok-interned.interned _ _ c.self.invariant c.utf8.text (rw (ap (λ (b : BucketContents). b.texts) c.self.view_is) (search rules)) (omega (arith, c.push_reserved.ensures.fits, ap length (more g c), length_push c.self.inside.entries.items c.in_ok-interned.interned)) (puts g c) (last g c) (more g c)

pub push_reserved-requires-clause-span : goal.push_reserved-requires-clause-span
push_reserved-requires-clause-span g c = last_span c.args.text.now c.store.new.full.items c.store.new.head c.in_ok-interned.interned (search rules)

pub push_reserved-requires-clause-long : goal.push_reserved-requires-clause-long
push_reserved-requires-clause-long g c =
    let last : IsLast c.args.text.now c.store.new.full.items c.store.new.head c.in_ok-interned.interned = search rules in
    let room : c.is_long-is_long.result ≡ true → 0 < c.reserve.new.self.long_spare = c.in_ok-reserve.ensures.long in
    last_packs-unless c.is_long-is_long.result _ c.args.text.now c.store.new.full.items c.store.new.head _ (λ short. omega (arith, c.is_long-is_long.ensures.short short)) room last

pub returns-in_err-interned-clause-appends : goal.returns-in_err-interned-clause-appends
returns-in_err-interned-clause-appends g c =
    record {
      appends = search rules;
      valid = rw ((same g c).0, (same g c).1, c.reserve.ensures.items) c.self.invariant.valid;
      buckets = rw (← ap (λ (b : BucketContents). b.full) c.self.view_is, ← ap (λ (b : BucketContents). b.head) c.self.view_is, (same g c).0, (same g c).1) (OnErr-always _ _ refl);
      room = search rules;
    }

pub returns-in_err-interned-clause-stays : goal.returns-in_err-interned-clause-stays
returns-in_err-interned-clause-stays g c = rw (← ap (λ (b : BucketContents). b.full) c.self.view_is, ← ap (λ (b : BucketContents). b.head) c.self.view_is, (same g c).0, (same g c).1) (Stays-same _)

pub returns-in_err-interned-clause-err : goal.returns-in_err-interned-clause-err
returns-in_err-interned-clause-err g c = rw (← c.self.view_is, (same g c).0, (same g c).1, c.reserve.ensures.items) (OnErr-always _ _ refl)

pub invariant_of-self-2 : goal.invariant_of-self-2
invariant_of-self-2 g c = (stored g c).1

pub returns-clause-appends : goal.returns-clause-appends
returns-clause-appends g c =
    let free = entry_room c.self.inside.entries.spare c.self.inside.entries.long_spare in
    let left = entry_room c.push_reserved.new.self.spare c.push_reserved.new.self.long_spare in
    let entry : free ≤ left + 1 = omega arith in
    let spent = spent-puts c.args.text.now _ _ _ _ free left (puts g c) entry in
    record {
      appends = (search rules, (stored g c).0 ∙ ap (λ (b : BucketContents). b.texts ++ c.args.text.now ∷ []) c.self.view_is);
      valid = (stored g c).1.valid;
      buckets = tt;
      room = record { granted = λ _ _. refl; spent = omega (arith, spent, ap (λ (b : BucketContents). b.room) c.self.view_is); unspent = tt };
    }

pub returns-clause-stays : goal.returns-clause-stays
returns-clause-stays g c = rw (← ap (λ (b : BucketContents). b.full) c.self.view_is, ← ap (λ (b : BucketContents). b.head) c.self.view_is) (Stays-puts c.args.text.now _ _ _ _ c.utf8.text (puts g c))

pub returns-clause-puts : goal.returns-clause-puts
returns-clause-puts g c = rw (← ap (λ (b : BucketContents). b.full) c.self.view_is, ← ap (λ (b : BucketContents). b.head) c.self.view_is) (puts g c)

pub returns-clause-statics : goal.returns-clause-statics
returns-clause-statics g c =
    let before = c.self.inside.entries.items in
    ap (map is_static) (more g c) ∙ map_push is_static before c.in_ok-interned.interned
    ∙ ap (λ (entry : InternedStr). map is_static before ++ is_static entry ∷ []) (last g c).entry_is
    ∙ ap (λ (b : BucketContents). b.statics ++ false ∷ []) c.self.view_is
