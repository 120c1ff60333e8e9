use Rattle.std.proofs.Common.{◌≡◌, ◌^◌, ◌<◌, length, refl, ◌++◌, ◌∷◌, [], map, arith, rules, ap, ◌∙◌}
use Rattle.std.proofs.lemmas.List.{map_push, length_push}
use Rattle.string_interner.specs.declared.backend.bucket.interned_str.InternedStr.TheVariants.{Static}
use Rattle.string_interner.specs.BucketBackend.{BucketContents, buckets_of, interned_text, IsInBuckets}
use Rattle.string_interner.specs.Text.{Text}
use Rattle.string_interner.proofs.Lemmas.BucketBackend.IsInBuckets.{stored-static}
use Rattle.string_interner.proofs.backend.bucket.BucketBackendStore.intern_static.Goals as goal
use Rattle.string_interner.proofs.backend.bucket.BucketBackendStore.intern_static.Goals.{In_ok-push}
use Rattle.string_interner.proofs.backend.bucket.BucketBackendStore.intern_static.Given.{Over}

-- the entry comes last
more : (g : Over) (c : In_ok-push g) → c.push.new.self.items ≡ c.self.inside.entries.items ++ Static c.as_bytes.result ∷ []
more g c = c.in_ok-push.ensures.items

-- the text is stored
stored : (g : Over) (c : In_ok-push g) → IsInBuckets g.S.Symbol.symbol_of c.self.inside.full.items c.self.inside.head c.push.new.self.items
stored g c =
    let small : length c.push.new.self.items < 2 ^ 64 = c.in_ok-push.ensures.fits in
    stored-static g.S.Symbol.symbol_of c.as_bytes.result _ _ _ _ c.self.invariant c.as_bytes.ensures.utf8 (rw (ap (λ (b : BucketContents). b.texts) c.self.view_is) (search rules)) (omega (arith, small, ap length (more g c), length_push c.self.inside.entries.items (Static c.as_bytes.result))) (more g c)

pub invariant_of-self-2 : goal.invariant_of-self-2
invariant_of-self-2 g c = stored g c

pub returns-clause-appends : goal.returns-clause-appends
returns-clause-appends g c =
    let text_of = interned_text (buckets_of c.self.inside.full.items c.self.inside.head) in
    record {
      appends = (search rules, ap (map text_of) (more g c) ∙ map_push text_of c.self.inside.entries.items (Static c.as_bytes.result) ∙ ap (λ (t : Text). map text_of c.self.inside.entries.items ++ t ∷ []) c.as_bytes.ensures.value ∙ ap (λ (b : BucketContents). b.texts ++ c.args.text.now ∷ []) c.self.view_is);
      valid = (stored g c).valid;
      buckets = tt;
      room = record { granted = λ _ _. refl; spent = omega (arith, ap (λ (b : BucketContents). b.room) c.self.view_is); unspent = tt };
    }
