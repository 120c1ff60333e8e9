-- The entries of a `BucketBackend`, packed: when one is read, when one more is packed, and when entries are dropped.
use Rattle.std.proofs.Common.{◌≡◌, ℕ, zero, suc, ◌+◌, ◌-◌, ◌<◌, ◌≤◌, List, [], ◌∷◌, ◌++◌, length, take, drop, get_or, map, refl, sym, ap, subst, ◌∙◌, arith}
use Rattle.std.proofs.lemmas.List.{get_or_default, get_or_append_left, get_or_push, length_push, get_or-map, get_or-take, length-take-le, map_push, take-map, take_rest}
use Rattle.std.proofs.lemmas.List.Elements.{All-push, All-take}
use Rattle.std.proofs.lemmas.List.Sums.{sum_by_push, sum_by-drop_more, sum_by-take-drop, sum_by-take-le}
use Rattle.string_interner.specs.BucketEntries.{unpack, is_long, long_count, Leads, LeadFrom, IsSound, ArePacked}
use Rattle.string_interner.specs.declared.backend.bucket.interned_str.InternedStr.{InternedStr}
use Rattle.string_interner.specs.declared.backend.bucket.entries.Packed.{Packed}
use Rattle.string_interner.specs.declared.backend.bucket.entries.Packed.TheVariants.{Copied, Reference, Long}

at-most-one : (p : Packed) → is_long p ≤ 1
at-most-one (Copied bucket len from) = omega arith
at-most-one (Reference len at lasting) = omega arith
at-most-one (Long index) = omega arith

count-first : (p : Packed) (packed : List Packed) → long_count (p ∷ packed) ≡ is_long p + long_count packed
count-first p packed = sum_by-drop_more is_long (p ∷ packed) 0 p (omega arith)

-- no more are long than there are entries
pub count-within : (packed : List Packed) → long_count packed ≤ length packed
count-within [] = omega arith
count-within (p ∷ packed) = omega (arith, count-within packed, count-first p packed, at-most-one p)

-- an entry that leads to the long ones leads below their count
lead-below : (n : ℕ) (packed : List Packed) (i k : ℕ) (d : Packed) → LeadFrom n packed → i < length packed → get_or packed i d ≡ Long k → k < n + long_count packed
lead-below n [] i k d lead h is = absurd (omega arith)
lead-below n (p ∷ packed) zero k d lead h is =
    let here : k ≡ n = subst (Leads n) is lead.0 in
    let one : is_long p ≡ 1 = ap is_long is in
    omega (arith, here, one, count-first p packed)
lead-below n (p ∷ packed) (suc i) k d lead h is = omega (arith, lead-below (n + is_long p) packed i k d lead.1 (omega arith) is, count-first p packed)

lead-push : (n : ℕ) (packed : List Packed) (p : Packed) → LeadFrom n packed → Leads (n + long_count packed) p → LeadFrom n (packed ++ p ∷ [])
lead-push n [] p lead leads = (subst (λ (m : ℕ). Leads m p) (let none : n + long_count [] ≡ n = omega arith in none) leads, tt)
lead-push n (q ∷ packed) p lead leads =
    let count : n + long_count (q ∷ packed) ≡ n + is_long q + long_count packed = omega (arith, count-first q packed) in
    (lead.0, lead-push (n + is_long q) packed p lead.1 (subst (λ (m : ℕ). Leads m p) count leads))

lead-take : (n : ℕ) (packed : List Packed) (k : ℕ) → LeadFrom n packed → LeadFrom n (take k packed)
lead-take n [] zero lead = tt
lead-take n [] (suc k) lead = tt
lead-take n (p ∷ packed) zero lead = tt
lead-take n (p ∷ packed) (suc k) lead = (lead.0, lead-take (n + is_long p) packed k lead.1)

unpack-one : (long more : List InternedStr) (m n : ℕ) (p : Packed) → ((j : ℕ) (d : InternedStr) → j < m → get_or more j d ≡ get_or long j d) → Leads n p → n + is_long p ≤ m → unpack more p ≡ unpack long p
unpack-one long more m n (Copied bucket len from) agree leads within = refl
unpack-one long more m n (Reference len at lasting) agree leads within = refl
unpack-one long more m n (Long index) agree leads within = agree index _ (omega (arith, leads, within))

-- entries read the same from two lists of long ones that agree as far as they lead
unpack-same : (long more : List InternedStr) (m n : ℕ) (packed : List Packed) → ((j : ℕ) (d : InternedStr) → j < m → get_or more j d ≡ get_or long j d) → LeadFrom n packed → n + long_count packed ≤ m → map (unpack more) packed ≡ map (unpack long) packed
unpack-same long more m n [] agree lead within = refl
unpack-same long more m n (p ∷ packed) agree lead within =
    rw (unpack-one long more m n p agree lead.0 (omega (arith, within, count-first p packed)), unpack-same long more m (n + is_long p) packed agree lead.1 (omega (arith, within, count-first p packed))) refl

-- what is stored tells what the entry is
pub unpack-at : (long : List InternedStr) (packed : List Packed) (i : ℕ) (p q : Packed) (d : InternedStr) → i < length packed → p ≡ get_or packed i p → p ≡ q → get_or (map (unpack long) packed) i d ≡ unpack long q
unpack-at long packed i p q d h is q_is = get_or-map (unpack long) packed i p d h ∙ ap (unpack long) (sym is ∙ q_is)

-- where an entry leads, there is a long one
pub long-there : (long : List InternedStr) (packed : List Packed) (i : ℕ) (p : Packed) (index : ℕ) → ArePacked long packed → i < length packed → p ≡ get_or packed i p → p ≡ Long index → index < length long
long-there long packed i p index are h is long_is = omega (arith, lead-below 0 packed i index p are.lead h (sym is ∙ long_is), are.count)

-- and that is the entry
pub long-at : (long : List InternedStr) (packed : List Packed) (i : ℕ) (p : Packed) (index : ℕ) (e d : InternedStr) → ArePacked long packed → i < length packed → p ≡ get_or packed i p → p ≡ Long index → e ≡ get_or long index e → e ≡ get_or (map (unpack long) packed) i d
long-at long packed i p index e d are h is long_is e_is =
    e_is ∙ get_or_default long index e _ (long-there long packed i p index are h is long_is) ∙ sym (unpack-at long packed i p (Long index) d h is long_is)

-- an entry that is not long leads nowhere
leads-nowhere : (n : ℕ) (p : Packed) → is_long p ≡ 0 → Leads n p
leads-nowhere n (Copied bucket len from) short = tt
leads-nowhere n (Reference len at lasting) short = tt
leads-nowhere n (Long index) short = absurd (omega (arith, short))

-- one more entry is packed
pub pushed-packed : (long : List InternedStr) (packed more : List Packed) (p : Packed) → ArePacked long packed → more ≡ packed ++ p ∷ [] → is_long p ≡ 0 → IsSound p → ArePacked long more
pushed-packed long packed more p are is short sound = rw is (record {
  lead = lead-push 0 packed p are.lead (leads-nowhere _ p short);
  count = omega (arith, sum_by_push is_long packed p, are.count, short);
  sound = All-push IsSound packed p are.sound sound;
})

-- one more of the long ones
pub pushed-long : (long more_long : List InternedStr) (packed more : List Packed) (index : ℕ) (e : InternedStr) → ArePacked long packed → more_long ≡ long ++ e ∷ [] → more ≡ packed ++ Long index ∷ [] → index ≡ length long → (map (unpack more_long) more ≡ map (unpack long) packed ++ e ∷ []) × ArePacked more_long more
pushed-long long more_long packed more index e are long_is is place =
    let stay : map (unpack (long ++ e ∷ [])) packed ≡ map (unpack long) packed = unpack-same long (long ++ e ∷ []) (length long) 0 packed (λ j d h. get_or_append_left long (e ∷ []) d j h) are.lead (omega (arith, are.count)) in
    let last : unpack (long ++ e ∷ []) (Long index) ≡ e = get_or_push long e _ index (sym place) in
    rw (long_is, is) (
      rw (map_push (unpack (long ++ e ∷ [])) packed (Long index), stay, last) refl,
      record {
        lead = lead-push 0 packed (Long index) are.lead (omega (arith, place, are.count));
        count = omega (arith, sum_by_push is_long packed (Long index), are.count, length_push long e);
        sound = All-push IsSound packed (Long index) are.sound tt;
      },
    )

-- how many of the entries are long behind the first ones
pub count-behind : (packed rest : List Packed) (len n : ℕ) → rest ≡ packed → n ≡ long_count (take (length rest - len) (drop len rest)) → n ≡ long_count (drop len packed)
count-behind packed rest len n is count = count ∙ ap long_count (take_rest rest len) ∙ ap (λ (xs : List Packed). long_count (drop len xs)) is

-- the first entries are kept, and the long ones to which they lead
pub kept-packed : (long fewer_long : List InternedStr) (packed fewer : List Packed) (len dropped : ℕ) → ArePacked long packed → dropped ≡ long_count (drop len packed) → fewer ≡ take len packed → fewer_long ≡ take (length long - dropped) long → (map (unpack fewer_long) fewer ≡ take len (map (unpack long) packed)) × ArePacked fewer_long fewer
kept-packed long fewer_long packed fewer len dropped are gone is long_is =
    let kept : length long - dropped ≡ long_count (take len packed) = omega (arith, sum_by-take-drop is_long packed len, are.count, gone) in
    let m : ℕ = long_count (take len packed) in
    let within : m ≤ length long = omega (arith, sum_by-take-le is_long packed len, are.count) in
    let stay : map (unpack (take m long)) (take len packed) ≡ map (unpack long) (take len packed) = unpack-same long (take m long) m 0 (take len packed) (λ j d h. get_or-take m long j d h) (lead-take 0 packed len are.lead) (omega arith) in
    rw (long_is, is, kept) (
      stay ∙ sym (take-map (unpack long) len packed),
      record {
        lead = lead-take 0 packed len are.lead;
        count = omega (arith, length-take-le m long within);
        sound = All-take IsSound len packed are.sound;
      },
    )
