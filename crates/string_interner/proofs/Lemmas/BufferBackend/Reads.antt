-- What is read in a buffer: from any number on, and at the place of an entry.
use Rattle.std.proofs.Common.{◌≡◌, ℕ, ◌+◌, ◌-◌, ◌<◌, ◌≤◌, ◌^◌, ◌↔◌, ◌&&◌, cond, List, [], ◌∷◌, ◌++◌, length, take, drop, get_or, Option, Some, None, Result, Ok, Err, Bool, true, false, refl, sym, ap, subst, ◌∙◌, inl, inr, arith}
use Rattle.std.specs.Prelude.{slice_range, nat_le, IsSome, SomeIff, MatchResult}
use Rattle.std.specs.Borrow.{Bor}
use Rattle.std.specs.Option.{option_copied}
use Rattle.std.specs.Result.{result_ok}
use Rattle.std.specs.declared.str.Utf8Error.{Utf8Error}
use Rattle.std.specs.Str.{IsUtf8, is_utf8}
use Rattle.std.proofs.lemmas.Bool.{cases_lt, leb-true, lt-leb, le-leb, and_parts, cases_Bool}
use Rattle.std.proofs.lemmas.List.{take_at, take-append-drop, length-take, length-drop, take_rest, drop_all}
use Rattle.std.proofs.lemmas.List.Sums.{sum_by_more, sum_by-take-le}
use Rattle.std.proofs.lemmas.Str.{is_utf8-from_IsUtf8, IsUtf8-from_is_utf8}
use Rattle.string_interner.specs.Text.{Text}
use Rattle.string_interner.specs.Backend.{BeginsAt}
use Rattle.string_interner.specs.Spelling.{IsChain, digits, front_len, front_value, after_front, has_front}
use Rattle.string_interner.specs.declared.backend.buffer.leb128.Spelled.{Spelled}
use Rattle.string_interner.specs.BufferBackend.{entry_of, bytes_of, entry_len, place_of, Reads, read_front, read_at}
use Rattle.string_interner.specs.BufferLaws.{digits-ten, IsChain-cons, front_len-small, front_len-large, read_front-chain, length-bytes_of, from_place}
use Rattle.string_interner.proofs.Lemmas.BufferBackend.Spelling.{front_there, has_front-there}
use Rattle.string_interner.proofs.Lemmas.BufferBackend.Bytes.{IsEntryFront, entry_front}

-- the bytes at the front, up to the first that is not marked, are a chain
pub front_chain : (bytes : List ℕ) → front_len bytes ≤ length bytes → IsChain (take (front_len bytes) bytes)
front_chain [] there = absurd (omega arith)
front_chain (b ∷ bytes) there =
    elim (cases_lt b 128) [
      | inl lt ↦ subst (λ (k : ℕ). IsChain (take k (b ∷ bytes))) (sym (front_len-small b bytes lt)) lt
      | inr ge ↦ subst (λ (k : ℕ). IsChain (take k (b ∷ bytes))) (sym (front_len-large b bytes ge)) (IsChain-cons b (take (front_len bytes) bytes) ge (front_chain bytes (omega (arith, front_len-large b bytes ge))))
    ]

cond_some : {X : Type 0} (b : Bool) (x y : X) → cond b (Some x) None ≡ Some y → (b ≡ true) × (x ≡ y)
cond_some true x y e = (refl, cc)
cond_some false x y e = absurd cc

-- what the function reads, the relation reads
pub read_reads : (texts : List Text) (n : ℕ) (t : Text) → read_at texts n ≡ Some t → Reads (bytes_of texts) n t
unfolding read_front
read_reads texts n t e =
    let bytes : List ℕ = drop n (bytes_of texts) in
    let after : List ℕ = after_front bytes in
    let v : ℕ = front_value bytes in
    let p = cond_some (has_front bytes && (nat_le v (length after) && is_utf8 (take v after))) (take v after) t e in
    let q = and_parts (has_front bytes) (nat_le v (length after) && is_utf8 (take v after)) p.0 in
    let r = and_parts (nat_le v (length after)) (is_utf8 (take v after)) q.1 in
    let f = front_there bytes q.0 in
    let whole : v ≤ length after = leb-true _ _ r.0 in
    let len : length t ≡ v = ap length (sym p.1) ∙ omega (arith, length-take v after, whole) in
    record {
      spelling = take (front_len bytes) bytes;
      rest = drop v after;
      stands = sym (ap (λ (w : List ℕ). take (front_len bytes) bytes ++ (w ++ drop v after)) (sym p.1) ∙ ap (λ (w : List ℕ). take (front_len bytes) bytes ++ w) (take-append-drop v after) ∙ take-append-drop (front_len bytes) bytes);
      chain = front_chain bytes f.0;
      short = omega (arith, f.1, length-take (front_len bytes) bytes);
      counts = sym len;
      fits = omega (arith, len, f.2);
      utf8 = subst IsUtf8 p.1 (IsUtf8-from_is_utf8 (take v after) r.1);
    }

-- and the other way round
pub reads_read : (texts : List Text) (n : ℕ) (t : Text) → Reads (bytes_of texts) n t → read_at texts n ≡ Some t
reads_read texts n t r = ap read_front r.stands ∙ read_front-chain r.spelling t r.rest r.chain r.short r.counts r.fits r.utf8

pub read_iff : (texts : List Text) (n : ℕ) (o : Option Text) → o ≡ read_at texts n → (t : Text) → (o ≡ Some t) ↔ Reads (bytes_of texts) n t
read_iff texts n o e = λ t. (λ s. read_reads texts n t (sym e ∙ s), λ r. e ∙ reads_read texts n t r)

-- nothing is read past the end
pub read_front-none : (bytes : List ℕ) → bytes ≡ [] → None ≡ read_front bytes
unfolding read_front
read_front-none bytes e = rw e refl

pub read_past : (texts : List Text) (n : ℕ) → length (bytes_of texts) < n → None ≡ read_at texts n
read_past texts n h = read_front-none (drop n (bytes_of texts)) (drop_all n (bytes_of texts) (omega arith))

-- nor where no number is spelled
no_front : (b rest : Bool) (x : Text) → (b ≡ true → ⊥) → None ≡ cond (b && rest) (Some x) None
no_front true rest x n = absurd (n refl)
no_front false rest x n = refl

pub read_front-no_front : (bytes : List ℕ) → (has_front bytes ≡ true → ⊥) → None ≡ read_front bytes
unfolding read_front
read_front-no_front bytes n = no_front (has_front bytes) (nat_le (front_value bytes) (length (after_front bytes)) && is_utf8 (take (front_value bytes) (after_front bytes))) (take (front_value bytes) (after_front bytes)) n

-- nor where the text would pass the end
pub read_front-short : (bytes : List ℕ) → has_front bytes ≡ true → length (after_front bytes) < front_value bytes → None ≡ read_front bytes
unfolding read_front
read_front-short bytes is short = rw (is, lt-leb (front_value bytes) (length (after_front bytes)) short) refl

no_utf8 : (bytes : List ℕ) → ¬ (IsUtf8 bytes) → is_utf8 bytes ≡ false
no_utf8 bytes n = elim (cases_Bool (is_utf8 bytes)) [ inl y ↦ absurd (n (IsUtf8-from_is_utf8 bytes y)) | inr e ↦ e ]

tested : (bytes : List ℕ) (r : Result (Bor (List ℕ)) Utf8Error) (N : Utf8Error → Type 0) → MatchResult r (λ s. (s.now ≡ bytes) × IsUtf8 bytes) (λ e. ¬ (IsUtf8 bytes) × N e) → option_copied (result_ok r) ≡ cond (is_utf8 bytes) (Some bytes) None
tested bytes (Ok s) N h = rw (is_utf8-from_IsUtf8 bytes h.1) (ap Some h.0)
tested bytes (Err e) N h = rw (no_utf8 bytes h.0) refl

-- and else the test of UTF-8 decides
pub read_front-tested : (bytes text : List ℕ) (r : Result (Bor (List ℕ)) Utf8Error) (N : Utf8Error → Type 0) → has_front bytes ≡ true → front_value bytes ≤ length (after_front bytes) → text ≡ take (front_value bytes) (after_front bytes)
    → MatchResult r (λ s. (s.now ≡ text) × IsUtf8 text) (λ e. ¬ (IsUtf8 text) × N e) → option_copied (result_ok r) ≡ read_front bytes
unfolding read_front
read_front-tested bytes text r N is whole e h =
    tested text r N h ∙ ap (λ (t : List ℕ). cond (is_utf8 t) (Some t) None) e ∙ sym (rw (is, le-leb (front_value bytes) (length (after_front bytes)) whole) refl)

-- what stands behind the number that was read
pub after_spelled : (bytes : List ℕ) (s : Spelled) → s ≡ record { number = front_value bytes; len = front_len bytes } → slice_range bytes s.len (length bytes) ≡ after_front bytes
after_spelled bytes s e = take_rest bytes s.len ∙ ap (λ (r : Spelled). drop r.len bytes) e

-- and the text, so many bytes of it
pub text_spelled : (bytes text : List ℕ) (s : Spelled) → s ≡ record { number = front_value bytes; len = front_len bytes } → text ≡ slice_range (slice_range bytes s.len (length bytes)) 0 s.number → text ≡ take (front_value bytes) (after_front bytes)
text_spelled bytes text s e is =
    let all : front_value bytes - 0 ≡ front_value bytes = omega arith in
    is ∙ ap (λ (b : List ℕ). slice_range b 0 s.number) (after_spelled bytes s e) ∙ ap (λ (r : Spelled). slice_range (after_front bytes) 0 r.number) e ∙ ap (λ (n : ℕ). take n (after_front bytes)) all

-- the place of an entry lies in the buffer
pub place_within : (buffer : List ℕ) (texts : List Text) (at i : ℕ) → buffer ≡ bytes_of texts → BeginsAt place_of texts at i → at ≤ length buffer
place_within buffer texts at i e b = omega (arith, ap length e, length-bytes_of texts, sum_by-take-le entry_len texts i, b.begins)

some_same : {X : Type 0} (o : Option X) (P : Type 0) (x y : X) → SomeIff o P x → o ≡ Some y → y ≡ x
some_same None P x y h e = cc
some_same (Some z) P x y h e = let f : z ≡ x = h.1 in cc

pub some_there : {X : Type 0} (o : Option X) (P : Type 0) (x : X) → SomeIff o P x → P → IsSome o
some_there None P x h p = absurd (h p)
some_there (Some z) P x h p = refl

-- what is read at the place of an entry: its text behind its length, and where both end
pub record IsEntryRead (buffer : List ℕ) (texts : List Text) (at i len number : ℕ) (body : List ℕ) : Type 0 where
  pub number_is : number ≡ length (get_or texts i [])
  pub text_is : take number body ≡ get_or texts i []
  pub next : at + len + number ≡ place_of (take (i + 1) texts)
  pub within : at + len + number ≤ length buffer

module _ (buffer : List ℕ) (texts : List Text) (at i : ℕ) (e : buffer ≡ bytes_of texts) (b : BeginsAt place_of texts at i) (small : length buffer < 2 ^ 64) where
  -- an entry stands there
  pub entry_stands : IsEntryFront (drop at buffer) (get_or texts i []) (bytes_of (drop (i + 1) texts))
  entry_stands =
      let stands : drop at buffer ≡ entry_of (get_or texts i []) ++ bytes_of (drop (i + 1) texts) = ap (drop at) e ∙ ap (λ (k : ℕ). drop k (bytes_of texts)) (sym b.begins) ∙ from_place texts i b.within in
      subst (λ (bytes : List ℕ). IsEntryFront bytes (get_or texts i []) (bytes_of (drop (i + 1) texts))) (sym stands) (entry_front (get_or texts i []) (bytes_of (drop (i + 1) texts)))

  -- so a number is spelled there
  pub entry_has : has_front (drop at buffer) ≡ true
  entry_has =
      let f = entry_stands in
      let n = length-drop at buffer in
      let ten : digits (length (get_or texts i [])) ≤ 10 = digits-ten (length (get_or texts i [])) (omega arith) in
      has_front-there (drop at buffer) (omega arith) (omega arith) (omega arith)

  -- and the number of bytes that it counts are the text
  pub entry_read : (o : Option Spelled) (s : Spelled) (front body : List ℕ) → front ≡ drop at buffer → SomeIff o (has_front front ≡ true) (record { number = front_value front; len = front_len front }) → o ≡ Some s → body ≡ drop s.len front
      → IsEntryRead buffer texts at i s.len s.number body
  entry_read o s front body ef is es eb =
      let t : Text = get_or texts i [] in
      let x : List ℕ = bytes_of (drop (i + 1) texts) in
      let f = entry_stands in
      let same : s ≡ record { number = front_value front; len = front_len front } = some_same o _ _ s is es in
      let number_is : s.number ≡ length t = ap (λ (r : Spelled). r.number) same ∙ ap front_value ef ∙ f.number in
      let len_is : s.len ≡ front_len (drop at buffer) = ap (λ (r : Spelled). r.len) same ∙ ap front_len ef in
      let after : body ≡ t ++ x = eb ∙ ap (drop s.len) ef ∙ ap (λ (k : ℕ). drop k (drop at buffer)) len_is ∙ f.after in
      let next : at + s.len + s.number ≡ place_of (take (i + 1) texts) = omega (arith, sum_by_more entry_len texts i [] b.within, b.begins, f.len) in
      record {
        number_is = number_is;
        text_is = ap (take s.number) after ∙ take_at t x s.number (sym number_is);
        next = next;
        within = omega (arith, ap length e, length-bytes_of texts, sum_by-take-le entry_len texts (i + 1));
      }
