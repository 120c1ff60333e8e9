-- Whole lines are mended without what follows: no character of UTF-8 begins before a newline and ends behind it.
use Rattle.std.proofs.Common.{◌≡◌, ◌≢◌, ℕ, zero, suc, ◌+◌, ◌-◌, ◌<◌, ◌≤◌, Bool, true, false, cond, ◌&&◌, eqb, leb, ltb, ◌++◌, length, get_or, take, drop, Some, None, inl, inr, refl, sym, ap, ap₂, subst, ◌∙◌, append_assoc, arith, IsUtf8}
use Rattle.std.specs.Int.{is_in_range}
use Rattle.std.specs.Option.{unwrap_or}
use Rattle.std.specs.Str.{is_utf8}
use Rattle.std.specs.Str.Lossy.{valid_len_up_to, utf8_valid_len, second_byte_min, second_byte_max, error_len_after_two, error_len_after_one, error_len_of_some, utf8_error_len, utf8_invalid_len, after_first_chunk, replacement_bytes, utf8_lossy}
use Rattle.std.proofs.lemmas.Bool.{true≢false, le-ltb, ne_eqb, cases_lt}
use Rattle.std.proofs.lemmas.Bool.Decides.{eqb_tells}
use Rattle.std.proofs.lemmas.List.{length-append, length-drop, take-append-le, drop-append-le, take_all, nil_from_length}
use Rattle.std.proofs.lemmas.Str.{IsUtf8-nil, IsUtf8-append, IsUtf8-drop, IsCharBoundary-from_take, IsUtf8-from_is_utf8, is_utf8-from_IsUtf8, utf8_valid_len_le, utf8_valid_len-IsUtf8, utf8_valid_len-IsValidUpTo, utf8_lossy-IsUtf8, utf8_lossy_step}
use Rattle.std.proofs.Math.ListN.{get_or-append}
use Rattle.std.proofs.Math.Seq.{take-append_seam, take-append-add, drop-append_seam, drop-append-add}
use Rattle.string_interner.specs.Text.{Text}
use Rattle.dictcol.proofs.AreWhole.{AreWhole, AreWhole-drop, AreWhole-IsUtf8}

-- ---- the longest front that is UTF-8

front-up_to : (bs : Text) (n : ℕ) → IsUtf8 (take (valid_len_up_to bs n) bs)
front-up_to bs zero = IsUtf8-nil
front-up_to bs (suc n) = by-test (is_utf8 (take (suc n) bs)) refl (front-up_to bs n)
  where
    by-test : (is : Bool) → is_utf8 (take (suc n) bs) ≡ is → IsUtf8 (take (valid_len_up_to bs n) bs) → IsUtf8 (take (cond is (suc n) (valid_len_up_to bs n)) bs)
    by-test true e front = IsUtf8-from_is_utf8 _ e
    by-test false e front = front

longest-up_to : (bs : Text) (n k : ℕ) → valid_len_up_to bs n < k → k ≤ n → ¬ (IsUtf8 (take k bs))
longest-up_to bs zero k more within u = absurd (omega (arith, more, within))
longest-up_to bs (suc n) k more within u = by-test (is_utf8 (take (suc n) bs)) refl more (λ shorter fits. longest-up_to bs n k shorter fits u)
  where
    by-test : (is : Bool) → is_utf8 (take (suc n) bs) ≡ is → cond is (suc n) (valid_len_up_to bs n) < k → (valid_len_up_to bs n < k → k ≤ n → ⊥) → ⊥
    by-test true e more before = absurd (omega (arith, more, within))
    by-test false e more before = elim (eqb_tells k (suc n)) [
      | inl same ↦ true≢false (sym (is_utf8-from_IsUtf8 _ (subst (λ m. IsUtf8 (take m bs)) same.1 u)) ∙ e)
      | inr other ↦ before more (omega (arith, within, other.1))
    ]

valid-front : (bs : Text) → IsUtf8 (take (utf8_valid_len bs) bs)
unfolding utf8_valid_len
valid-front bs = front-up_to bs (length bs)

valid-longest : (bs : Text) (k : ℕ) → utf8_valid_len bs < k → k ≤ length bs → ¬ (IsUtf8 (take k bs))
unfolding utf8_valid_len
valid-longest bs k more within = longest-up_to bs (length bs) k more within

all-valid : (bs : Text) → utf8_valid_len bs ≡ length bs → IsUtf8 bs
all-valid bs is = subst IsUtf8 (take_all (utf8_valid_len bs) bs (omega (arith, is))) (valid-front bs)

valid-is : (bs : Text) (n : ℕ) → n < length bs → IsUtf8 (take n bs) → ((k : ℕ) → n < k → k ≤ length bs → ¬ (IsUtf8 (take k bs))) → utf8_valid_len bs ≡ n
valid-is bs n short front longest = utf8_valid_len-IsValidUpTo bs n (record { short = short; front = front; longest = longest-of })
  where
    longest-of : (k : ℕ) → n < k → ¬ (IsUtf8 (take k bs))
    longest-of k more u = elim (cases_lt (length bs) k) [
      | inl long ↦ longest (length bs) short (omega arith) (subst IsUtf8 (take_all k bs (omega (arith, long)) ∙ sym (take_all (length bs) bs (omega arith))) u)
      | inr within ↦ longest k more within u
    ]

-- that of whole lines ends within them, or at their end
valid-within : (lines rest : Text) → AreWhole lines → utf8_valid_len lines < length lines → utf8_valid_len (lines ++ rest) ≡ utf8_valid_len lines
valid-within lines rest whole short =
    let n = utf8_valid_len lines in
    valid-is (lines ++ rest) n (omega (arith, short, length-append lines rest)) (subst IsUtf8 (sym (take-append-le n lines rest (omega (arith, short)))) (valid-front lines)) longest
  where
    longest : (k : ℕ) → utf8_valid_len lines < k → k ≤ length (lines ++ rest) → ¬ (IsUtf8 (take k (lines ++ rest)))
    longest k more within u = elim (cases_lt k (length lines)) [
      | inl inside ↦ valid-longest lines k more (omega (arith, inside)) (subst IsUtf8 (take-append-le k lines rest (omega (arith, inside))) u)
      | inr behind ↦ absurd (omega (arith, short, utf8_valid_len-IsUtf8 lines (AreWhole-IsUtf8 lines rest k whole behind u)))
    ]

valid-behind : (text rest : Text) → IsUtf8 text → utf8_valid_len rest < length rest → utf8_valid_len (text ++ rest) ≡ length text + utf8_valid_len rest
valid-behind text rest is short =
    let n = utf8_valid_len rest in
    valid-is (text ++ rest) (length text + n) (omega (arith, short, length-append text rest))
    (subst IsUtf8 (sym (take-append-add text rest n)) (IsUtf8-append text (take n rest) is (valid-front rest))) longest
  where
    longest : (k : ℕ) → length text + utf8_valid_len rest < k → k ≤ length (text ++ rest) → ¬ (IsUtf8 (take k (text ++ rest)))
    longest k more within u =
        let m : ℕ = k - length text in
        let cut : take k (text ++ rest) ≡ text ++ take m rest = ap (λ j. take j (text ++ rest)) (omega (arith, more)) ∙ take-append-add text rest m in
        let spelt = subst IsUtf8 cut u in
        let front = subst IsUtf8 (sym (take-append_seam text (take m rest))) is in
        let boundary = IsCharBoundary-from_take (text ++ take m rest) (length text) spelt (omega (arith, length-append text (take m rest))) front in
        let behind = IsUtf8-drop (text ++ take m rest) (length text) spelt boundary in
        valid-longest rest m (omega (arith, more)) (omega (arith, within, length-append text rest)) (subst IsUtf8 (drop-append_seam text (take m rest)) behind)

-- ---- what one U+FFFD stands for

abbrev is_first : Text → Bool
is_first bs = is_in_range 0xC2 0xF4 (get_or bs 0 0)

abbrev is_second : Text → Bool
is_second bs = let x = get_or bs 0 0 in is_in_range (second_byte_min x) (second_byte_max x) (get_or bs 1 0)

abbrev is_third : Text → Bool
is_third bs = is_in_range 0x80 0xBF (get_or bs 2 0)

module _ (bs : Text) where
  not-first : is_first bs ≡ false → error_len_of_some bs ≡ Some 1
  not-first other = ap (λ is. cond is (error_len_after_one bs) (Some 1)) other

  after-first : is_first bs ≡ true → error_len_of_some bs ≡ error_len_after_one bs
  after-first first = ap (λ is. cond is (error_len_after_one bs) (Some 1)) first

  two-bytes : 2 ≤ length bs → error_len_after_one bs ≡ cond (is_second bs) (error_len_after_two bs) (Some 1)
  two-bytes long = ap (λ is. cond is None (cond (is_second bs) (error_len_after_two bs) (Some 1))) (le-ltb (length bs) 2 long)

  three-bytes : 3 ≤ length bs → error_len_after_two bs ≡ cond (is_third bs) (cond (ltb (length bs) 4) None (Some 3)) (Some 2)
  three-bytes long = ap (λ is. cond is None (cond (is_third bs) (cond (ltb (length bs) 4) None (Some 3)) (Some 2))) (le-ltb (length bs) 3 long)

  not-second : is_first bs ≡ true → 2 ≤ length bs → is_second bs ≡ false → error_len_of_some bs ≡ Some 1
  not-second first long other = after-first first ∙ two-bytes long ∙ ap (λ is. cond is (error_len_after_two bs) (Some 1)) other

  after-second : is_first bs ≡ true → is_second bs ≡ true → 3 ≤ length bs → error_len_of_some bs ≡ cond (is_third bs) (cond (ltb (length bs) 4) None (Some 3)) (Some 2)
  after-second first second long =
      after-first first ∙ two-bytes (omega (arith, long)) ∙ ap (λ is. cond is (error_len_after_two bs) (Some 1)) second ∙ three-bytes long

  not-third : is_first bs ≡ true → is_second bs ≡ true → 3 ≤ length bs → is_third bs ≡ false → error_len_of_some bs ≡ Some 2
  not-third first second long other = after-second first second long ∙ ap (λ is. cond is (cond (ltb (length bs) 4) None (Some 3)) (Some 2)) other

  all-three : is_first bs ≡ true → is_second bs ≡ true → is_third bs ≡ true → 4 ≤ length bs → error_len_of_some bs ≡ Some 3
  all-three first second third long =
      after-second first second (omega (arith, long)) ∙ ap (λ is. cond is (cond (ltb (length bs) 4) None (Some 3)) (Some 2)) third
      ∙ ap (λ is. cond is None (Some 3)) (le-ltb (length bs) 4 long)

-- A newline is none of these bytes.
no-second : (x : ℕ) → is_in_range (second_byte_min x) (second_byte_max x) 10 ≡ false
no-second x = by-tests (eqb x 0xE0) (eqb x 0xF0)
  where
    by-tests : (a b : Bool) → (leb (cond a 0xA0 (cond b 0x90 0x80)) 10 && leb 10 (second_byte_max x)) ≡ false
    by-tests true b = refl
    by-tests false true = refl
    by-tests false false = refl

-- the bytes that one U+FFFD stands for are the same where whole lines begin
record FaultOf (lines rest : Text) : Type 0 where
  len : ℕ
  alone : error_len_of_some lines ≡ Some len
  before : error_len_of_some (lines ++ rest) ≡ Some len
  some : 0 < len
  within : len ≤ length lines

fault-of : (lines rest : Text) → AreWhole lines → 0 < length lines → FaultOf lines rest
fault-of lines rest whole some = by-first (is_first lines) refl
  where
    all : Text
    all = lines ++ rest

    same-byte : (at : ℕ) → at < length lines → get_or all at 0 ≡ get_or lines at 0
    same-byte at inside = get_or-append lines rest 0 at inside

    long : length all ≡ length lines + length rest
    long = length-append lines rest

    -- another byte than a newline is not the last
    goes-on : (at : ℕ) → at < length lines → get_or lines at 0 ≢ 10 → at + 1 < length lines
    goes-on at inside other = elim (cases_lt (at + 1) (length lines)) [
      | inl more ↦ more
      | inr last ↦ absurd (other (whole at (omega (arith, inside, last))))
    ]

    firsts : is_first all ≡ is_first lines
    firsts = ap (is_in_range 0xC2 0xF4) (same-byte 0 some)

    seconds : 1 < length lines → is_second all ≡ is_second lines
    seconds two = ap₂ (λ x y. is_in_range (second_byte_min x) (second_byte_max x) y) (same-byte 0 some) (same-byte 1 two)

    thirds : 2 < length lines → is_third all ≡ is_third lines
    thirds three = ap (is_in_range 0x80 0xBF) (same-byte 2 three)

    by-third : is_first lines ≡ true → is_second lines ≡ true → 2 < length lines → (is : Bool) → is_third lines ≡ is → FaultOf lines rest
    by-third first second three false third = record {
      len = 2;
      alone = not-third lines first second (omega (arith, three)) third;
      before = not-third all (firsts ∙ first) (seconds (omega (arith, three)) ∙ second) (omega (arith, three, long)) (thirds three ∙ third);
      some = omega arith;
      within = omega (arith, three);
    }
    by-third first second three true third =
        let four = goes-on 2 three (λ newline. true≢false (sym third ∙ ap (is_in_range 0x80 0xBF) newline)) in record {
          len = 3;
          alone = all-three lines first second third (omega (arith, four));
          before = all-three all (firsts ∙ first) (seconds (omega (arith, three)) ∙ second) (thirds three ∙ third) (omega (arith, four, long));
          some = omega arith;
          within = omega (arith, three);
        }

    by-second : is_first lines ≡ true → 1 < length lines → (is : Bool) → is_second lines ≡ is → FaultOf lines rest
    by-second first two false second = record {
      len = 1;
      alone = not-second lines first (omega (arith, two)) second;
      before = not-second all (firsts ∙ first) (omega (arith, two, long)) (seconds two ∙ second);
      some = omega arith;
      within = omega (arith, two);
    }
    by-second first two true second =
        let x = get_or lines 0 0 in
        let three = goes-on 1 two (λ newline. true≢false (sym second ∙ ap (is_in_range (second_byte_min x) (second_byte_max x)) newline ∙ no-second x)) in
        by-third first second (omega (arith, three)) (is_third lines) refl

    by-first : (is : Bool) → is_first lines ≡ is → FaultOf lines rest
    by-first false first = record {
      len = 1;
      alone = not-first lines first;
      before = not-first all (firsts ∙ first);
      some = omega arith;
      within = omega (arith, some);
    }
    by-first true first =
        let two = goes-on 0 some (λ newline. true≢false (sym first ∙ ap (is_in_range 0xC2 0xF4) newline)) in
        by-second first (omega (arith, two)) (is_second lines) refl

invalid-len : (bs : Text) (n : ℕ) → 0 < length bs → error_len_of_some bs ≡ Some n → utf8_invalid_len bs ≡ n
unfolding utf8_error_len
invalid-len bs n some is =
    ap (λ it. unwrap_or (cond it None (error_len_of_some bs)) (length bs)) (ne_eqb (length bs) 0 (λ none. absurd (omega (arith, some, none)))) ∙ ap (λ it. unwrap_or it (length bs)) is

-- ---- the text that is made of both

module _ (text rest : Text) (is : IsUtf8 text) where
  text-first : utf8_lossy (text ++ rest) ≡ text ++ utf8_lossy rest
  text-first = elim (eqb_tells (utf8_valid_len rest) (length rest)) [
    | inl valid ↦
        let too = all-valid rest valid.1 in
        utf8_lossy-IsUtf8 (text ++ rest) (IsUtf8-append text rest is too) ∙ ap (λ it. text ++ it) (sym (utf8_lossy-IsUtf8 rest too))
    | inr faulty ↦
        let n = utf8_valid_len rest in
        let short : n < length rest = omega (arith, utf8_valid_len_le rest, faulty.1) in
        let behind : utf8_valid_len (text ++ rest) ≡ length text + n = valid-behind text rest is short in
        let invalid = utf8_invalid_len (drop n rest) in
        let same : drop (utf8_valid_len (text ++ rest)) (text ++ rest) ≡ drop n rest = ap (λ k. drop k (text ++ rest)) behind ∙ drop-append-add text rest n in
        let after : after_first_chunk (text ++ rest) ≡ after_first_chunk rest =
        ap₂ (λ k it. drop (k + utf8_invalid_len it) (text ++ rest)) behind same ∙ ap (λ k. drop k (text ++ rest)) (omega arith) ∙ drop-append-add text rest (n + invalid) in
        utf8_lossy_step (text ++ rest) (λ all. absurd (omega (arith, all, behind, short, length-append text rest)))
        ∙ ap₂ (λ front it. front ++ (replacement_bytes ++ utf8_lossy it)) (ap (λ k. take k (text ++ rest)) behind ∙ take-append-add text rest n) after
        ∙ append_assoc text (take n rest) (replacement_bytes ++ utf8_lossy (after_first_chunk rest))
        ∙ ap (λ it. text ++ it) (sym (utf8_lossy_step rest faulty.1))
  ]

-- with a fault in whole lines, and what stands behind that
module _ (lines rest : Text) (whole : AreWhole lines) (faulty : utf8_valid_len lines ≢ length lines) where
  abbrev n : ℕ
  n = utf8_valid_len lines

  short : n < length lines
  short = omega (arith, utf8_valid_len_le lines, faulty)

  left : length (drop n lines) ≡ length lines - n
  left = length-drop n lines

  abbrev fault : FaultOf (drop n lines) rest
  fault = fault-of (drop n lines) rest (AreWhole-drop lines n whole) (omega (arith, left, short))

  abbrev len : ℕ
  len = fault.len

  inside : n + len ≤ length lines
  inside = omega (arith, fault.within, left, short)

  -- what the fault leaves of the lines
  abbrev behind : Text
  behind = drop (n + len) lines

  fewer : length behind < length lines
  fewer = omega (arith, length-drop (n + len) lines, fault.some, inside)

  same-front : utf8_valid_len (lines ++ rest) ≡ n
  same-front = valid-within lines rest whole short

  behind-lines : after_first_chunk lines ≡ behind
  behind-lines = ap (λ k. drop (n + k) lines) (invalid-len (drop n lines) len (omega (arith, left, short)) fault.alone)

  behind-all : after_first_chunk (lines ++ rest) ≡ behind ++ rest
  behind-all =
      ap (λ k. drop (k + utf8_invalid_len (drop k (lines ++ rest))) (lines ++ rest)) same-front
      ∙ ap (λ it. drop (n + utf8_invalid_len it) (lines ++ rest)) (drop-append-le n lines rest (omega (arith, short)))
      ∙ ap (λ k. drop (n + k) (lines ++ rest)) (invalid-len (drop n lines ++ rest) len (omega (arith, left, short, length-append (drop n lines) rest)) fault.before)
      ∙ drop-append-le (n + len) lines rest inside

  fault-first : utf8_lossy (behind ++ rest) ≡ utf8_lossy behind ++ utf8_lossy rest → utf8_lossy (lines ++ rest) ≡ utf8_lossy lines ++ utf8_lossy rest
  fault-first further =
      let front = take n lines in
      utf8_lossy_step (lines ++ rest) (λ all. absurd (omega (arith, all, same-front, short, length-append lines rest)))
      ∙ ap₂ (λ it after. it ++ (replacement_bytes ++ utf8_lossy after)) (ap (λ k. take k (lines ++ rest)) same-front ∙ take-append-le n lines rest (omega (arith, short))) behind-all
      ∙ ap (λ it. front ++ (replacement_bytes ++ it)) further
      ∙ sym (append_assoc front (replacement_bytes ++ utf8_lossy behind) (utf8_lossy rest))
      ∙ ap (λ it. it ++ utf8_lossy rest) (ap (λ it. front ++ (replacement_bytes ++ utf8_lossy it)) (sym behind-lines) ∙ sym (utf8_lossy_step lines faulty))

-- the same by how many bytes there are at most
lines-up_to : (most : ℕ) (lines rest : Text) → length lines ≤ most → AreWhole lines → utf8_lossy (lines ++ rest) ≡ utf8_lossy lines ++ utf8_lossy rest
lines-up_to zero lines rest within whole =
    let is : IsUtf8 lines = subst IsUtf8 (sym (nil_from_length lines (omega (arith, within)))) IsUtf8-nil in
    text-first lines rest is ∙ ap (λ it. it ++ utf8_lossy rest) (sym (utf8_lossy-IsUtf8 lines is))
lines-up_to (suc most) lines rest within whole = elim (eqb_tells (utf8_valid_len lines) (length lines)) [
  | inl valid ↦
      let is = all-valid lines valid.1 in
      text-first lines rest is ∙ ap (λ it. it ++ utf8_lossy rest) (sym (utf8_lossy-IsUtf8 lines is))
  | inr faulty ↦
      let it = faulty.1 in
      fault-first lines rest whole it
      (lines-up_to most (behind lines rest whole it) rest (omega (arith, within, fewer lines rest whole it)) (AreWhole-drop lines (n lines rest whole it + len lines rest whole it) whole))
]

pub utf8_lossy-AreWhole : (lines rest : Text) → AreWhole lines → utf8_lossy (lines ++ rest) ≡ utf8_lossy lines ++ utf8_lossy rest
utf8_lossy-AreWhole lines rest whole = lines-up_to (length lines) lines rest (omega arith) whole
