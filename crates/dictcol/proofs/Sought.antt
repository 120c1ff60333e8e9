-- Texts that are sought among lines: one line more, and the numbers of all texts.
use Rattle.std.proofs.Common.{◌≡◌, ◌≢◌, ℕ, zero, suc, ◌+◌, ◌<◌, ◌≤◌, nat_lt, Bool, true, false, not, cond, List, [], ◌∷◌, ◌++◌, length, map, take, drop, get_or, Bor, Option, Some, None, refl, sym, ap, subst, ◌∙◌, arith}
use Rattle.std.specs.Prelude.{All, IsSome, is_some, option_map, position, slice_get, slice_set, slice_index_or, replicate}
use Rattle.std.specs.List.{prefix_len}
use Rattle.std.specs.Option.{option_map_or, option_or}
use Rattle.std.specs.Str.{bytes_eq}
use Rattle.std.proofs.lemmas.Bool.Decides.{nat_tests}
use Rattle.std.proofs.lemmas.List.{append-nil, get_or-map, length-map}
use Rattle.std.proofs.lemmas.Slice.Eq.{bytes_eq-Decides}
use Rattle.std.proofs.lemmas.Option.{slice_get-get_or, slice_get_within, get_or_from_slice_get, same_Some}
use Rattle.string_interner.specs.Text.{Text, IsDistinct, first}
use Rattle.string_interner.specs.Extend.{fresh, texts_of}
use Rattle.string_interner.proofs.Lemmas.Interner.StandsFor.{one_entry}
use Rattle.string_interner.specs.Numbering.{Numbering}
use Rattle.string_interner.specs.declared.backend.InternError.{InternError}
use Rattle.string_column.specs.Column.{AreCodes, IsColumn, dictionary_of}
use Rattle.string_column.specs.Entries.{IsRefusal, LacksSymbol}
use Rattle.string_column.proofs.Lemmas.Rows.{codes-within, column-push}
use Rattle.dictcol.specs.Fault.{IsTakeFault, intern_fault}
use Rattle.dictcol.specs.Get.{numbers_of}
use Rattle.dictcol.specs.TooMany.{HasRefused, LacksLine}
use Rattle.dictcol.proofs.AreGood.{texts-more, texts-split}
use Rattle.dictcol.proofs.Counted.{differs}
use Rattle.dictcol.proofs.TooMany.{refusal-fault, take-weaker}

-- ---- where a test passes first, with one item more

at-front : (test : Text → Bool) (y : Text) (ys : List Text) → test y ≡ true → position test (y ∷ ys) ≡ Some 0
at-front test y ys passes =
    let n = prefix_len (λ x. not (test x)) ys in
    let within : nat_lt 0 (suc (length ys)) ≡ true = grind (arith, nat_tests) in
    ap (λ b. cond (nat_lt (cond (not b) (1 + n) 0) (suc (length ys))) (Some (cond (not b) (1 + n) 0)) None) passes ∙ ap (λ b. cond b (Some 0) None) within

further : (b : Bool) (n : ℕ) → cond b (Some (suc n)) None ≡ option_map suc (cond b (Some n) None)
further true n = refl
further false n = refl

behind : (test : Text → Bool) (y : Text) (ys : List Text) → test y ≡ false → position test (y ∷ ys) ≡ option_map suc (position test ys)
behind test y ys fails =
    let n = prefix_len (λ x. not (test x)) ys in
    let one : 1 + n ≡ suc n = omega arith in
    let same : nat_lt (suc n) (suc (length ys)) ≡ nat_lt n (length ys) = grind (arith, nat_tests) in
    ap (λ b. cond (nat_lt (cond (not b) (1 + n) 0) (suc (length ys))) (Some (cond (not b) (1 + n) 0)) None) fails
    ∙ ap (λ m. cond (nat_lt m (suc (length ys))) (Some m) None) one ∙ ap (λ b. cond b (Some (suc n)) None) same ∙ further (nat_lt n (length ys)) n

or-further : (o : Option ℕ) (b : Bool) (n : ℕ) → option_map suc (option_or o (cond b (Some n) None)) ≡ option_or (option_map suc o) (cond b (Some (suc n)) None)
or-further (Some i) b n = refl
or-further None true n = refl
or-further None false n = refl

pushed : (test : Text → Bool) (xs : List Text) (x : Text) → position test (xs ++ x ∷ []) ≡ option_or (position test xs) (cond (test x) (Some (length xs)) None)
pushed test [] x = of (test x) refl
  where
    of : (b : Bool) → test x ≡ b → position test (x ∷ []) ≡ cond b (Some 0) None
    of true e = at-front test x [] e
    of false e = behind test x [] e
pushed test (y ∷ ys) x = of (test y) refl (pushed test ys x)
  where
    last : Option ℕ
    last = cond (test x) (Some (length ys)) None

    of : (b : Bool) → test y ≡ b → position test (ys ++ x ∷ []) ≡ option_or (position test ys) (cond (test x) (Some (length ys)) None)
        → position test (y ∷ (ys ++ x ∷ [])) ≡ option_or (position test (y ∷ ys)) (cond (test x) (Some (suc (length ys))) None)
    of true e more =
        at-front test y (ys ++ x ∷ []) e ∙ sym (ap (λ o. option_or o (cond (test x) (Some (suc (length ys))) None)) (at-front test y ys e))
    of false e more =
        behind test y (ys ++ x ∷ []) e ∙ ap (option_map suc) more ∙ or-further (position test ys) (test x) (length ys)
        ∙ sym (ap (λ o. option_or o (cond (test x) (Some (suc (length ys))) None)) (behind test y ys e))

none : (o : Option ℕ) → option_or o None ≡ o
none (Some i) = refl
none None = refl

-- ---- the number of a text, with one line more

-- one that is among the lines has it already
known-number : (lines : List Text) (line text : Text) (i : ℕ) → first lines text ≡ Some i → first (lines ++ line ∷ []) text ≡ Some i
known-number lines line text i known = pushed (λ entry. bytes_eq entry text) lines line ∙ ap (λ o. option_or o (cond (bytes_eq line text) (Some (length lines)) None)) known

-- the line itself has it now
new-number : (lines : List Text) (line : Text) → first lines line ≡ None → first (lines ++ line ∷ []) line ≡ Some (length lines)
new-number lines line unknown =
    let same = (bytes_eq-Decides line line).1 refl in
    pushed (λ entry. bytes_eq entry line) lines line ∙ ap (λ o. option_or o (cond (bytes_eq line line) (Some (length lines)) None)) unknown ∙ ap (λ b. cond b (Some (length lines)) None) same

-- and no other one changes
other-number : (lines : List Text) (line text : Text) → line ≢ text → first (lines ++ line ∷ []) text ≡ first lines text
other-number lines line text apart =
    pushed (λ entry. bytes_eq entry text) lines line ∙ ap (λ b. option_or (first lines text) (cond b (Some (length lines)) None)) (differs line text apart (bytes_eq line text) refl) ∙ none (first lines text)

-- where the line was there before, none changes
unchanged : (lines : List Text) (line text : Text) (i : ℕ) → first lines line ≡ Some i → first (lines ++ line ∷ []) text ≡ first lines text
unchanged lines line text i came = of (bytes_eq line text) refl
  where
    of : (b : Bool) → bytes_eq line text ≡ b → first (lines ++ line ∷ []) text ≡ first lines text
    of true e =
        let same = (bytes_eq-Decides line text).0 e in
        let known = ap (first lines) (sym same) ∙ came in
        known-number lines line text i known ∙ sym known
    of false e =
        pushed (λ entry. bytes_eq entry text) lines line ∙ ap (λ b. option_or (first lines text) (cond b (Some (length lines)) None)) e ∙ none (first lines text)

-- ---- the numbers of texts, with one line more

-- that is none of the texts
pub none-sought : (lines : List Text) (line : Text) (texts : List Text) → ((k : ℕ) → k < length texts → get_or texts k [] ≢ line) → numbers_of (lines ++ line ∷ []) texts ≡ numbers_of lines texts
none-sought lines line [] apart = refl
none-sought lines line (text ∷ texts) apart =
    rw (other-number lines line text (λ e. apart 0 (omega arith) (sym e)), none-sought lines line texts (λ k within. apart (suc k) (omega arith))) refl

-- that came before
pub came-before : (lines : List Text) (line : Text) (texts : List Text) (i : ℕ) → first lines line ≡ Some i → numbers_of (lines ++ line ∷ []) texts ≡ numbers_of lines texts
came-before lines line [] i came = refl
came-before lines line (text ∷ texts) i came = rw (unchanged lines line text i came, came-before lines line texts i came) refl

put-number : (lines : List Text) (line : Text) (texts : List Text) (index : ℕ) → ((k : ℕ) → k < length texts → k ≢ index → get_or texts k [] ≢ line) → slice_get texts index ≡ Some line → first lines line ≡ None
    → slice_set (numbers_of lines texts) index (Some (length lines)) ≡ numbers_of (lines ++ line ∷ []) texts
put-number lines line [] index apart at new = absurd (cc)
put-number lines line (text ∷ texts) zero apart at new =
    let own : first (lines ++ line ∷ []) text ≡ Some (length lines) = ap (first (lines ++ line ∷ [])) (same_Some text line at) ∙ new-number lines line new in
    rw (own, none-sought lines line texts (λ k within. apart (suc k) (omega arith) (λ e. absurd (omega arith)))) refl
put-number lines line (text ∷ texts) (suc index) apart at new =
    rw (other-number lines line text (λ e. apart 0 (omega arith) (λ z. absurd (omega arith)) (sym e)), sym (put-number lines line texts index (λ k within other. apart (suc k) (omega arith) (λ e. other (omega arith))) at new)) refl

-- the number of the text at an index
pub number-at : (lines : List Text) (text : Text) (texts : List Text) (index : ℕ) (d : Option ℕ) → slice_get texts index ≡ Some text → get_or (numbers_of lines texts) index d ≡ first lines text
number-at lines text texts index d at =
    get_or-map (first lines) texts index [] d (slice_get_within texts index text at) ∙ ap (first lines) (get_or_from_slice_get texts index text [] at)

-- that comes for the first time
pub comes-first : (lines : List Text) (line : Text) (texts : List Text) (index : ℕ) → IsDistinct texts → slice_get texts index ≡ Some line → get_or (numbers_of lines texts) index None ≡ None
    → slice_set (numbers_of lines texts) index (Some (length lines)) ≡ numbers_of (lines ++ line ∷ []) texts
comes-first lines line texts index distinct at none =
    put-number lines line texts index (λ k inside other e. other (one_entry texts line k index distinct (slice_get-get_or texts k [] inside ∙ ap Some e) at)) at (sym (number-at lines line texts index None at) ∙ none)

-- that has a number
pub has-number : (lines : List Text) (line : Text) (texts : List Text) (index : ℕ) (number : Option ℕ) → slice_get texts index ≡ Some line → number ≡ get_or (numbers_of lines texts) index number → IsSome number
    → numbers_of lines texts ≡ numbers_of (lines ++ line ∷ []) texts
has-number lines line texts index number at read some = of (first lines line) refl (read ∙ number-at lines line texts index number at)
  where
    of : (o : Option ℕ) → first lines line ≡ o → number ≡ first lines line → numbers_of lines texts ≡ numbers_of (lines ++ line ∷ []) texts
    of (Some i) e is = sym (came-before lines line texts i e)
    of None e is = let unknown = is ∙ e in absurd (cc)

-- there is a number for each text
pub each-number : (lines texts : List Text) (text : Text) (index : ℕ) → slice_get texts index ≡ Some text → index < length (numbers_of lines texts)
each-number lines texts text index at = omega (arith, slice_get_within texts index text at, length-map texts (first lines))

-- a text that is none of the others
pub no-entry : (texts : List Text) (text : Text) → ¬ (IsSome (first texts text)) → first texts text ≡ None
no-entry texts text none = of (first texts text) refl
  where
    of : (o : Option ℕ) → first texts text ≡ o → o ≡ None
    of None e = refl
    of (Some i) e = absurd (none (ap is_some e))

-- ---- what is listed

-- the numbers of the texts that have these indexes
pub listed-numbers : (lines texts : List Text) (codes : List ℕ) (asked : List Text) → AreCodes texts codes asked → map (λ code. slice_index_or (numbers_of lines texts) code None) codes ≡ numbers_of lines asked
listed-numbers lines texts [] [] are = refl
listed-numbers lines texts [] (text ∷ asked) are = absurd are
listed-numbers lines texts (code ∷ codes) [] are = absurd are
listed-numbers lines texts (code ∷ codes) (text ∷ asked) are = rw (number-at lines text texts code None are.0, listed-numbers lines texts codes asked are.1) refl

-- a text that is an entry is not interned anew
pub known-entry : (old new : List Text) (text : Text) (index : ℕ) → IsSome (first old text) → slice_get new index ≡ Some text → new ≡ old ++ fresh old (text ∷ []) → (new ≡ old) × (slice_get old index ≡ Some text)
known-entry old new text index some at grown = of (first old text) refl some grown
  where
    of : (o : Option ℕ) → first old text ≡ o → IsSome o → new ≡ old ++ option_map_or (λ _. []) o (text ∷ []) → (new ≡ old) × (slice_get old index ≡ Some text)
    of (Some i) e some put = let same = put ∙ append-nil old in (same, ap (λ texts. slice_get texts index) (sym same) ∙ at)
    of None e some put = absurd (cc)

-- ---- the texts that are asked for

-- the texts so far have indexes, and one more
pub one-indexed : (asked : List (Bor Text)) (i : ℕ) (d : Bor Text) (old new : List Text) (codes longer : List ℕ) (code : ℕ) → i < length asked → IsColumn old codes (texts_of (take i asked))
    → slice_get new code ≡ Some (get_or asked i d).now → new ≡ old ++ fresh old ((get_or asked i d).now ∷ []) → longer ≡ codes ++ code ∷ [] → IsColumn new longer (texts_of (take (i + 1) asked))
one-indexed asked i d old new codes longer code within so_far at grown put =
    rw (put, texts-more asked i d within) (column-push old new codes (texts_of (take i asked)) code (get_or asked i d).now so_far at grown)

-- or it is refused
pub text-refused : {S : Type 0} (numbering : Numbering S) (asked : List (Bor Text)) (i : ℕ) (d : Bor Text) (old : List Text) (error : InternError) → i < length asked
    → old ≡ dictionary_of (texts_of (take i asked)) → IsRefusal numbering old (get_or asked i d).now error → IsTakeFault (HasRefused (LacksLine numbering) (texts_of asked)) (intern_fault error)
text-refused numbering asked i d old error within is refused =
    let text = (get_or asked i d).now in
    take-weaker (intern_fault error)
    (λ lacks. (texts_of (take i asked), text, texts_of (drop (i + 1) asked), texts-split asked i d within, subst (λ entries. LacksSymbol numbering entries text) is lacks))
    (refusal-fault numbering old text error refused)

-- before any line no text has a number
pub no-numbers : (texts : List Text) (numbers : List (Option ℕ)) (n : ℕ) → numbers ≡ replicate n None → n ≡ length texts → numbers ≡ numbers_of [] texts
no-numbers texts numbers n are long = are ∙ ap (λ (k : ℕ). replicate k None) long ∙ each texts
  where
    each : (ts : List Text) → replicate (length ts) None ≡ numbers_of [] ts
    each [] = refl
    each (t ∷ ts) = ap (λ ns. None ∷ ns) (each ts)

-- the texts are as they were, and so are their indexes
pub kept-column : (texts old : List Text) (codes before : List ℕ) (asked : List Text) → ◌≡◌ {A = List Text × List ℕ} (texts, codes) (old, before) → IsColumn old before asked → IsColumn texts codes asked
kept-column texts old codes before asked same is = subst (λ (p : List Text × List ℕ). IsColumn p.0 p.1 asked) (sym same) is

-- each text that is asked for has a place among the numbers
pub codes-fit : (texts : List Text) (codes : List ℕ) (numbers : List (Option ℕ)) (asked lines : List Text) → IsColumn texts codes asked → numbers ≡ numbers_of lines texts → All (λ code. code < length numbers) codes
codes-fit texts codes numbers asked lines is are = λ i d inside.
    let within = codes-within texts codes asked is.codes_are i d inside in
    omega (arith, within, ap length are, length-map texts (first lines))
