-- Counts with one line more.
use Rattle.std.proofs.Common.{◌≡◌, ◌≢◌, ℕ, ◌+◌, ◌-◌, ◌^◌, ◌<◌, ◌≤◌, min, Bool, true, false, List, [], ◌∷◌, ◌++◌, length, take, get_or, map, Option, Some, None, refl, sym, ap, subst, ◌∙◌, arith}
use Rattle.std.specs.Prelude.{slice_get, slice_set}
use Rattle.std.specs.Option.{option_map_or}
use Rattle.std.specs.Str.{bytes_eq}
use Rattle.std.proofs.lemmas.List.{append-nil, append_assoc, length_push, length-map, take_at, take_all}
use Rattle.std.proofs.lemmas.Slice.Eq.{bytes_eq-Decides}
use Rattle.std.proofs.lemmas.Option.{slice_get-get_or, slice_get_within, get_or_from_slice_get}
use Rattle.string_interner.specs.Text.{Text, first}
use Rattle.string_interner.specs.Extend.{fresh}
use Rattle.string_interner.proofs.Lemmas.Texts.First.{first_within, first_is, first_none}
use Rattle.string_column.specs.Column.{counts_of, dictionary_of}
use Rattle.string_column.proofs.Lemmas.AreNumbered.{slice_get-append, slice_get-push}
use Rattle.string_column.proofs.Lemmas.Counts.{count_in, count-read, counts-step, counts-le}
use Rattle.string_column.proofs.Lemmas.Rows.{dictionary-push, known-fresh}
use Rattle.dictcol.specs.Counts.{CountsContents, HasCounted, contents_of}

-- no entry is the text
abbrev IsNoEntry : List Text → Text → Type 0
IsNoEntry entries text = (k : ℕ) → slice_get entries k ≡ Some text → ⊥

pub differs : (t text : Text) → t ≢ text → (b : Bool) → bytes_eq t text ≡ b → b ≡ false
differs t text other true e = absurd (other ((bytes_eq-Decides t text).0 e))
differs t text other false e = refl

-- a text that is no entry once texts were interned is none of them
absent : (old texts : List Text) (text : Text) → IsNoEntry (old ++ fresh old texts) text → count_in texts text ≡ 0
absent old [] text none = refl
absent old (t ∷ ts) text none = of (first old t) refl (absent old ts text) (absent (old ++ t ∷ []) ts text) none
  where
    other : t ≢ text → count_in ts text ≡ 0 → count_in (t ∷ ts) text ≡ 0
    other apart rest = rw (differs t text apart (bytes_eq t text) refl) rest

    of : (o : Option ℕ) → first old t ≡ o → (IsNoEntry (old ++ fresh old ts) text → count_in ts text ≡ 0) → (IsNoEntry ((old ++ t ∷ []) ++ fresh (old ++ t ∷ []) ts) text → count_in ts text ≡ 0)
        → IsNoEntry (old ++ option_map_or (λ _. fresh old ts) o (t ∷ fresh (old ++ t ∷ []) ts)) text → count_in (t ∷ ts) text ≡ 0
    of (Some i) known same more none =
        let within = first_within old t i known in
        let at = slice_get-get_or old i [] within ∙ ap Some (first_is old t i known) in
        other (λ e. none i (slice_get-append old (fresh old ts) i text (at ∙ ap Some e))) (same none)
    of None new same more none =
        let behind : (old ++ t ∷ []) ++ fresh (old ++ t ∷ []) ts ≡ old ++ t ∷ fresh (old ++ t ∷ []) ts = append_assoc old (t ∷ []) (fresh (old ++ t ∷ []) ts) in
        let rest = subst (λ entries. IsNoEntry entries text) (sym behind) none in
        other (λ e. rest (length old) (slice_get-append (old ++ t ∷ []) (fresh (old ++ t ∷ []) ts) (length old) text (slice_get-push old t ∙ ap Some e))) (more rest)

set-last : (xs : List ℕ) (n : ℕ) → n ≡ 0 → slice_set (xs ++ n ∷ []) (length xs) (get_or (xs ++ n ∷ []) (length xs) 0 + 1) ≡ xs ++ 1 ∷ []
set-last [] n zero-is = rw zero-is refl
set-last (x ∷ xs) n zero-is = ap (λ ys. x ∷ ys) (set-last xs n zero-is)

map-push : (f : Text → ℕ) (xs : List Text) (x : Text) → map f (xs ++ x ∷ []) ≡ map f xs ++ f x ∷ []
map-push f [] x = refl
map-push f (y ∷ xs) x = ap (λ ys. f y ∷ ys) (map-push f xs x)

-- one line more, where its entry has this index
step : (lines : List Text) (line : Text) (index : ℕ) → slice_get (dictionary_of (lines ++ line ∷ [])) index ≡ Some line
    → slice_set (map (count_in lines) (dictionary_of (lines ++ line ∷ []))) index (get_or (map (count_in lines) (dictionary_of (lines ++ line ∷ []))) index 0 + 1) ≡ counts_of (lines ++ line ∷ [])
step lines line index at =
    let rows = lines ++ line ∷ [] in
    let front : take (length lines) rows ≡ lines = take_at lines (line ∷ []) (length lines) refl in
    let whole : take (length lines + 1) rows ≡ rows = take_all (length lines + 1) rows (omega (arith, length_push lines line)) in
    let one = counts-step rows (length lines) index line at (slice_get-push lines line) in
    subst (λ all. slice_set (map (count_in lines) (dictionary_of rows)) index (get_or (map (count_in lines) (dictionary_of rows)) index 0 + 1) ≡ map (count_in all) (dictionary_of rows)) whole
    (subst (λ before. slice_set (map (count_in before) (dictionary_of rows)) index (get_or (map (count_in before) (dictionary_of rows)) index 0 + 1) ≡ map (count_in (take (length lines + 1) rows)) (dictionary_of rows)) front one)

-- a line that was counted before
pub counted-known : (entries : List Text) (counts new : List ℕ) (total : ℕ) (lines : List Text) (line : Text) (index : ℕ) → slice_get entries index ≡ Some line
    → new ≡ slice_set counts index (get_or counts index 0 + 1) → HasCounted (contents_of entries counts total) lines → HasCounted (contents_of entries new (total + 1)) (lines ++ line ∷ [])
counted-known entries counts new total lines line index at put has =
    let known = ap (λ e. slice_get e index) (sym has.entries_are) ∙ at in
    let same : dictionary_of (lines ++ line ∷ []) ≡ dictionary_of lines =
    dictionary-push lines line ∙ ap (λ more. dictionary_of lines ++ more) (known-fresh (dictionary_of lines) index line known) ∙ append-nil (dictionary_of lines) in
    record {
      entries_are = has.entries_are ∙ sym same;
      counts_are = put ∙ ap (λ cs. slice_set cs index (get_or cs index 0 + 1)) (has.counts_are ∙ ap (map (count_in lines)) (sym same))
          ∙ step lines line index (ap (λ e. slice_get e index) same ∙ known);
      total_is = ap (λ (n : ℕ). n + 1) has.total_is ∙ sym (length_push lines line);
    }

-- one that was not
pub counted-new : (entries : List Text) (counts : List ℕ) (total : ℕ) (lines : List Text) (line : Text) → first entries line ≡ None
    → HasCounted (contents_of entries counts total) lines → HasCounted (contents_of (entries ++ line ∷ []) (counts ++ 1 ∷ []) (total + 1)) (lines ++ line ∷ [])
counted-new entries counts total lines line new has =
    let unknown : first (dictionary_of lines) line ≡ None = ap (λ e. first e line) (sym has.entries_are) ∙ new in
    let one : fresh (dictionary_of lines) (line ∷ []) ≡ line ∷ [] = rw unknown refl in
    let longer : dictionary_of (lines ++ line ∷ []) ≡ dictionary_of lines ++ line ∷ [] = dictionary-push lines line ∙ ap (λ more. dictionary_of lines ++ more) one in
    let none : count_in lines line ≡ 0 = absent [] lines line (λ k at. first_none (dictionary_of lines) line unknown k line (within k at) (read k at)) in
    let long : length (counts_of lines) ≡ length (dictionary_of lines) = length-map (dictionary_of lines) (count_in lines) in
    let put = map-push (count_in lines) (dictionary_of lines) line in
    let all = step lines line (length (dictionary_of lines)) (ap (λ e. slice_get e (length (dictionary_of lines))) longer ∙ slice_get-push (dictionary_of lines) line) in
    record {
      entries_are = ap (λ e. e ++ line ∷ []) has.entries_are ∙ sym longer;
      counts_are = ap (λ cs. cs ++ 1 ∷ []) has.counts_are ∙ sym (set-last (counts_of lines) (count_in lines line) none)
          ∙ ap (λ (i : ℕ). slice_set (counts_of lines ++ count_in lines line ∷ []) i (get_or (counts_of lines ++ count_in lines line ∷ []) i 0 + 1)) long
          ∙ ap (λ cs. slice_set cs (length (dictionary_of lines)) (get_or cs (length (dictionary_of lines)) 0 + 1)) (sym put ∙ ap (map (count_in lines)) (sym longer)) ∙ all;
      total_is = ap (λ (n : ℕ). n + 1) has.total_is ∙ sym (length_push lines line);
    }
  where
    within : (k : ℕ) → slice_get (dictionary_of lines) k ≡ Some line → k < length (dictionary_of lines)
    within k at = slice_get_within (dictionary_of lines) k line at

    read : (k : ℕ) → slice_get (dictionary_of lines) k ≡ Some line → get_or (dictionary_of lines) k line ≡ line
    read k at = get_or_from_slice_get (dictionary_of lines) k line line at

-- there is a count for each entry
pub counted-long : (entries : List Text) (counts : List ℕ) (total : ℕ) (lines : List Text) → HasCounted (contents_of entries counts total) lines → length counts ≡ length entries
counted-long entries counts total lines has = ap length has.counts_are ∙ length-map (dictionary_of lines) (count_in lines) ∙ ap length (sym has.entries_are)

-- the same of what contracts see
pub counted-each : (contents : CountsContents) (lines : List Text) → HasCounted contents lines → length contents.counts ≡ length contents.entries
counted-each contents lines has = counted-long contents.entries contents.counts contents.total lines has

-- no count is above the lines
pub count-below : (entries : List Text) (counts : List ℕ) (total : ℕ) (lines : List Text) (index d : ℕ) → index < length counts → HasCounted (contents_of entries counts total) lines → get_or counts index d ≤ total
count-below entries counts total lines index d within has =
    let long = length-map (dictionary_of lines) (count_in lines) in
    let most = counts-le lines (dictionary_of lines) index d (omega (arith, long, ap length has.counts_are)) in
    omega (arith, most, ap (λ cs. get_or cs index d) has.counts_are, has.total_is)

-- a line that was counted before, where its count and the total fit
pub counted-again : (entries : List Text) (counts : List ℕ) (total : ℕ) (lines : List Text) (line : Text) (index count more : ℕ) → slice_get entries index ≡ Some line → index < length counts
    → count ≡ get_or counts index count → more ≡ min (count + 1) (2 ^ 64 - 1) → total + 1 < 2 ^ 64
    → HasCounted (contents_of entries counts total) lines → HasCounted (contents_of entries (slice_set counts index more) (total + 1)) (lines ++ line ∷ [])
counted-again entries counts total lines line index count more at within read sum fits has =
    let is = count-read counts index count within read in
    let most = count-below entries counts total lines index 0 within has in
    let one : more ≡ get_or counts index 0 + 1 = omega (arith, sum, is, most) in
    counted-known entries counts (slice_set counts index more) total lines line index at (ap (slice_set counts index) one) has

-- ---- the index of a text in a dictionary

module _ (old new : List Text) (text : Text) (index : ℕ) (at : slice_get new index ≡ Some text) (grown : new ≡ old ++ fresh old (text ∷ [])) where
  -- of one that was there
  pub index-known : index < length old → (slice_get old index ≡ Some text) × (new ≡ old)
  index-known within =
      let before = slice_get-get_or old index [] within in
      let behind = slice_get-append old (fresh old (text ∷ [])) index (get_or old index []) before in
      let known = before ∙ sym behind ∙ ap (λ texts. slice_get texts index) (sym grown) ∙ at in
      (known, grown ∙ ap (λ more. old ++ more) (known-fresh old index text known) ∙ append-nil old)

  -- and of one that was not
  pub index-new : length old ≤ index → (first old text ≡ None) × (new ≡ old ++ text ∷ [])
  index-new behind = of (first old text) refl grown
    where
      of : (o : Option ℕ) → first old text ≡ o → new ≡ old ++ option_map_or (λ _. fresh old []) o (text ∷ fresh (old ++ text ∷ []) []) → (first old text ≡ None) × (new ≡ old ++ text ∷ [])
      of None is longer = (is, longer)
      of (Some i) is same = let within = slice_get_within new index text at in absurd (omega (arith, within, behind, ap length same, ap length (append-nil old)))

-- one line more of those that are walked over
pub taken-on : {S : Type 0} (has_taken : S → List Text → Type 0) (old mid new : S) (all ahead rest : List Text) (line : Text) → ahead ≡ line ∷ rest
    → (front : List Text) × ((lines : List Text) → has_taken old lines → has_taken mid (lines ++ front)) × (front ++ ahead ≡ all)
    → ((lines : List Text) → has_taken mid lines → has_taken new (lines ++ line ∷ []))
    → (front : List Text) × ((lines : List Text) → has_taken old lines → has_taken new (lines ++ front)) × (front ++ rest ≡ all)
taken-on has_taken old mid new all ahead rest line first (front, so_far, whole) one = (
  front ++ line ∷ [],
  λ lines has. subst (has_taken new) (append_assoc lines front (line ∷ [])) (one (lines ++ front) (so_far lines has)),
  append_assoc front (line ∷ []) rest ∙ ap (λ more. front ++ more) (sym first) ∙ whole,
)
