-- How many rows are a text, and the counts once a row more is counted.
use Rattle.std.proofs.Common.{◌≡◌, ℕ, ◌+◌, ◌<◌, ◌≤◌, List, [], ◌∷◌, ◌++◌, length, take, get_or, Option, Some, None, zero, suc, refl, sym, ap, subst, ◌∙◌, arith, map, Bool, true, false}
use Rattle.std.specs.Prelude.{slice_get, slice_set, count_by, replicate, ◌≢◌}
use Rattle.std.specs.Option.{option_map_or}
use Rattle.std.specs.Str.{bytes_eq}
use Rattle.std.proofs.lemmas.Slice.Eq.{bytes_eq-Decides}
use Rattle.std.proofs.lemmas.List.{append_assoc, append-nil}
use Rattle.std.proofs.lemmas.List.Quantifiers.{all_pairs_push}
use Rattle.std.proofs.lemmas.List.Sums.{count_by_more_yes, count_by_more_no, count_by-le-length}
use Rattle.std.proofs.lemmas.Option.{get_or_from_slice_get, slice_get-get_or, slice_get_within, same_Some}
use Rattle.string_interner.specs.Text.{Text, IsDistinct, first}
use Rattle.string_interner.specs.Extend.{fresh}
use Rattle.string_interner.proofs.Lemmas.Texts.First.{first_none}
use Rattle.string_interner.proofs.Lemmas.Interner.StandsFor.{one_entry}
use Rattle.string_column.specs.Column.{dictionary_of}

-- fresh texts behind distinct ones are distinct
pub fresh-distinct : (old texts : List Text) → IsDistinct old → IsDistinct (old ++ fresh old texts)
fresh-distinct old [] distinct = subst IsDistinct (sym (append-nil old)) distinct
fresh-distinct old (text ∷ texts) distinct = of (fresh-distinct old texts distinct) (fresh-distinct (old ++ text ∷ []) texts) (first old text) refl
  where
    of : IsDistinct (old ++ fresh old texts) → (IsDistinct (old ++ text ∷ []) → IsDistinct ((old ++ text ∷ []) ++ fresh (old ++ text ∷ []) texts)) → (o : Option ℕ) → first old text ≡ o
        → IsDistinct (old ++ option_map_or (λ _. fresh old texts) o (text ∷ fresh (old ++ text ∷ []) texts))
    of same more (Some i) known = same
    of same more None new = subst IsDistinct (append_assoc old (text ∷ []) (fresh (old ++ text ∷ []) texts)) (more (all_pairs_push (λ a b. a ≢ b) old text distinct (first_none old text new)))

-- the entries of a dictionary are distinct
pub dictionary-distinct : (rows : List Text) → IsDistinct (dictionary_of rows)
dictionary-distinct rows = fresh-distinct [] rows (λ i j d less within. absurd (omega arith))

-- how many of the rows are the text
abbrev pub count_in : List Text → Text → ℕ
count_in rows text = count_by (λ row. bytes_eq row text) rows

-- where two functions agree at all entries
map-same : (f g : Text → ℕ) (row : Text) (entries : List Text) → ((t : Text) → t ≢ row → g t ≡ f t) → ((k : ℕ) → k < length entries → get_or entries k [] ≢ row) → map f entries ≡ map g entries
map-same f g row [] same apart = refl
map-same f g row (t ∷ entries) same apart = rw (same t (apart 0 (omega arith)), map-same f g row entries same (λ k within. apart (suc k) (omega arith))) refl

-- and where they differ by one at one entry
map-one-more : (f g : Text → ℕ) (row : Text) (entries : List Text) (code : ℕ) → ((t : Text) → t ≡ row → g t ≡ f t + 1) → ((t : Text) → t ≢ row → g t ≡ f t)
    → ((k : ℕ) → k < length entries → k ≢ code → get_or entries k [] ≢ row) → slice_get entries code ≡ Some row → slice_set (map f entries) code (get_or (map f entries) code 0 + 1) ≡ map g entries
map-one-more f g row [] code more same apart is = absurd (cc)
map-one-more f g row (t ∷ entries) zero more same apart is =
    rw (more t (same_Some t row is), map-same f g row entries same (λ k within. apart (suc k) (omega arith) (λ e. absurd (omega arith)))) refl
map-one-more f g row (t ∷ entries) (suc code) more same apart is =
    rw (same t (apart 0 (omega arith) (λ e. absurd (omega arith))), map-one-more f g row entries code more same (λ k within other. apart (suc k) (omega arith) (λ e. other (omega arith))) is) refl

-- one row more is counted at its entry
pub counts-step : (rows : List Text) (i code : ℕ) (row : Text) → slice_get (dictionary_of rows) code ≡ Some row → slice_get rows i ≡ Some row
    → slice_set (map (count_in (take i rows)) (dictionary_of rows)) code (get_or (map (count_in (take i rows)) (dictionary_of rows)) code 0 + 1) ≡ map (count_in (take (i + 1) rows)) (dictionary_of rows)
counts-step rows i code row entry is = map-one-more (count_in (take i rows)) (count_in (take (i + 1) rows)) row (dictionary_of rows) code
    (λ t same. count_by_more_yes (λ r. bytes_eq r t) rows i [] within ((bytes_eq-Decides (get_or rows i []) t).1 (read ∙ sym same)))
    (λ t other. count_by_more_no (λ r. bytes_eq r t) rows i [] within (differs t other (bytes_eq (get_or rows i []) t) refl))
    (λ k inside other e. other (one_entry (dictionary_of rows) row k code (dictionary-distinct rows) (slice_get-get_or (dictionary_of rows) k [] inside ∙ ap Some e) entry))
    entry
  where
    within : i < length rows
    within = slice_get_within rows i row is

    read : get_or rows i [] ≡ row
    read = get_or_from_slice_get rows i row [] is

    differs : (t : Text) → t ≢ row → (b : Bool) → bytes_eq (get_or rows i []) t ≡ b → b ≡ false
    differs t other true e = absurd (other (sym ((bytes_eq-Decides (get_or rows i []) t).0 e) ∙ read))
    differs t other false e = refl

-- a count that was read
pub count-read : (counts : List ℕ) (code count : ℕ) → code < length counts → count ≡ get_or counts code count → count ≡ get_or counts code 0
count-read counts code count within read = read ∙ same_Some _ _ (sym (slice_get-get_or counts code count within) ∙ slice_get-get_or counts code 0 within)

-- no count is above the rows
pub counts-le : (front entries : List Text) (code : ℕ) (d : ℕ) → code < length entries → get_or (map (count_in front) entries) code d ≤ length front
counts-le front [] code d within = absurd (omega arith)
counts-le front (t ∷ entries) zero d within = count_by-le-length (λ row. bytes_eq row t) front
counts-le front (t ∷ entries) (suc code) d within = counts-le front entries code d (omega arith)

-- at first each is zero
pub counts-none : (entries : List Text) (counts : List ℕ) (n : ℕ) → counts ≡ replicate n 0 → n ≡ length entries → counts ≡ map (count_in []) entries
counts-none entries counts n made count = made ∙ ap (λ (k : ℕ). replicate k 0) count ∙ zeros entries
  where
    zeros : (entries : List Text) → replicate (length entries) 0 ≡ map (count_in []) entries
    zeros [] = refl
    zeros (t ∷ entries) = ap (λ rest. 0 ∷ rest) (zeros entries)
