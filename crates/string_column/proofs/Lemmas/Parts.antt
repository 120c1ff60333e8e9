-- A column of a dictionary and codes from outside: what the codes read, entries in the order of the rows, and repeated ones.
use Rattle.std.proofs.Common.{◌≡◌, ℕ, ◌+◌, ◌<◌, ◌≤◌, List, [], ◌∷◌, ◌++◌, length, take, get_or, Option, Some, None, suc, refl, sym, ap, subst, ◌∙◌, arith, Bor, zero, Result, Ok, Err}
use Rattle.std.specs.Prelude.{slice_get, All, Contains, IsErrAnd, IfErr, IsSome, ◌≢◌}
use Rattle.std.specs.Option.{option_map_or}
use Rattle.std.proofs.lemmas.List.{append_assoc, append-nil, get_or-take, take_more, map_more, length-take-le, length-map, get_or-map}
use Rattle.std.proofs.lemmas.List.Quantifiers.{all_pairs_push}
use Rattle.std.proofs.lemmas.List.Elements.{All-push}
use Rattle.std.proofs.lemmas.Option.{get_or_from_slice_get, slice_get-get_or, slice_get_within, same_Some}
use Rattle.string_interner.specs.Text.{Text, IsDistinct, first}
use Rattle.string_interner.specs.Extend.{fresh, texts_of}
use Rattle.string_interner.proofs.Lemmas.Texts.First.{first_none, first_is, first_within}
use Rattle.string_interner.proofs.Lemmas.Interner.StandsFor.{one_entry}
use Rattle.string_column.specs.Column.{AreCodes, AppendsRows, dictionary_of, rows_of}
use Rattle.string_interner.specs.Numbering.{Numbering}
use Rattle.string_interner.specs.declared.backend.InternError.{InternError}
use Rattle.string_interner.specs.declared.backend.InternError.TheVariants.{NoSymbol as InternNoSymbol, Memory as InternMemory}
use Rattle.string_column.specs.declared.rows.parts.PartsError.{PartsError}
use Rattle.string_column.specs.Entries.{IsRefusal}
use Rattle.string_column.specs.Parts.{IsRepeat, IsEntryFault, IsMadeOf, refused}
use Rattle.string_column.proofs.Lemmas.AreNumbered.{slice_get-push}
use Rattle.string_column.proofs.Lemmas.Counts.{dictionary-distinct}
use Rattle.string_column.proofs.Lemmas.Rows.{dictionary-push, known-fresh}

-- codes that are indexes are those of the rows that they read
pub codes-are : (entries : List Text) (codes : List ℕ) → All (λ code. code < length entries) codes → AreCodes entries codes (rows_of entries codes)
codes-are entries [] within = tt
codes-are entries (code ∷ codes) within =
    (slice_get-get_or entries code [] (within 0 0 (omega arith)), codes-are entries codes (λ k d inside. within (suc k) d (omega arith)))

-- a text that is no entry is fresh
new-fresh : (entries : List Text) (text : Text) → first entries text ≡ None → fresh entries (text ∷ []) ≡ text ∷ []
new-fresh entries text e = ap (λ o. option_map_or (λ _. []) o (text ∷ [])) e

-- one row more, of an entry that a row had
pub ordered-known : (entries : List Text) (codes : List ℕ) (next row code : ℕ) → row < length codes → code ≡ get_or codes row 0 → code < next → next ≤ length entries
    → dictionary_of (rows_of entries (take row codes)) ≡ take next entries → dictionary_of (rows_of entries (take (row + 1) codes)) ≡ take next entries
ordered-known entries codes next row code inside at before within so_far =
    let text = get_or entries code [] in
    let long = length-take-le next entries within in
    let known : slice_get (take next entries) code ≡ Some text = slice_get-get_or (take next entries) code [] (omega (arith, long)) ∙ ap Some (get_or-take next entries code [] before) in
    ap dictionary_of (map_more (λ c. get_or entries c []) codes row 0 inside ∙ ap (λ c. rows_of entries (take row codes) ++ get_or entries c [] ∷ []) (sym at))
    ∙ dictionary-push (rows_of entries (take row codes)) text
    ∙ ap (λ all. all ++ fresh all (text ∷ [])) so_far
    ∙ ap (λ more. take next entries ++ more) (known-fresh (take next entries) code text known)
    ∙ append-nil (take next entries)

-- one row more, of the next entry
pub ordered-new : (entries : List Text) (codes : List ℕ) (next row code : ℕ) → IsDistinct entries → row < length codes → code ≡ get_or codes row 0 → code ≡ next → next < length entries
    → dictionary_of (rows_of entries (take row codes)) ≡ take next entries → dictionary_of (rows_of entries (take (row + 1) codes)) ≡ take (next + 1) entries
ordered-new entries codes next row code distinct inside at is within so_far =
    let text = get_or entries code [] in
    ap dictionary_of (map_more (λ c. get_or entries c []) codes row 0 inside ∙ ap (λ c. rows_of entries (take row codes) ++ get_or entries c [] ∷ []) (sym at))
    ∙ dictionary-push (rows_of entries (take row codes)) text
    ∙ ap (λ all. all ++ fresh all (text ∷ [])) so_far
    ∙ ap (λ more. take next entries ++ more) (new-fresh (take next entries) text (is-new (first (take next entries) text) refl))
    ∙ ap (λ c. take next entries ++ get_or entries c [] ∷ []) is
    ∙ sym (take_more entries next [] within)
  where
    is-new : (o : Option ℕ) → first (take next entries) (get_or entries code []) ≡ o → o ≡ None
    is-new None e = refl
    is-new (Some i) e =
        let before = first_within (take next entries) (get_or entries code []) i e in
        let long = length-take-le next entries (omega arith) in
        let below : i < next = omega arith in
        let same : get_or entries i [] ≡ get_or entries code [] = sym (get_or-take next entries i [] below) ∙ first_is (take next entries) (get_or entries code []) i e in
        absurd (distinct i next [] below within (same ∙ ap (λ c. get_or entries c []) is))

-- a text whose index is another than that of the next entry is repeated
pub repeat-is : (texts old new : List Text) (text : Text) (index found : ℕ) → old ≡ take index texts → slice_get texts index ≡ Some text → IsDistinct (take index texts) → slice_get new found ≡ Some text
    → new ≡ old ++ fresh old (text ∷ []) → found ≢ index → IsRepeat texts index
repeat-is texts old new text index found so_far is distinct at putting apart = record {
  entry = text;
  stands = is;
  repeats = of (first (take index texts) text) refl;
  distinct = distinct;
}
  where
    put : new ≡ take index texts ++ fresh (take index texts) (text ∷ [])
    put = putting ∙ ap (λ all. all ++ fresh all (text ∷ [])) so_far

    of : (o : Option ℕ) → first (take index texts) text ≡ o → IsSome o
    of (Some i) e = refl
    of None e =
        let within = slice_get_within texts index text is in
        let long = length-take-le index texts (omega arith) in
        let put_new : new ≡ take index texts ++ text ∷ [] = put ∙ ap (λ more. take index texts ++ more) (new-fresh (take index texts) text e) in
        let all : IsDistinct new = subst IsDistinct (sym put_new) (all_pairs_push (λ a b. a ≢ b) (take index texts) text distinct (first_none (take index texts) text e)) in
        let last : slice_get new (length (take index texts)) ≡ Some text = ap (λ xs. slice_get xs (length (take index texts))) put_new ∙ slice_get-push (take index texts) text in
        absurd (apart (one_entry new text found (length (take index texts)) all at last ∙ long))

-- and one whose index is that of the next entry is new
pub entry-more : (texts old new : List Text) (text : Text) (index found : ℕ) → old ≡ take index texts → slice_get texts index ≡ Some text → IsDistinct (take index texts) → slice_get new found ≡ Some text
    → new ≡ old ++ fresh old (text ∷ []) → found ≡ index → (new ≡ take (index + 1) texts) × IsDistinct (take (index + 1) texts)
entry-more texts old new text index found so_far is distinct at putting same = of (first (take index texts) text) refl
  where
    put : new ≡ take index texts ++ fresh (take index texts) (text ∷ [])
    put = putting ∙ ap (λ all. all ++ fresh all (text ∷ [])) so_far

    within : index < length texts
    within = slice_get_within texts index text is

    more : take (index + 1) texts ≡ take index texts ++ text ∷ []
    more = take_more texts index [] within ∙ ap (λ t. take index texts ++ t ∷ []) (get_or_from_slice_get texts index text [] is)

    of : (o : Option ℕ) → first (take index texts) text ≡ o → (new ≡ take (index + 1) texts) × IsDistinct (take (index + 1) texts)
    of None e = (
      put ∙ ap (λ all. take index texts ++ all) (new-fresh (take index texts) text e) ∙ sym more,
      subst IsDistinct (sym more) (all_pairs_push (λ a b. a ≢ b) (take index texts) text distinct (first_none (take index texts) text e)),
    )
    of (Some i) e =
        let long = length-take-le index texts (omega (arith, within)) in
        let known : new ≡ take index texts = put ∙ ap (λ o. take index texts ++ option_map_or (λ _. []) o (text ∷ [])) e ∙ append-nil (take index texts) in
        let inside = slice_get_within new found text at in absurd (omega (arith, ap length known))

-- a text that is read
pub text-at : (items : List (Bor Text)) (i : ℕ) (d : Bor Text) → i < length items → slice_get (texts_of items) i ≡ Some (get_or items i d).now
text-at items i d within =
    slice_get-get_or (texts_of items) i [] (omega (arith, length-map items (λ (b : Bor Text). b.now))) ∙ ap Some (get_or-map (λ (b : Bor Text). b.now) items i d [] within)

-- a row that is read
pub row-of : (entries : List Text) (codes : List ℕ) (row code : ℕ) (text : Text) → row < length codes → code ≡ get_or codes row 0 → slice_get entries code ≡ Some text → slice_get (rows_of entries codes) row ≡ Some text
row-of entries codes row code text inside at is =
    slice_get-get_or (rows_of entries codes) row [] (omega (arith, length-map codes (λ c. get_or entries c [])))
    ∙ ap Some (get_or-map (λ c. get_or entries c []) codes row 0 [] inside ∙ ap (λ c. get_or entries c []) (sym at) ∙ get_or_from_slice_get entries code text [] is)

-- what holds of old texts and of others holds of the fresh ones among these
fresh-all : (P : Text → Type 0) (old texts : List Text) → All P old → All P texts → All P (old ++ fresh old texts)
fresh-all P old [] before all = subst (All P) (sym (append-nil old)) before
fresh-all P old (text ∷ texts) before all =
    let rest : All P texts = λ k d inside. all (suc k) d (omega arith) in
    of (fresh-all P old texts before rest) (fresh-all P (old ++ text ∷ []) texts (All-push P old text before (all 0 text (omega arith))) rest) (first old text)
  where
    of : All P (old ++ fresh old texts) → All P ((old ++ text ∷ []) ++ fresh (old ++ text ∷ []) texts) → (o : Option ℕ)
        → All P (old ++ option_map_or (λ _. fresh old texts) o (text ∷ fresh (old ++ text ∷ []) texts))
    of known new (Some i) = known
    of known new None = subst (All P) (append_assoc old (text ∷ []) (fresh (old ++ text ∷ []) texts)) new

-- rows that are read are entries
pub rows-among : (entries : List Text) (codes : List ℕ) → All (λ code. code < length entries) codes → All (Contains entries) (rows_of entries codes)
rows-among entries codes within k d inside =
    let long = length-map codes (λ code. get_or entries code []) in
    let code = get_or codes k 0 in
    let row : get_or (rows_of entries codes) k d ≡ get_or entries code [] = get_or-map (λ c. get_or entries c []) codes k 0 d (omega (arith, long)) in
    let below : code < length entries = within k 0 (omega (arith, long)) in
    rw row (code, below, same_Some _ _ (sym (slice_get-get_or entries code (get_or entries code []) below) ∙ slice_get-get_or entries code [] below))

-- the entries before one are among them, and so is that one
pub front-among : (entries : List Text) (index : ℕ) (entry : Text) → slice_get entries index ≡ Some entry → All (Contains entries) (take index entries ++ entry ∷ [])
front-among entries index entry is =
    let within = slice_get_within entries index entry is in
    let long = length-take-le index entries (omega arith) in
    All-push (Contains entries) (take index entries) entry
    (λ k d inside. let before : k < index = omega (arith, long) in
    let read : get_or (take index entries) k d ≡ get_or entries k d = get_or-take index entries k d before in
    rw read (k, omega arith, same_Some _ _ (sym (slice_get-get_or entries k (get_or entries k d) (omega arith)) ∙ slice_get-get_or entries k d (omega arith))))
    (index, within, get_or_from_slice_get entries index entry entry is)

-- of rows that are entries, those before one that is refused are so with their dictionary
pub refused-among : (entries rows front : List Text) (refused : Text) (rest : List Text) → All (Contains entries) rows → rows ≡ front ++ refused ∷ rest → All (Contains entries) (dictionary_of front ++ refused ∷ [])
refused-among entries rows front refused rest all is =
    let whole : All (Contains entries) (front ++ refused ∷ rest) = subst (All (Contains entries)) is all in
    let parts = split front whole in
    All-push (Contains entries) (dictionary_of front) refused (fresh-all (Contains entries) [] front (λ k d inside. absurd (omega arith)) parts.0) parts.1
  where
    split : (xs : List Text) → All (Contains entries) (xs ++ refused ∷ rest) → All (Contains entries) xs × Contains entries refused
    split [] all = (λ k d inside. absurd (omega arith), all 0 refused (omega arith))
    split (x ∷ xs) all =
        let more = split xs (λ k d inside. all (suc k) d (omega arith)) in (cons x xs (all 0 x (omega arith)) more.0, more.1)
      where
        cons : (y : Text) (ys : List Text) → Contains entries y → All (Contains entries) ys → All (Contains entries) (y ∷ ys)
        cons y ys head others zero d inside = head
        cons y ys head others (suc k) d inside = others k d (omega arith)

module _ {S : Type 0} (numbering : Numbering S) where
  -- an entry that an interner refuses
  pub refused-entry : (entries texts : List Text) (index : ℕ) (entry : Text) (outcome : Result (Unit {0}) PartsError) (reason : InternError) → IsErrAnd outcome (λ error. error ≡ refused reason)
      → texts ≡ take index entries → slice_get entries index ≡ Some entry → IsDistinct (take index entries) → IsRefusal numbering texts entry reason → IfErr outcome (IsEntryFault numbering entries)
  refused-entry entries texts index entry (Ok done) reason error so_far is distinct refusal = tt
  refused-entry entries texts index entry (Err given) InternNoSymbol error so_far is distinct refusal =
      rw error (texts, entry, subst IsDistinct (sym so_far) distinct, subst (λ all. All (Contains entries) (all ++ entry ∷ [])) (sym so_far) (front-among entries index entry is), refusal)
  refused-entry entries texts index entry (Err given) (InternMemory failed) error so_far is distinct refusal = rw error tt

  -- a row of the entries that an interner refuses
  pub refused-row : (entries : List Text) (codes : List ℕ) (made new : List Text) (outcome : Result (List Text) PartsError) (reason : InternError) → IsErrAnd outcome (λ error. error ≡ refused reason)
      → All (λ code. code < length entries) codes → made ≡ [] → AppendsRows numbering made (rows_of entries codes) (Err reason) new → IsMadeOf numbering entries codes outcome
  refused-row entries codes made new (Ok done) reason error within empty appends = absurd error
  refused-row entries codes made new (Err given) (InternMemory failed) error within empty appends = rw error tt
  refused-row entries codes made new (Err given) InternNoSymbol error within empty (front, row, rest, is, put, refusal) =
      let rows : new ≡ front = put ∙ ap (λ all. all ++ front) empty in
      rw error (dictionary_of front, row, dictionary-distinct front, refused-among entries (rows_of entries codes) front row rest (rows-among entries codes within) is, subst (λ all. IsRefusal numbering (dictionary_of all) row InternNoSymbol) rows refusal)
