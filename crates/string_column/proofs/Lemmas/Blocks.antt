-- A block of texts: what interning them together leaves, and the rows that they become.
use Rattle.std.proofs.Common.{◌≡◌, ℕ, ◌<◌, ◌≤◌, List, [], ◌∷◌, ◌++◌, length, map, take, Result, Ok, Err, Option, Some, None, refl, sym, ap, subst, ◌∙◌, arith, Bor}
use Rattle.std.specs.Prelude.{◌^◌, ◌≢◌, IsOk, MatchOption, MatchResult}
use Rattle.std.specs.declared.alloc.AllocError.{AllocError}
use Rattle.std.proofs.lemmas.List.{append-nil, append_assoc, length-append, length-map, map-append, take_at, take_all, take-map, take-take, length-take-le}
use Rattle.string_interner.specs.Text.{Text, IsDistinct, first}
use Rattle.string_interner.specs.Numbering.{Numbering}
use Rattle.string_interner.specs.SlotRule.{SlotRule}
use Rattle.string_interner.specs.Interner.{InternerContents, Interns}
use Rattle.string_interner.specs.StandsFor.{StandInOrder}
use Rattle.string_interner.specs.Extend.{fresh, texts_of, StopsAt}
use Rattle.string_interner.specs.InternAll.{InternsFront, InternsSlice, Lists}
use Rattle.string_interner.specs.declared.backend.InternError.{InternError}
use Rattle.string_interner.specs.declared.interner.intern_slice.Stopped.{Stopped}
use Rattle.string_interner.specs.declared.backend.InternError.TheVariants.{NoSymbol, Memory}
use Rattle.string_interner.proofs.Laws.{refused-keeps}
use Rattle.string_interner.proofs.Lemmas.Interner.Extends.{all-fresh, fresh-append}
use Rattle.string_interner.proofs.Lemmas.Interner.InternsEach.{split-at}
use Rattle.string_column.specs.Entries.{AreNumbered, IsRefusal}
use Rattle.string_column.specs.Column.{AreCodes, IsColumn, AppendsYielded, dictionary_of, rows_of}
use Rattle.string_column.specs.Ahead.{IsAhead, PutsRows, TakesRows}
use Rattle.string_column.proofs.Lemmas.Counts.{fresh-distinct}
use Rattle.string_column.proofs.Lemmas.Rows.{codes-append, codes-stay, column-read}

-- a list that is not empty has an element
not-empty : {X : Type 0} (xs : List X) → xs ≢ [] → 0 < length xs
not-empty [] not = absurd (not refl)
not-empty (x ∷ xs) not = omega arith

-- the front of a front
front-of : {X : Type 0} (n m : ℕ) (xs ys all : List X) → n ≡ length xs → n ≤ m → take m all ≡ xs ++ ys → take n all ≡ xs
front-of n m xs ys all is upto parts = sym (take-take n m all upto) ∙ ap (λ list. take n list) parts ∙ take_at xs ys n (sym is)

module _ {S : Type 0} (numbering : Numbering S) (rule : SlotRule) where
  -- the texts are interned in order, all of them or those before the first that fails, and these are the numbers of their symbols
  abbrev pub Interned : List (Bor Text) → InternerContents → InternerContents → List ℕ → List ℕ → ℕ → Result (Unit {0}) InternError → Type 0
  Interned texts old new before numbers done outcome = (mid : InternerContents) × InternsFront numbering rule old before texts done mid numbers × MatchResult outcome
      (λ _. (done ≡ length texts) × (new ≡ mid))
      (λ error. (refused : Bor Text) × (rest : List (Bor Text)) × (texts ≡ take done texts ++ refused ∷ rest) × StopsAt numbering rule old (texts_of (take done texts)) mid refused.now error new)

  -- so a slice is interned
  pub slice-interned : (texts : List (Bor Text)) (old new : InternerContents) (before numbers : List ℕ) (outcome : Result (Unit {0}) Stopped) (ended : ℕ × Result (Unit {0}) InternError)
      → InternsSlice numbering rule texts (old, before) outcome (new, numbers) → MatchResult outcome (λ _. ended ≡ (length texts, Ok tt)) (λ stopped. ended ≡ (stopped.done, Err stopped.error))
      → Interned texts old new before numbers ended.0 ended.1
  slice-interned texts old new before numbers (Ok _) ended front is = rw is (new, front, (refl, refl))
  slice-interned texts old new before numbers (Err stopped) ended slice is = rw is (slice.0, slice.1, (slice.2, slice.3, slice.4, slice.5))

  -- the interner has the texts that were interned, and no other new ones
  slice-texts : (old mid new : InternerContents) (texts : List (Bor Text)) (done : ℕ) (outcome : Result (Unit {0}) InternError)
      → MatchResult outcome (λ _. (done ≡ length texts) × (new ≡ mid))
      (λ error. (refused : Bor Text) × (rest : List (Bor Text)) × (texts ≡ take done texts ++ refused ∷ rest) × StopsAt numbering rule old (texts_of (take done texts)) mid refused.now error new)
      → new.texts ≡ mid.texts
  slice-texts old mid new texts done (Ok _) ended = ap (λ (i : InternerContents). i.texts) ended.1
  slice-texts old mid new texts done (Err error) ended = refused-keeps numbering mid.texts new.texts ended.0.now error ended.3.refuses.interns

  -- and the symbols of the texts are to be listed
  pub slice-ahead : (texts : List (Bor Text)) (old new : InternerContents) (before numbers : List ℕ) (done : ℕ) (outcome : Result (Unit {0}) InternError) (symbols : List S)
      → Interned texts old new before numbers done outcome → IsDistinct old.texts → AreNumbered numbering old.texts symbols → numbering.place new.texts < 2 ^ 64
      → IsAhead numbering old.texts new.texts symbols (texts_of (take done texts)) (take done numbers)
  slice-ahead texts old new before numbers done outcome symbols interns distinct are fits =
      let mid = interns.0 in
      let front = interns.1 in
      let same : new.texts ≡ mid.texts = slice-texts old mid new texts done outcome interns.2 in
      let grown : new.texts ≡ old.texts ++ fresh old.texts (texts_of (take done texts)) = same ∙ all-fresh numbering old.texts (texts_of (take done texts)) mid.texts front.appends.taken.interned in
      record {
        distinct = rw grown (fresh-distinct old.texts (texts_of (take done texts)) distinct);
        numbered = are;
        new = grown;
        fits = fits;
        pending = front.appends.added;
        stand = subst (λ (entries : List Text). StandInOrder numbering entries front.appends.added (texts_of (take done texts))) (sym same) front.appends.stand;
        numbers_are = front.numbers_are ∙ ap (map numbering.number) front.appends.appended;
      }

  -- a text that is refused has no symbol, or there is no memory
  refusal : (entries new : List Text) (text : Text) (error : InternError) → Interns numbering entries text (Err error) new → IsRefusal numbering entries text error
  refusal entries new text (Memory e) interns = tt
  refusal entries new text NoSymbol interns = of (first entries text) refl interns
    where
      of : (o : Option ℕ) → first entries text ≡ o → MatchOption o ((numbering.symbol_of (numbering.place entries) ≡ None) × (new ≡ entries)) (λ i. ⊥ × (new ≡ entries)) → IsRefusal numbering entries text NoSymbol
      of None e put = record { is_new = e; none_left = put.0 }
      of (Some i) e known = absurd known.0

  -- where all codes are put last, the call ends as interning did
  pub block-put : (texts : List (Bor Text)) (old new : InternerContents) (before numbers : List ℕ) (done : ℕ) (outcome : Result (Unit {0}) InternError) (codes longer : List ℕ) (symbols : List S) (written : Result (Unit {0}) AllocError)
      → Interned texts old new before numbers done outcome → written ≡ Ok tt → TakesRows numbering old.texts new.texts (texts_of (take done texts)) codes written (symbols, longer)
      → AreNumbered numbering new.texts symbols × PutsRows numbering texts (old.texts, codes) outcome (new.texts, longer)
  block-put texts old new before numbers done outcome codes longer symbols written interns ok takes =
      let ended = subst (λ (o : Result (Unit {0}) AllocError). MatchResult o (λ _. takes.1 ≡ []) (λ _. takes.1 ≢ [])) ok takes.8 in
      let all : texts_of (take done texts) ≡ takes.0 = takes.4 ∙ ap (λ rest. takes.0 ++ rest) ended ∙ append-nil takes.0 in
      let entries = old.texts ++ fresh old.texts takes.0 in
      let listed : new.texts ≡ entries = takes.7.new ∙ ap (λ rest. entries ++ fresh entries rest) ended ∙ append-nil entries in (
        subst (λ list. AreNumbered numbering list symbols) (sym listed) takes.7.numbered,
        (
          take done texts,
          takes.2,
          listed ∙ ap (λ ts. old.texts ++ fresh old.texts ts) (sym all),
          takes.5,
          subst (λ ts. AreCodes new.texts takes.2 ts) (sym all) (subst (λ list. AreCodes list takes.2 takes.0) (sym listed) takes.6),
          of outcome interns.2,
        ),
      )
    where
      of : (o : Result (Unit {0}) InternError) → MatchResult o (λ _. (done ≡ length texts) × (new ≡ interns.0))
          (λ error. (refused : Bor Text) × (rest : List (Bor Text)) × (texts ≡ take done texts ++ refused ∷ rest) × StopsAt numbering rule old (texts_of (take done texts)) interns.0 refused.now error new)
          → MatchResult o (λ _. Lists texts (take done texts) None)
          (λ error. (refused : Bor Text) × Lists texts (take done texts) (Some refused) × IsRefusal numbering new.texts refused.now error)
      of (Ok _) end = sym (take_all done texts (omega (arith, end.0)))
      of (Err error) end =
          let same = refused-keeps numbering interns.0.texts new.texts end.0.now error end.3.refuses.interns in
          (end.0, (end.1, end.2), subst (λ (list : List Text). IsRefusal numbering list end.0.now error) (sym same) (refusal interns.0.texts new.texts end.0.now error end.3.refuses.interns))

  -- where memory is missing for a code, the texts behind it are dropped
  pub block-dropped : (texts : List (Bor Text)) (old new : InternerContents) (before numbers : List ℕ) (done : ℕ) (outcome : Result (Unit {0}) InternError) (codes longer : List ℕ) (symbols : List S)
      (written : Result (Unit {0}) AllocError) (error : AllocError) (kept : List Text)
      → Interned texts old new before numbers done outcome → written ≡ Err error → TakesRows numbering old.texts new.texts (texts_of (take done texts)) codes written (symbols, longer)
      → kept ≡ take (length symbols) new.texts → AreNumbered numbering kept symbols × PutsRows numbering texts (old.texts, codes) (Err (Memory error)) (kept, longer)
  block-dropped texts old new before numbers done outcome codes longer symbols written error kept interns stopped takes is =
      let ended = subst (λ (o : Result (Unit {0}) AllocError). MatchResult o (λ _. takes.1 ≡ []) (λ _. takes.1 ≢ [])) stopped takes.8 in
      let taken = takes.0 in
      let entries = old.texts ++ fresh old.texts taken in
      let kept_is : kept ≡ entries = is ∙ ap (λ list. take (length symbols) list) takes.7.new ∙ take_at entries (fresh entries takes.1) (length symbols) (sym takes.7.numbered.count) in
      let parts : take done (texts_of texts) ≡ taken ++ takes.1 = take-map (λ (b : Bor Text). b.now) done texts ∙ takes.4 in
      let long = ap length parts ∙ length-append taken takes.1 in
      let upto = length-take-le done (texts_of texts) (let w = interns.1.within in omega (arith, w, length-map texts (λ (b : Bor Text). b.now))) in
      let some : 0 < length takes.1 = not-empty takes.1 ended in
      let front : texts_of (take (length taken) texts) ≡ taken = sym (take-map (λ (b : Bor Text). b.now) (length taken) texts) ∙ front-of (length taken) done taken takes.1 (texts_of texts) refl (omega (arith, long, upto)) parts in
      let split = split-at texts (length taken) (let w = interns.1.within in omega (arith, w, long, upto, some)) in (
        subst (λ list. AreNumbered numbering list symbols) (sym kept_is) takes.7.numbered,
        (
          take (length taken) texts,
          takes.2,
          kept_is ∙ ap (λ ts. old.texts ++ fresh old.texts ts) (sym front),
          takes.5,
          subst (λ ts. AreCodes kept takes.2 ts) (sym front) (subst (λ list. AreCodes list takes.2 taken) (sym kept_is) takes.6),
          (split.0, (split.1, split.2), tt),
        ),
      )

-- the rows of a block are put last
pub rows-put : {S : Type 0} (numbering : Numbering S) (texts : List (Bor Text)) (old new : List Text) (codes longer : List ℕ) (rows : List Text) (outcome : Result (Unit {0}) InternError)
    → IsColumn old codes rows → PutsRows numbering texts (old, codes) outcome (new, longer)
    → IsColumn new longer (rows_of new longer) × AppendsYielded numbering (Lists texts) rows outcome (rows_of new longer)
rows-put numbering texts old new codes longer rows outcome is puts =
    let front = texts_of puts.0 in
    let added : IsColumn new (codes ++ puts.1) (rows ++ front) = record {
      codes_are = codes-append new codes puts.1 rows front (subst (λ list. AreCodes list codes rows) (sym puts.2) (codes-stay old (fresh old front) codes rows is.codes_are)) puts.4;
      dictionary_is = puts.2 ∙ ap (λ entries. entries ++ fresh entries front) is.dictionary_is ∙ sym (fresh-append [] rows front);
    } in
    let read = column-read new longer (rows ++ front) (subst (λ all. IsColumn new all (rows ++ front)) (sym puts.3) added) in
    (read.0, (puts.0, read.1, of read.0.dictionary_is outcome puts.5))
  where
    of : new ≡ dictionary_of (rows_of new longer) → (o : Result (Unit {0}) InternError) → MatchResult o (λ _. Lists texts puts.0 None) (λ error. (refused : Bor Text) × Lists texts puts.0 (Some refused) × IsRefusal numbering new refused.now error)
        → MatchResult o (λ _. Lists texts puts.0 None) (λ error. (refused : Bor Text) × Lists texts puts.0 (Some refused) × IsRefusal numbering (dictionary_of (rows_of new longer)) refused.now error)
    of same (Ok _) end = end
    of same (Err error) end = (end.0, end.1, subst (λ (list : List Text). IsRefusal numbering list end.0.now error) same end.2)

module _ {S : Type 0} (numbering : Numbering S) where
  -- the rows of a block are put behind those that are there
  pub rows-more : (old self new : List Text) (done block : List (Bor Text)) (outcome : Result (Unit {0}) InternError) → outcome ≡ Ok tt → self ≡ old ++ texts_of done
      → AppendsYielded numbering (Lists block) self outcome new → new ≡ old ++ texts_of (done ++ block)
  rows-more old self new done block outcome ok is puts =
      let all = subst (λ (o : Result (Unit {0}) InternError). MatchResult o (λ _. block ≡ puts.0) (λ error. (refused : Bor Text) × Lists block puts.0 (Some refused) × IsRefusal numbering (dictionary_of new) refused.now error)) ok puts.2 in
      puts.1 ∙ ap (λ rows. rows ++ texts_of puts.0) is ∙ append_assoc old (texts_of done) (texts_of puts.0)
      ∙ ap (λ rows. old ++ rows) (sym (map-append (λ (b : Bor Text). b.now) done puts.0)) ∙ ap (λ items. old ++ texts_of (done ++ items)) (sym all)

  -- and so with the last block
  pub rows-last : (yields : List (Bor Text) → Option (Bor Text) → Type 0) (old self new : List Text) (done block : List (Bor Text)) (outcome : Result (Unit {0}) InternError)
      → (IsOk outcome → yields (done ++ block) None) → ((front : List (Bor Text)) (item : Bor Text) (rest : List (Bor Text)) → block ≡ front ++ item ∷ rest → yields (done ++ front) (Some item))
      → self ≡ old ++ texts_of done → AppendsYielded numbering (Lists block) self outcome new → AppendsYielded numbering yields old outcome new
  rows-last yields old self new done block (Ok u) ends stops is puts =
      (done ++ block, rows-more old self new done block (Ok u) refl is puts, ends refl)
  rows-last yields old self new done block (Err error) ends stops is (front, put, (item, (rest, goes_on), why)) = (
    done ++ front,
    put ∙ ap (λ rows. rows ++ texts_of front) is ∙ append_assoc old (texts_of done) (texts_of front) ∙ ap (λ rows. old ++ rows) (sym (map-append (λ (b : Bor Text). b.now) done front)),
    (item, stops front item rest goes_on, why),
  )

  -- where a block ended with an error
  pub rows-stopped : (yields : List (Bor Text) → Option (Bor Text) → Type 0) (old self new : List Text) (done block : List (Bor Text)) (error : InternError) (outcome : Result (Unit {0}) InternError) → outcome ≡ Err error
      → ((front : List (Bor Text)) (item : Bor Text) (rest : List (Bor Text)) → block ≡ front ++ item ∷ rest → yields (done ++ front) (Some item))
      → self ≡ old ++ texts_of done → AppendsYielded numbering (Lists block) self (Err error) new → AppendsYielded numbering yields old outcome new
  rows-stopped yields old self new done block error outcome e stops is puts = rw e (rows-last yields old self new done block (Err error) (λ ok. absurd (cc)) stops is puts)
