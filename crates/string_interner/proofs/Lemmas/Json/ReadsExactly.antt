-- Reading the elements of an array that are all different.
use Rattle.std.proofs.Common.{◌≡◌, ℕ, ◌+◌, List, [], ◌∷◌, ◌++◌, length, map, refl, sym, ap, subst, ◌∙◌, arith, Option, Some, None, Result, Ok, Err}
use Rattle.std.specs.Prelude.{◌≢◌, MatchOption, MatchResult}
use Rattle.std.proofs.lemmas.List.{append_assoc, append-nil, length_push}
use Rattle.serde_json.specs.Data.{Data, null, boolean, number, string, array, object, Items, no_items, item}
use Rattle.serde_json.specs.Find.{as_str}
use Rattle.serde_json.specs.View.{items_of}
use Rattle.string_interner.specs.Text.{Text, IsDistinct, first}
use Rattle.string_interner.specs.Backend.{Appends}
use Rattle.string_interner.specs.Interner.{InternerContents, Interns, entry_symbol}
use Rattle.string_interner.specs.Json.{json_of_texts, refused, ReadsElements, ReadsElementsExactly, ReadsArrayExactly, ReadsBack}
use Rattle.string_interner.specs.declared.backend.InternError.{InternError}
use Rattle.string_interner.specs.declared.json.JsonError.{JsonError}
use Rattle.string_interner.specs.declared.json.JsonError.TheVariants.{NotAText, Repeated}
use Rattle.string_interner.proofs.Lemmas.Json.Reads.{new_text, gives_back}
use Rattle.string_interner.specs.Numbering.{Numbering}

module _ {S : Type 0} (numbering : Numbering S) where
  -- an interning that answers and lengthens the list puts a new text last
  pub lengthened : (old : List Text) (text : Text) (symbol : S) (new : List Text) → Interns numbering old text (Ok symbol) new → length new ≢ length old → (first old text ≡ None) × Appends numbering.symbol_of numbering.place old text (Ok symbol) new
  lengthened old text symbol new interns longer = of (first old text) interns
    where
      of : (o : Option ℕ) → MatchOption o (Appends numbering.symbol_of numbering.place old text (Ok symbol) new) (λ i. (entry_symbol numbering old i ≡ Some symbol) × (new ≡ old)) → (o ≡ None) × Appends numbering.symbol_of numbering.place old text (Ok symbol) new
      of None put = (refl, put)
      of (Some i) known = absurd (longer (ap length known.1))

  -- one that answers and does not finds an entry
  not_lengthened : (old : List Text) (text : Text) (symbol : S) (new : List Text) → Interns numbering old text (Ok symbol) new → length new ≡ length old → (i : ℕ) × (first old text ≡ Some i)
  not_lengthened old text symbol new interns same = of (first old text) interns
    where
      of : (o : Option ℕ) → MatchOption o (Appends numbering.symbol_of numbering.place old text (Ok symbol) new) (λ i. (entry_symbol numbering old i ≡ Some symbol) × (new ≡ old)) → (i : ℕ) × (o ≡ Some i)
      of None put = absurd (omega (arith, ap length put.1, length_push old text, same))
      of (Some i) known = (i, refl)

  -- a text that is refused is new
  refused_new : (old : List Text) (text : Text) (error : InternError) (new : List Text) → Interns numbering old text (Err error) new → (first old text ≡ None) × Appends numbering.symbol_of numbering.place old text (Err error) new
  refused_new old text error new interns = of (first old text) interns
    where
      of : (o : Option ℕ) → MatchOption o (Appends numbering.symbol_of numbering.place old text (Err error) new) (λ i. ⊥ × (new ≡ old)) → (o ≡ None) × Appends numbering.symbol_of numbering.place old text (Err error) new
      of None put = (refl, put)
      of (Some i) known = absurd known.0

  module _ (old : List Text) (i : ℕ) (element : Data) (rest all : Items) (outcome : Result InternerContents JsonError) (is : all ≡ item element rest) where
    -- the next element is no string
    pub exact_no_text : as_str element ≡ None → outcome ≡ Err (NotAText i) → ReadsElementsExactly numbering old i all outcome
    exact_no_text none e = rw (is, none) e

    module _ (text : Text) (is_text : as_str element ≡ Some text) where
      -- it is a string that is refused
      pub exact_refused : (error : InternError) (mid : List Text) → Interns numbering old text (Err error) mid → outcome ≡ Err (refused error) → ReadsElementsExactly numbering old i all outcome
      exact_refused error mid interns e = let new = refused_new old text error mid interns in rw (is, is_text, new.0) (Err error, mid, new.1, e)

      -- it is a string that does not lengthen the list
      pub exact_repeated : (symbol : S) (mid : List Text) → Interns numbering old text (Ok symbol) mid → length mid ≡ length old → outcome ≡ Err (Repeated i) → ReadsElementsExactly numbering old i all outcome
      exact_repeated symbol mid interns same e = let known = not_lengthened old text symbol mid interns same in rw (is, is_text, known.1) e

      -- it is a string that goes last, and reading goes on
      pub exact_more : (symbol : S) (mid : List Text) → (first old text ≡ None) × Appends numbering.symbol_of numbering.place old text (Ok symbol) mid → ReadsElementsExactly numbering mid (i + 1) rest outcome → ReadsElementsExactly numbering old i all outcome
      exact_more symbol mid new more = rw (is, is_text, new.0) (Ok symbol, mid, new.1, more)

  -- where reading answers, it went on with the next text last
  exact_next : (old : List Text) (text : Text) (o : Option ℕ) (i : ℕ) (interner : InternerContents) (More : List Text → Type 0)
      → MatchOption o ((interned : Result S InternError) × (mid : List Text) × Appends numbering.symbol_of numbering.place old text interned mid × MatchResult interned (λ _. More mid) (λ error. Ok interner ≡ Err (refused error))) (λ _. Ok interner ≡ Err (Repeated i))
      → More (old ++ text ∷ [])
  exact_next old text None i interner More (Ok symbol, mid, put, more) = subst More put.1 more
  exact_next old text None i interner More (Err error, mid, put, e) = absurd (cc)
  exact_next old text (Some k) i interner More e = absurd (cc)

  -- where reading answers, the elements are the strings that were put behind the old list
  exact_rest : (old : List Text) (i : ℕ) (items : Items) (interner : InternerContents) → ReadsElementsExactly numbering old i items (Ok interner) → (texts : List Text) × (interner.texts ≡ old ++ texts) × (items ≡ items_of (map string texts))
  exact_rest old i no_items interner read = ([], read ∙ sym (append-nil old), refl)
  exact_rest old i (item (string text) rest) interner read =
      let more = exact_next old text (first old text) i interner (λ mid. ReadsElementsExactly numbering mid (i + 1) rest (Ok interner)) read in
      let r = exact_rest (old ++ text ∷ []) (i + 1) rest interner more in
      (text ∷ r.0, r.1 ∙ append_assoc old (text ∷ []) r.0, ap (item (string text)) r.2)
  exact_rest old i (item null rest) interner read = absurd (cc)
  exact_rest old i (item (boolean b) rest) interner read = absurd (cc)
  exact_rest old i (item (number n) rest) interner read = absurd (cc)
  exact_rest old i (item (array items) rest) interner read = absurd (cc)
  exact_rest old i (item (object _) rest) interner read = absurd (cc)

  -- so the value is their JSON form
  pub exact_form : (value : Data) (interner : InternerContents) → ReadsArrayExactly numbering value (Ok interner) → value ≡ json_of_texts interner.texts
  exact_form (array items) interner read = let r = exact_rest [] 0 items interner read in ap array (r.2 ∙ ap (λ texts. items_of (map string texts)) (sym r.1))
  exact_form null interner read = absurd (cc)
  exact_form (boolean b) interner read = absurd (cc)
  exact_form (number n) interner read = absurd (cc)
  exact_form (string s) interner read = absurd (cc)
  exact_form (object _) interner read = absurd (cc)

  -- a list of distinct texts is read alike with and without repeats allowed
  exact_reads : (front texts : List Text) (i : ℕ) (outcome : Result InternerContents JsonError) → IsDistinct (front ++ texts)
      → ReadsElementsExactly numbering front i (items_of (map string texts)) outcome → ReadsElements numbering front i (items_of (map string texts)) outcome
  exact_reads front [] i outcome distinct read = read
  exact_reads front (text ∷ texts) i outcome distinct read =
      let new = new_text front text texts distinct in
      let now = rw new at read in
      let behind : (front ++ text ∷ []) ++ texts ≡ front ++ text ∷ texts = append_assoc front (text ∷ []) texts in
      (now.0, now.1, rw new now.2, goes_on now.0 now.1 now.2 now.3 (λ more. exact_reads (front ++ text ∷ []) texts (i + 1) outcome (subst IsDistinct (sym behind) distinct) more))
    where
      goes_on : (interned : Result S InternError) (mid : List Text) → Appends numbering.symbol_of numbering.place front text interned mid
          → MatchResult interned (λ _. ReadsElementsExactly numbering mid (i + 1) (items_of (map string texts)) outcome) (λ error. outcome ≡ Err (refused error))
          → (ReadsElementsExactly numbering (front ++ text ∷ []) (i + 1) (items_of (map string texts)) outcome → ReadsElements numbering (front ++ text ∷ []) (i + 1) (items_of (map string texts)) outcome)
          → MatchResult interned (λ _. ReadsElements numbering mid (i + 1) (items_of (map string texts)) outcome) (λ error. outcome ≡ Err (refused error))
      goes_on (Err error) mid put e on = e
      goes_on (Ok symbol) mid put more on = rw put.1 (on (rw put.1 at more))

  -- what was written is given back by reading exactly too
  pub exact_reads_back : (value : Data) (outcome : Result InternerContents JsonError) → ReadsArrayExactly numbering value outcome → ReadsBack numbering value outcome
  exact_reads_back value outcome reads texts are is =
      let read = rw is at reads in
      gives_back numbering (json_of_texts texts) outcome (exact_reads [] texts 0 outcome are.distinct read) texts are.distinct are.valid refl
