-- Interning text after text into a list of their symbols.
use Rattle.std.proofs.Common.{◌≡◌, ℕ, ◌+◌, ◌-◌, ◌≤◌, ◌<◌, zero, suc, List, [], ◌∷◌, ◌++◌, length, map, take, drop, set, get_or, refl, sym, ap, subst, ◌∙◌, arith, inl, inr, Option, Some, None, Ok, Err, Bor}
use Rattle.std.specs.Prelude.{◌^◌, Result, Vec, IsOk, IfSome, option_and_then, vec_capacity}
use Rattle.std.specs.declared.alloc.Global.{Global}
use Rattle.std.proofs.lemmas.List.{append_assoc, append-nil, get_or-drop, get_or-take, get_or_append_left, length-drop, length-take-le, map_push, map-append, take_more, take_more_set, take_all, length-set, get_or-set_other}
use Rattle.string_interner.specs.Text.{Text}
use Rattle.string_interner.specs.SlotRule.{SlotRule, IsLoaded, GrowsFor, IsSlotRule}
use Rattle.string_interner.specs.Interner.{InternerContents, InternsInto}
use Rattle.string_interner.specs.StandsFor.{StandsFor, KeepsSymbols, StandInOrder, none, next}
use Rattle.string_interner.specs.Extend.{texts_of, IsMemory}
use Rattle.string_interner.specs.InternAll.{AppendsSymbols, InternsEach, InternsFront, InternsSlice, Lists, LooksAhead, AreCodes, AreKnown, IsKnown}
use Rattle.string_interner.proofs.Lemmas.Index.SlotRule.{grown-more, GrowsFor-joined}
use Rattle.string_interner.proofs.Lemmas.Interner.Extends.{item-taken, interned-slots, stopped, taken-append, all-longer}
use Rattle.string_interner.specs.declared.backend.InternError.{InternError}
use Rattle.string_interner.specs.declared.interner.look_ahead.Ahead.{Ahead}
use Rattle.string_interner.specs.declared.interner.intern_slice.Stopped.{Stopped}
use Rattle.string_interner.specs.Numbering.{Numbering}

-- a list goes on with each of its items
pub split-at : {X : Type 0} (xs : List X) (i : ℕ) → i < length xs → (x : X) × (rest : List X) × (xs ≡ take i xs ++ x ∷ rest) × ((d : X) → get_or xs i d ≡ x)
split-at [] i within = absurd (omega arith)
split-at (x ∷ xs) zero within = (x, xs, refl, λ d. refl)
split-at (x ∷ xs) (suc i) within = let r = split-at xs i (omega arith) in (r.0, r.1, ap (λ l. x ∷ l) r.2, r.3)

-- the numbers of symbols name each of them
pub named-at : {X S : Type 0} (symbol_of : X → Option S) (numbers : List X) (list : List S) (at : ℕ) (d : X) → map symbol_of numbers ≡ map Some list → at < length numbers
    → (s : S) × (symbol_of (get_or numbers at d) ≡ Some s) × (take (suc at) list ≡ take at list ++ s ∷ [])
named-at symbol_of [] list at d are within = absurd (omega arith)
named-at symbol_of (n ∷ ns) [] at d are within = absurd (cc)
named-at symbol_of (n ∷ ns) (s ∷ list) zero d are within = (s, cc, refl)
named-at symbol_of (n ∷ ns) (s ∷ list) (suc at) d are within = let r = named-at symbol_of ns list at d (cc) (omega arith) in (r.0, r.1, ap (λ l. s ∷ l) r.2)

-- items whose last ones wait in the front of a block go on with one more
pub waits-more : {X : Type 0} (items done block : List X) (len : ℕ) (x : X) → items ≡ done ++ take len block → len < length block → items ++ x ∷ [] ≡ done ++ take (len + 1) (set block len x)
waits-more items done block len x is room = ap (λ xs. xs ++ x ∷ []) is ∙ append_assoc done (take len block) (x ∷ []) ∙ ap (λ xs. done ++ xs) (sym (take_more_set block len x room))

-- the same where the item fills the block
pub filled : {X : Type 0} (items done block : List X) (len : ℕ) (x : X) → items ≡ done ++ take len block → len + 1 ≡ length block → items ++ x ∷ [] ≡ done ++ set block len x
filled items done block len x is full =
    waits-more items done block len x is (omega (arith, full)) ∙ ap (λ xs. done ++ xs) (take_all (len + 1) (set block len x) (omega (arith, full, length-set block len x)))

module _ {S : Type 0} (numbering : Numbering S) where
  -- what is known of a text is known of it later
  known-kept : (symbol_of : ℕ → Option S) (start now : List Text) → KeepsSymbols numbering start now → (text : Text) (known : Option ℕ) → IsKnown symbol_of numbering start text known → IsKnown symbol_of numbering now text known
  known-kept symbol_of start now keeps text None is = tt
  known-kept symbol_of start now keeps text (Some number) is = of (symbol_of number) is
    where
      of : (o : Option S) → IfSome o (λ symbol. StandsFor numbering start symbol text) → IfSome o (λ symbol. StandsFor numbering now symbol text)
      of None h = tt
      of (Some symbol) h = keeps symbol text h

  -- what was found ahead is known later
  pub ahead-kept : (code : Text → ℕ) (symbol_of : ℕ → Option S) (was now : List Text) → KeepsSymbols numbering was now → (texts : List (Bor Text)) (at : ℕ) (ahead : Ahead)
      → LooksAhead code symbol_of numbering was texts at ahead → LooksAhead code symbol_of numbering now texts (at + 1) ahead
  ahead-kept code symbol_of was now keeps texts at ahead is = record {
    begun = let b = is.begun in omega (arith, b);
    within = is.within;
    few = is.few;
    codes_are = is.codes_are;
    known_are = λ k above below text. known-kept symbol_of was now keeps (get_or texts k text).now (get_or ahead.known (k - ahead.start) None) (is.known_are k above below text);
  }

  -- after a block was looked up, whose codes and numbers were written to the front of two lists
  pub looks-ahead : (code : Text → ℕ) (symbol_of : ℕ → Option S) (entries : List Text) (texts : List (Bor Text)) (at end again : ℕ) (codes written : List ℕ) (known found : List (Option ℕ))
      → at ≤ end → end ≤ length texts → end ≤ at + 32 → length codes ≡ 32 → length known ≡ 32 → length written ≡ length (take (end - at) codes) → length found ≡ length (take (end - at) known)
      → AreCodes code (take (end - at) (drop at texts)) written → AreKnown symbol_of numbering entries (take (end - at) (drop at texts)) found
      → LooksAhead code symbol_of numbering entries texts at (record { start = at; end = end; next = again; codes = written ++ drop (end - at) codes; known = found ++ drop (end - at) known })
  looks-ahead code symbol_of entries texts at end again codes written known found ordered within few codes_count known_count written_count found_count are_codes are_known =
      let len = end - at in
      let codes_taken : length written ≡ len = written_count ∙ length-take-le len codes (omega (arith, few, codes_count)) in
      let known_taken : length found ≡ len = found_count ∙ length-take-le len known (omega (arith, few, known_count)) in
      let block_len : length (take len (drop at texts)) ≡ len = length-take-le len (drop at texts) (omega (arith, ordered, within, length-drop at texts)) in
      let same : (k : ℕ) → at ≤ k → k < end → (text : Bor Text) → get_or (take len (drop at texts)) (k - at) text ≡ get_or texts k text = λ k above below text.
      get_or-take len (drop at texts) (k - at) text (omega (arith, above, below)) ∙ get_or-drop at texts (k - at) text ∙ ap (λ (n : ℕ). get_or texts n text) (omega (arith, above)) in
      record {
        begun = omega arith;
        within = within;
        few = few;
        codes_are = λ k above below text. get_or_append_left written (drop len codes) 0 (k - at) (omega (arith, above, below, codes_taken))
            ∙ are_codes (k - at) (omega (arith, above, below, block_len)) text ∙ ap (λ (b : Bor Text). code b.now) (same k above below text);
        known_are = λ k above below text. subst (λ (o : Option ℕ). IsKnown symbol_of numbering entries (get_or texts k text).now o) (sym (get_or_append_left found (drop len known) None (k - at) (omega (arith, above, below, known_taken))))
            (subst (λ (b : Bor Text). IsKnown symbol_of numbering entries b.now (get_or found (k - at) None)) (same k above below text) (are_known (k - at) (omega (arith, above, below, block_len)) text));
      }

  -- the symbol with the number that is known of a text stands for it
  pub known-stands-for : (symbol_of : ℕ → Option S) (texts : List Text) (text : Text) (known : Option ℕ) (found : Option S) → IsKnown symbol_of numbering texts text known → found ≡ option_and_then symbol_of known
      → IfSome found (λ symbol. StandsFor numbering texts symbol text)
  known-stands-for symbol_of texts text None found h is = rw is tt
  known-stands-for symbol_of texts text (Some number) found h is = rw is h

  -- symbols that stand for texts still do where another is interned, and so does its own after them
  stand-more : (old new : List Text) → KeepsSymbols numbering old new → (symbols : List S) (texts : List Text) (symbol : S) (text : Text)
      → StandInOrder numbering old symbols texts → StandsFor numbering new symbol text → StandInOrder numbering new (symbols ++ symbol ∷ []) (texts ++ text ∷ [])
  stand-more old new keeps _ _ symbol text none is = next is none
  stand-more old new keeps _ _ symbol text (next {symbol = s} {text = t} {symbols = symbols} {rest = rest} first more) is = next (keeps s t first) (stand-more old new keeps symbols rest symbol text more is)

  -- and so do those of more texts
  stand-append : (old new : List Text) → KeepsSymbols numbering old new → (symbols : List S) (texts : List Text) (more : List S) (rest : List Text)
      → StandInOrder numbering old symbols texts → StandInOrder numbering new more rest → StandInOrder numbering new (symbols ++ more) (texts ++ rest)
  stand-append old new keeps _ _ more rest none after = after
  stand-append old new keeps _ _ more rest (next {symbol = s} {text = t} {symbols = symbols} {rest = texts} first before) after =
      next (keeps s t first) (stand-append old new keeps symbols texts more rest before after)

  module _ (rule : SlotRule) (laws : IsSlotRule rule) where
    -- before the first text
    pub each-none : (old : InternerContents) (symbols : List S) → IsLoaded rule old.slot_count (length old.texts) → AppendsSymbols numbering rule old symbols [] old symbols
    each-none old symbols loaded = record {
      taken = record { interned = refl; keeps = λ symbol text stands. stands; spent = omega arith; known = λ none. refl };
      grown = record { allowed = λ h. refl; least = λ none. absurd (none loaded.load) };
      added = [];
      stand = none;
      appended = sym (append-nil symbols);
    }

    -- after one more item of an iteration
    pub each-more : (old : InternerContents) (symbols : List S) (items : List (Bor Text)) (mid new : InternerContents) (so_far longer : List S) (item : Bor Text) (symbol : S)
        → IsLoaded rule mid.slot_count (length mid.texts) → IsLoaded rule new.slot_count (length new.texts)
        → AppendsSymbols numbering rule old symbols (texts_of items) mid so_far → InternsInto numbering rule mid item.now (Ok symbol) new
        → longer ≡ so_far ++ symbol ∷ [] → AppendsSymbols numbering rule old symbols (texts_of (items ++ item ∷ [])) new longer
    each-more old symbols items mid new so_far longer item symbol was_loaded loaded before call is = record {
      taken = item-taken numbering rule old mid new items item symbol before.taken call;
      grown = interned-slots numbering rule (λ len count. GrowsFor rule len old.slot_count count) mid new item.now symbol call loaded
          (grown-more rule laws _ _ _ _ was_loaded.allowed before.grown call.slots) before.grown;
      added = before.added ++ symbol ∷ [];
      stand = rw (map_push (λ (b : Bor Text). b.now) items item) (stand-more mid.texts new.texts call.keeps before.added (texts_of items) symbol item.now before.stand call.stands);
      appended = is ∙ ap (λ xs. xs ++ symbol ∷ []) before.appended ∙ append_assoc symbols before.added (symbol ∷ []);
    }

    -- after one more item of a list
    pub each-at : (old : InternerContents) (symbols : List S) (xs : List (Bor Text)) (i : ℕ) (d : Bor Text) (mid new : InternerContents) (so_far longer : List S) (symbol : S)
        → i < length xs → IsLoaded rule mid.slot_count (length mid.texts) → IsLoaded rule new.slot_count (length new.texts)
        → AppendsSymbols numbering rule old symbols (texts_of (take i xs)) mid so_far → InternsInto numbering rule mid (get_or xs i d).now (Ok symbol) new
        → longer ≡ so_far ++ symbol ∷ [] → AppendsSymbols numbering rule old symbols (texts_of (take (i + 1) xs)) new longer
    each-at old symbols xs i d mid new so_far longer symbol within was_loaded loaded before call is =
        rw (take_more xs i d within) (each-more old symbols (take i xs) mid new so_far longer (get_or xs i d) symbol was_loaded loaded before call is)

    -- where an item is refused
    pub each-refused : (yields : List (Bor Text) → Option (Bor Text) → Type 0) (items : List (Bor Text)) (item : Bor Text) (old mid new : InternerContents) (was is : Vec S Global) (longer : List S) (error : InternError) (outcome : Result (Unit {0}) InternError)
        → yields items (Some item) → outcome ≡ Err error → AppendsSymbols numbering rule old was.items (texts_of items) mid longer → InternsInto numbering rule mid item.now (Err error) new
        → is.items ≡ longer → InternsEach numbering rule yields (old, was) outcome (new, is)
    each-refused yields items item old mid new was is longer error outcome y e before call same = rw (e, same) (
      items,
      mid,
      before,
      (item, y, inl (stopped numbering rule laws old mid new (texts_of items) item.now error before.taken call before.grown)),
    )

    -- where the list is full
    pub each-full : (yields : List (Bor Text) → Option (Bor Text) → Type 0) (items : List (Bor Text)) (item : Bor Text) (old mid : InternerContents) (was is : Vec S Global) (longer : List S) (now : ℕ) (error : InternError) (outcome : Result (Unit {0}) InternError)
        → yields items (Some item) → outcome ≡ Err error → IsMemory error → AppendsSymbols numbering rule old was.items (texts_of items) mid longer → is.items ≡ longer → vec_capacity was ≤ now → now < length longer + 1
        → InternsEach numbering rule yields (old, was) outcome (mid, is)
    each-full yields items item old mid was is longer now error outcome y e memory before same less full = rw (e, same) (
      items,
      mid,
      before,
      (item, y, inr (record { memory = memory; full = omega (arith, less, full); same = refl })),
    )

    -- items after others
    pub each-append : (old : InternerContents) (symbols : List S) (items more : List (Bor Text)) (mid new : InternerContents) (so_far longer : List S)
        → AppendsSymbols numbering rule old symbols (texts_of items) mid so_far → AppendsSymbols numbering rule mid so_far (texts_of more) new longer
        → AppendsSymbols numbering rule old symbols (texts_of (items ++ more)) new longer
    each-append old symbols items more mid new so_far longer before after =
        subst (λ (ts : List Text). AppendsSymbols numbering rule old symbols ts new longer) (sym (map-append (λ (b : Bor Text). b.now) items more)) (record {
          taken = taken-append numbering old mid new (texts_of items) (texts_of more) before.taken after.taken;
          grown = GrowsFor-joined rule laws _ _ _ _ _ (all-longer numbering mid.texts (texts_of more) new.texts after.taken.interned) before.grown after.grown;
          added = before.added ++ after.added;
          stand = stand-append mid.texts new.texts after.taken.keeps before.added (texts_of items) after.added (texts_of more) before.stand after.stand;
          appended = after.appended ∙ ap (λ xs. xs ++ after.added) before.appended ∙ append_assoc symbols before.added after.added;
        })

    -- a block after other items went in
    pub block-done : (done block : List (Bor Text)) (old mid new : InternerContents) (was had is : Vec S Global) (outcome : Result (Unit {0}) InternError) → outcome ≡ Ok tt
        → AppendsSymbols numbering rule old was.items (texts_of done) mid had.items → InternsEach numbering rule (Lists block) (mid, had) outcome (new, is)
        → AppendsSymbols numbering rule old was.items (texts_of (done ++ block)) new is.items
    block-done done block old mid new was had is outcome ok before each = of (rw ok at each)
      where
        of : InternsEach numbering rule (Lists block) (mid, had) (Ok tt) (new, is) → AppendsSymbols numbering rule old was.items (texts_of (done ++ block)) new is.items
        of (items, all, after, (whole, same)) = rw (whole, same) (each-append old was.items done items mid all had.items is.items before after)

    -- what comes of a block after other items comes of all
    pub block-last : (yields : List (Bor Text) → Option (Bor Text) → Type 0) (done block : List (Bor Text)) (old mid new : InternerContents) (was had is : Vec S Global) (outcome : Result (Unit {0}) InternError)
        → (IsOk outcome → yields (done ++ block) None) → ((front : List (Bor Text)) (item : Bor Text) (rest : List (Bor Text)) → block ≡ front ++ item ∷ rest → yields (done ++ front) (Some item))
        → vec_capacity was ≤ vec_capacity had → AppendsSymbols numbering rule old was.items (texts_of done) mid had.items → InternsEach numbering rule (Lists block) (mid, had) outcome (new, is)
        → InternsEach numbering rule yields (old, was) outcome (new, is)
    block-last yields done block old mid new was had is (Ok u) ends stops less before (items, all, after, (whole, same)) = (
      done ++ items,
      all,
      each-append old was.items done items mid all had.items is.items before after,
      (subst (λ xs. yields (done ++ xs) None) whole (ends refl), same),
    )
    block-last yields done block old mid new was had is (Err error) ends stops less before (items, all, after, (item, (rest, goes_on), why)) =
        let joined = each-append old was.items done items mid all had.items is.items before after in (
          done ++ items,
          all,
          joined,
          (
            item,
            stops items item rest goes_on,
            elim why [
              | inl refused ↦ inl (stopped numbering rule laws old all new (texts_of (done ++ items)) item.now error joined.taken refused.refuses joined.grown)
              | inr full ↦ inr (record { memory = full.memory; full = omega (arith, less, full.full); same = full.same })
            ],
          ),
        )

    -- the same, where the block ended with an error
    pub block-stopped : (yields : List (Bor Text) → Option (Bor Text) → Type 0) (done block : List (Bor Text)) (old mid new : InternerContents) (was had is : Vec S Global) (error : InternError) (outcome : Result (Unit {0}) InternError) → outcome ≡ Err error
        → ((front : List (Bor Text)) (item : Bor Text) (rest : List (Bor Text)) → block ≡ front ++ item ∷ rest → yields (done ++ front) (Some item))
        → vec_capacity was ≤ vec_capacity had → AppendsSymbols numbering rule old was.items (texts_of done) mid had.items → InternsEach numbering rule (Lists block) (mid, had) (Err error) (new, is)
        → InternsEach numbering rule yields (old, was) outcome (new, is)
    block-stopped yields done block old mid new was had is error outcome e stops less before each = rw e (block-last yields done block old mid new was had is (Err error) (λ ok. absurd (cc)) stops less before each)

    -- before the first text of a slice
    pub front-none : (old : InternerContents) (texts : List (Bor Text)) (numbers : List ℕ) → IsLoaded rule old.slot_count (length old.texts) → InternsFront numbering rule old numbers texts 0 old numbers
    front-none old texts numbers loaded = record { within = omega arith; symbols = []; appends = each-none old [] loaded; numbers_are = refl; count = refl; rest = λ k above. refl }

    -- after one more text of a slice
    pub front-more : (old : InternerContents) (before : List ℕ) (texts : List (Bor Text)) (at : ℕ) (d : Bor Text) (mid new : InternerContents) (numbers : List ℕ) (symbol : S) (number : ℕ) → at < length texts → at < length numbers
        → IsLoaded rule mid.slot_count (length mid.texts) → IsLoaded rule new.slot_count (length new.texts) → number ≡ numbering.number symbol
        → InternsFront numbering rule old before texts at mid numbers → InternsInto numbering rule mid (get_or texts at d).now (Ok symbol) new → InternsFront numbering rule old before texts (at + 1) new (set numbers at number)
    front-more old before texts at d mid new numbers symbol number within room was_loaded loaded is front call = record {
      within = omega (arith, within);
      symbols = front.symbols ++ symbol ∷ [];
      appends = each-at old [] texts at d mid new front.symbols (front.symbols ++ symbol ∷ []) symbol within was_loaded loaded front.appends call refl;
      numbers_are = take_more_set numbers at number room ∙ ap (λ xs. xs ++ number ∷ []) front.numbers_are ∙ ap (λ n. map numbering.number front.symbols ++ n ∷ []) is ∙ sym (map_push numbering.number front.symbols symbol);
      count = length-set numbers at number ∙ front.count;
      rest = λ k above. get_or-set_other numbers at k number 0 (λ same. absurd (omega (arith, above, same))) ∙ front.rest k (omega (arith, above));
    }

    -- where a text of a slice is refused
    pub slice-stopped : (texts : List (Bor Text)) (at : ℕ) (d : Bor Text) (old mid new : InternerContents) (before numbers : List ℕ) (error : InternError) (outcome : Result (Unit {0}) Stopped)
        → at < length texts → outcome ≡ Err (record { done = at; error = error }) → InternsFront numbering rule old before texts at mid numbers
        → InternsInto numbering rule mid (get_or texts at d).now (Err error) new → InternsSlice numbering rule texts (old, before) outcome (new, numbers)
    slice-stopped texts at d old mid new before numbers error outcome within e front call = let s = split-at texts at within in rw e (
      mid,
      front,
      s.0,
      s.1,
      s.2,
      stopped numbering rule laws old mid new (texts_of (take at texts)) s.0.now error front.appends.taken (subst (λ (b : Bor Text). InternsInto numbering rule mid b.now (Err error) new) (s.3 d) call) front.appends.grown,
    )

    -- symbols are appended to a list as to an empty one
    front-appends : (old mid : InternerContents) (texts : List Text) (was is added : List S) → AppendsSymbols numbering rule old [] texts mid added → is ≡ was ++ added → AppendsSymbols numbering rule old was texts mid is
    front-appends old mid texts was is added appends e =
        record { taken = appends.taken; grown = appends.grown; added = appends.added; stand = appends.stand; appended = e ∙ ap (λ xs. was ++ xs) appends.appended }

    -- where the symbols of a slice were appended to a list
    pub slice-done : (texts : List (Bor Text)) (old new : InternerContents) (before numbers : List ℕ) (was is : Vec S Global) (outcome : Result (Unit {0}) InternError) (front : InternsFront numbering rule old before texts (length texts) new numbers)
        → outcome ≡ Ok tt → is.items ≡ was.items ++ front.symbols → InternsEach numbering rule (Lists texts) (old, was) outcome (new, is)
    slice-done texts old new before numbers was is outcome front ok e = rw ok (
      texts,
      new,
      subst (λ ts. AppendsSymbols numbering rule old was.items (texts_of ts) new is.items) (take_all (length texts) texts (omega arith)) (front-appends old new (texts_of (take (length texts) texts)) was.items is.items front.symbols front.appends e),
      (refl, refl),
    )

    -- and where one of its texts failed
    pub slice-failed : (texts : List (Bor Text)) (old new : InternerContents) (before numbers : List ℕ) (was is : Vec S Global) (stopped : Stopped) (outcome : Result (Unit {0}) InternError)
        (slice : InternsSlice numbering rule texts (old, before) (Err stopped) (new, numbers)) → outcome ≡ Err stopped.error → is.items ≡ was.items ++ slice.1.symbols
        → InternsEach numbering rule (Lists texts) (old, was) outcome (new, is)
    slice-failed texts old new before numbers was is stopped outcome slice e longer = rw e (
      take stopped.done texts,
      slice.0,
      front-appends old slice.0 (texts_of (take stopped.done texts)) was.items is.items slice.1.symbols slice.1.appends longer,
      (slice.2, (slice.3, slice.4), inl slice.5),
    )

    -- the numbers of a slice name the symbols of its texts
    pub front-named : ((i : ℕ) (s : S) → numbering.symbol_of i ≡ Some s → (numbering.number s ≡ i) × (i < 2 ^ 64)) → (texts : List (Bor Text)) (old mid : InternerContents) (before numbers : List ℕ) (done : ℕ)
        (front : InternsFront numbering rule old before texts done mid numbers) → map numbering.symbol_of (take done numbers) ≡ map Some front.symbols
    front-named numbered texts old mid before numbers done front = ap (map numbering.symbol_of) (front.numbers_are ∙ ap (map numbering.number) front.appends.appended) ∙ of front.appends.added _ front.appends.stand ∙ ap (map Some) (sym front.appends.appended)
      where
        of : (symbols : List S) (ts : List Text) → StandInOrder numbering mid.texts symbols ts → map numbering.symbol_of (map numbering.number symbols) ≡ map Some symbols
        of _ _ none = refl
        of _ _ (next {symbol = s} {symbols = symbols} {rest = rest} first more) =
            ap (λ o. o ∷ map numbering.symbol_of (map numbering.number symbols)) (ap numbering.symbol_of (numbered _ s first.symbol_is).0 ∙ first.symbol_is) ∙ ap (λ os. Some s ∷ os) (of symbols rest more)
