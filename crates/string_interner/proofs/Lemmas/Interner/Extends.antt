-- Interning text after text.
use Rattle.std.proofs.Common.{◌≡◌, ℕ, ◌+◌, ◌≤◌, List, [], ◌∷◌, ◌++◌, length, refl, sym, ap, ◌∙◌, subst, arith, Option, Some, None, Ok, Err, Bor}
use Rattle.std.specs.Prelude.{MatchOption, IsSome, Result}
use Rattle.std.specs.Iterator.{Drains, Yields, YieldsThen, AlwaysYields}
use Rattle.std.specs.List.{sum_by}
use Rattle.std.specs.Option.{option_map_or}
use Rattle.std.proofs.lemmas.List.{append_assoc, append-nil, map_push, map-append, length-append, length_push}
use Rattle.std.proofs.lemmas.Iterator.{YieldsList}
use Rattle.std.proofs.lemmas.List.Sums.{sum_by-append}
use Rattle.string_interner.specs.Text.{Text, first}
use Rattle.string_interner.specs.Backend.{Appends}
use Rattle.string_interner.specs.SlotRule.{SlotRule, IsLoaded, IsLeastSlotCount, GrowsFor, IsSlotRule}
use Rattle.string_interner.specs.Interner.{InternerContents, IsNew, Interns, InternsInto, entry_symbol}
use Rattle.string_interner.proofs.Lemmas.Index.SlotRule.{GrowsFor-room, least-grown}
use Rattle.string_interner.specs.Extend.{texts_of, fresh, IsMemory, InternsAll, TakesIn, StopsAt, Extends, Collects, InternsInOrder}
use Rattle.string_interner.proofs.Laws.{refused-keeps}
use Rattle.string_interner.specs.declared.backend.InternError.{InternError}
use Rattle.string_interner.specs.declared.backend.InternError.TheVariants.{NoSymbol, Memory}
use Rattle.string_interner.specs.Numbering.{Numbering}

-- what `YieldedBy` says, of the members of its records: those of known types are found by unification, and records are not
abbrev pub YieldedFrom : {I W A : Type 0} → (I → W → Type 0) → (W → Option A → W → Type 0) → I → List A → Option A → Type 0
YieldedFrom {I} {W} becomes steps iter items next = (walk : W) × becomes iter walk × (rest : W) × YieldsThen steps walk items next rest

-- two lists that make none together are empty
append-empty : (xs ys : List Text) → xs ++ ys ≡ [] → (xs ≡ []) × (ys ≡ [])
append-empty [] ys h = (refl, h)
append-empty (x ∷ xs) ys h = absurd (cc)

-- the first text is fresh where it is new, and the others after it
fresh-first : (old : List Text) (text : Text) (texts : List Text) → fresh old (text ∷ texts) ≡ fresh old (text ∷ []) ++ fresh (old ++ fresh old (text ∷ [])) texts
fresh-first old text texts = of (first old text)
  where
    of : (o : Option ℕ) → option_map_or (λ _. fresh old texts) o (text ∷ fresh (old ++ text ∷ []) texts)
        ≡ option_map_or (λ _. []) o (text ∷ []) ++ fresh (old ++ option_map_or (λ _. []) o (text ∷ [])) texts
    of None = refl
    of (Some i) = ap (λ xs. fresh xs texts) (sym (append-nil old))

-- the fresh texts of a list that goes on
pub fresh-append : (old xs ys : List Text) → fresh old (xs ++ ys) ≡ fresh old xs ++ fresh (old ++ fresh old xs) ys
fresh-append old [] ys = ap (λ zs. fresh zs ys) (sym (append-nil old))
fresh-append old (x ∷ xs) ys =
    let now = fresh old (x ∷ []) in
    let later = fresh (old ++ now) xs in
    fresh-first old x (xs ++ ys)
    ∙ ap (λ zs. now ++ zs) (fresh-append (old ++ now) xs ys)
    ∙ sym (append_assoc now later (fresh ((old ++ now) ++ later) ys))
    ∙ ap (λ zs. (now ++ later) ++ fresh zs ys) (append_assoc old now later)
    ∙ ap (λ zs. zs ++ fresh (old ++ zs) ys) (sym (fresh-first old x xs))

module _ {S : Type 0} (numbering : Numbering S) where
  -- a text that is interned is put last where it is fresh
  pub interned-fresh : (old : List Text) (text : Text) (symbol : S) (new : List Text) → Interns numbering old text (Ok symbol) new → new ≡ old ++ fresh old (text ∷ [])
  interned-fresh old text symbol new i = of (first old text) i
    where
      of : (o : Option ℕ) → MatchOption o (Appends numbering.symbol_of numbering.place old text (Ok symbol) new) (λ i. (entry_symbol numbering old i ≡ Some symbol) × (new ≡ old)) → new ≡ old ++ option_map_or (λ _. []) o (text ∷ [])
      of None h = h.1
      of (Some i) h = h.1 ∙ sym (append-nil old)

  -- texts that are interned put the fresh ones last
  pub all-fresh : (old texts new : List Text) → InternsAll numbering old texts new → new ≡ old ++ fresh old texts
  all-fresh old [] new h = h ∙ sym (append-nil old)
  all-fresh old (text ∷ texts) new h =
      let now = fresh old (text ∷ []) in
      let mid : h.0 ≡ old ++ now = interned-fresh old text h.1.0 h.0 h.1.1 in
      all-fresh h.0 texts new h.2
      ∙ ap (λ zs. zs ++ fresh zs texts) mid
      ∙ append_assoc old now (fresh (old ++ now) texts)
      ∙ ap (λ zs. old ++ zs) (sym (fresh-first old text texts))

  -- one more text is interned
  pub all-more : (old texts mid : List Text) (text : Text) (symbol : S) (new : List Text) → InternsAll numbering old texts mid → Interns numbering mid text (Ok symbol) new → InternsAll numbering old (texts ++ text ∷ []) new
  all-more old [] mid text symbol new h i = (new, (symbol, subst (λ (xs : List Text). Interns numbering xs text (Ok symbol) new) h i), refl)
  all-more old (t ∷ ts) mid text symbol new h i = (h.0, h.1, all-more h.0 ts mid text symbol new h.2 i)

  -- more texts are interned
  all-append : (old xs mid ys new : List Text) → InternsAll numbering old xs mid → InternsAll numbering mid ys new → InternsAll numbering old (xs ++ ys) new
  all-append old [] mid ys new h i = subst (λ (zs : List Text). InternsAll numbering zs ys new) h i
  all-append old (x ∷ xs) mid ys new h i = (h.0, h.1, all-append h.0 xs mid ys new h.2 i)

  -- texts make a list no shorter
  pub all-longer : (old texts new : List Text) → InternsAll numbering old texts new → length old ≤ length new
  all-longer old texts new h = let n = ap length (all-fresh old texts new h) ∙ length-append old (fresh old texts) in omega (arith, n)

  -- texts go in after others
  pub taken-append : (old mid new : InternerContents) (xs ys : List Text) → TakesIn numbering old xs mid → TakesIn numbering mid ys new → TakesIn numbering old (xs ++ ys) new
  taken-append old mid new xs ys before after =
      let parts : fresh old.texts (xs ++ ys) ≡ fresh old.texts xs ++ fresh mid.texts ys = fresh-append old.texts xs ys ∙ ap (λ zs. fresh old.texts xs ++ fresh zs ys) (sym (all-fresh old.texts xs mid.texts before.interned)) in
      let cost = ap (sum_by numbering.cost) parts ∙ sum_by-append numbering.cost (fresh old.texts xs) (fresh mid.texts ys) in record {
        interned = all-append old.texts xs mid.texts ys new.texts before.interned after.interned;
        keeps = λ s t stands. after.keeps s t (before.keeps s t stands);
        spent = omega (arith, before.spent, after.spent, cost);
        known = λ none. let empty = append-empty _ _ (sym parts ∙ none) in after.known empty.1 ∙ before.known empty.0;
      }

  module _ where
    -- what is so of a length and a count of slots, where one more entry keeps it, is so once a text was interned
    pub interned-slots : (rule : SlotRule) (P : ℕ → ℕ → Type 0) (mid new : InternerContents) (text : Text) (symbol : S) → InternsInto numbering rule mid text (Ok symbol) new → IsLoaded rule new.slot_count (length new.texts)
        → (rule.holds new.slot_count (length mid.texts + 1) → P (length mid.texts + 1) new.slot_count) → P (length mid.texts) mid.slot_count → P (length new.texts) new.slot_count
    interned-slots rule P mid new text symbol call loaded more now = of (first mid.texts text) call.interns call.known
      where
        of : (o : Option ℕ) → MatchOption o (Appends numbering.symbol_of numbering.place mid.texts text (Ok symbol) new.texts) (λ i. (entry_symbol numbering mid.texts i ≡ Some symbol) × (new.texts ≡ mid.texts)) → (IsSome o → new ≡ mid) → P (length new.texts) new.slot_count
        of None h known = let n : length new.texts ≡ length mid.texts + 1 = ap length h.1 ∙ length_push mid.texts text in
            subst (λ k. P k new.slot_count) (sym n) (more (subst (λ k. rule.holds new.slot_count k) n loaded.load))
        of (Some i) h known = subst (λ (it : InternerContents). P (length it.texts) it.slot_count) (sym (known refl)) now

    -- slots that were the least for the texts are so once a text was interned
    pub interned-least : (rule : SlotRule) (laws : IsSlotRule rule) (mid new : InternerContents) (text : Text) (symbol : S) → InternsInto numbering rule mid text (Ok symbol) new → IsLoaded rule new.slot_count (length new.texts)
        → IsLeastSlotCount rule (length mid.texts) mid.slot_count → IsLeastSlotCount rule (length new.texts) new.slot_count
    interned-least rule laws mid new text symbol call loaded before = interned-slots rule (IsLeastSlotCount rule) mid new text symbol call loaded (least-grown rule laws _ _ _ before call.slots) before

    -- a text that is interned takes its cost, and nothing where it was known
    spent-fresh : (mid new : InternerContents) (text : Text) → (IsSome (first mid.texts text) → new ≡ mid) → mid.room ≤ new.room + numbering.cost text → mid.room ≤ new.room + sum_by numbering.cost (fresh mid.texts (text ∷ []))
    spent-fresh mid new text known spent = of (first mid.texts text) known
      where
        of : (o : Option ℕ) → (IsSome o → new ≡ mid) → mid.room ≤ new.room + sum_by numbering.cost (option_map_or (λ _. []) o (text ∷ []))
        of None known = let one : sum_by numbering.cost (text ∷ []) ≡ numbering.cost text = omega arith in omega (arith, spent, one)
        of (Some i) known = let same : new.room ≡ mid.room = ap (λ (i : InternerContents). i.room) (known refl) in omega (arith, same)

    -- a text that is not fresh changes nothing
    known-same : (mid new : InternerContents) (text : Text) → (IsSome (first mid.texts text) → new ≡ mid) → fresh mid.texts (text ∷ []) ≡ [] → new ≡ mid
    known-same mid new text known none = of (first mid.texts text) known none
      where
        of : (o : Option ℕ) → (IsSome o → new ≡ mid) → option_map_or (λ _. []) o (text ∷ []) ≡ [] → new ≡ mid
        of None known none = absurd (cc)
        of (Some i) known none = known refl

    -- what the fresh texts cost when one more text comes
    cost-more : (old mid texts : List Text) (text : Text) → InternsAll numbering old texts mid → sum_by numbering.cost (fresh old (texts ++ text ∷ [])) ≡ sum_by numbering.cost (fresh old texts) + sum_by numbering.cost (fresh mid (text ∷ []))
    cost-more old mid texts text h = rw (fresh-append old texts (text ∷ []), ← all-fresh old texts mid h) (sum_by-append numbering.cost (fresh old texts) (fresh mid (text ∷ [])))

    -- one more text goes in
    pub taken-more : (rule : SlotRule) (old mid new : InternerContents) (texts : List Text) (text : Text) (symbol : S) → TakesIn numbering old texts mid → InternsInto numbering rule mid text (Ok symbol) new
        → TakesIn numbering old (texts ++ text ∷ []) new
    taken-more rule old mid new texts text symbol taken call = record {
      interned = all-more old.texts texts mid.texts text symbol new.texts taken.interned call.interns;
      keeps = λ s t stands. call.keeps s t (taken.keeps s t stands);
      spent = omega (arith, taken.spent, cost-more old.texts mid.texts texts text taken.interned, spent-fresh mid new text call.known call.room.spent);
      known = λ none.
          let parts = append-empty _ _ (sym (fresh-append old.texts texts (text ∷ [])) ∙ none) in
          known-same mid new text call.known (ap (λ xs. fresh xs (text ∷ [])) (all-fresh old.texts texts mid.texts taken.interned) ∙ parts.1) ∙ taken.known parts.0;
    }

    -- the same, of the item of an iteration
    pub item-taken : (rule : SlotRule) (old mid new : InternerContents) (items : List (Bor Text)) (item : Bor Text) (symbol : S) → TakesIn numbering old (texts_of items) mid → InternsInto numbering rule mid item.now (Ok symbol) new
        → TakesIn numbering old (texts_of (items ++ item ∷ [])) new
    item-taken rule old mid new items item symbol taken call = subst (λ (ts : List Text). TakesIn numbering old ts new) (sym (map_push (λ (b : Bor Text). b.now) items item))
        (taken-more rule old mid new (texts_of items) item.now symbol taken call)

    -- memory is refused for a new text that has a symbol
    memory-new : (mid new : List Text) (text : Text) (error : InternError) → IsMemory error → Interns numbering mid text (Err error) new → (first mid text ≡ None) × IsSome (numbering.symbol_of (numbering.place mid))
    memory-new mid new text NoSymbol m i = absurd m
    memory-new mid new text (Memory e) m i = of (first mid text) i
      where
        of : (o : Option ℕ) → MatchOption o (IsSome (numbering.symbol_of (numbering.place mid)) × (new ≡ mid)) (λ i. ⊥ × (new ≡ mid)) → (o ≡ None) × IsSome (numbering.symbol_of (numbering.place mid))
        of None h = (refl, h.0)
        of (Some i) h = absurd h.0

    -- a text that does not fit is refused
    pub stopped : (rule : SlotRule) (laws : IsSlotRule rule) (old mid new : InternerContents) (texts : List Text) (text : Text) (error : InternError) → TakesIn numbering old texts mid → InternsInto numbering rule mid text (Err error) new
        → GrowsFor rule (length mid.texts) old.slot_count mid.slot_count → StopsAt numbering rule old texts mid text error new
    stopped rule laws old mid new texts text error taken call grown = record {
      refuses = call;
      beyond = λ m fits.
          let is_new = memory-new mid.texts new.texts text error m call.interns in
          let one : fresh mid.texts (text ∷ []) ≡ text ∷ [] = rw is_new.0 refl in
          let c : sum_by numbering.cost (fresh old.texts (texts ++ text ∷ [])) ≡ sum_by numbering.cost (fresh old.texts texts) + numbering.cost text = cost-more old.texts mid.texts texts text taken.interned ∙ (ap (λ ts. sum_by numbering.cost (fresh old.texts texts) + sum_by numbering.cost ts) one ∙ omega arith) in
          let n : length (fresh old.texts (texts ++ text ∷ [])) ≡ length (fresh old.texts texts) + 1 = ap length (fresh-append old.texts texts (text ∷ []) ∙ ap (λ zs. fresh old.texts texts ++ fresh zs (text ∷ [])) (sym (all-fresh old.texts texts mid.texts taken.interned)) ∙ ap (λ ts. fresh old.texts texts ++ ts) one) ∙ length_push (fresh old.texts texts) text in
          let l : length mid.texts ≡ length old.texts + length (fresh old.texts texts) = ap length (all-fresh old.texts texts mid.texts taken.interned) ∙ length-append old.texts (fresh old.texts texts) in
          let one_more : length old.texts + length (fresh old.texts (texts ++ text ∷ [])) ≡ length mid.texts + 1 = omega (arith, n, l) in
          let room = GrowsFor-room rule laws _ _ _ grown (subst (λ k. rule.holds old.slot_count k) one_more fits.index) in
          let granted_now = call.room.granted (is_new.1, room) (omega (arith, fits.backend, c, taken.spent)) in cc;
    }

    -- an extension that a refused item ended
    pub extends-refused : (rule : SlotRule) (laws : IsSlotRule rule) {I W : Type 0} (becomes : I → W → Type 0) (steps : W → Option (Bor Text) → W → Type 0) (iter : I) (walk rest : W) (items : List (Bor Text)) (item : Bor Text) (old mid new : InternerContents) (error : InternError) (outcome : Result (Unit {0}) InternError)
        → becomes iter walk → YieldsThen steps walk items (Some item) rest → outcome ≡ Err error → TakesIn numbering old (texts_of items) mid → InternsInto numbering rule mid item.now (Err error) new
        → GrowsFor rule (length mid.texts) old.slot_count mid.slot_count → Extends numbering rule (YieldedFrom becomes steps iter) old outcome new
    extends-refused rule laws becomes steps iter walk rest items item old mid new error outcome b y e taken call grown = rw e (
      items,
      mid,
      taken,
      grown,
      (item, (walk, b, rest, y), stopped rule laws old mid new (texts_of items) item.now error taken call grown),
    )

    -- no interner is made where an extension was refused
    pub collects-refused : (rule : SlotRule) (yields : List (Bor Text) → Option (Bor Text) → Type 0) (empty front : InternerContents) (error : InternError) (outcome : Result InternerContents InternError)
        → IsNew empty → outcome ≡ Err error → Extends numbering rule yields empty (Err error) front → Collects numbering rule yields outcome
    collects-refused rule yields empty front error outcome is_new e extends = rw e (empty, is_new, (front, extends))

-- an iteration that is drained yields its items and ends
pub drained-by : {I W A : Type 0} (becomes : I → W → Type 0) (steps : W → Option A → W → Type 0) (iter : I) (walk : W) (items : List A) → becomes iter walk → Drains steps walk items → YieldedFrom becomes steps iter items None
drained-by becomes steps iter walk items b drains = (walk, b, drains.0, drains.1)

-- an iteration goes on to one more item
pub yields-more : {W A : Type 0} (steps : W → Option A → W → Type 0) (xs : List A) (x : A) (s t u : W) → Yields steps s xs t → steps t (Some x) u → Yields steps s (xs ++ x ∷ []) u
yields-more steps [] x s t u e st = (u, subst (λ k. steps k (Some x) u) (sym e) st, refl)
yields-more steps (z ∷ zs) x s t u (j, sj, more) st = (j, sj, yields-more steps zs x j t u more st)

-- an iteration over a list went over each front of it
pub yields-front : {W A : Type 0} (steps : W → Option A → W → Type 0) (xs : List A) (x : A) (after : List A) (s u : W) → Yields steps s (xs ++ x ∷ after) u → (rest : W) × YieldsThen steps s xs (Some x) rest
yields-front steps [] x after s u (j, sj, more) = (j, (s, refl, sj))
yields-front steps (z ∷ zs) x after s u (j, sj, more) = let r = yields-front steps zs x after j u more in (r.0, (r.1.0, (j, sj, r.1.1), r.1.2))

-- so it yields each front of what waits behind other items
pub yielded-front : {I W A : Type 0} (becomes : I → W → Type 0) (steps : W → Option A → W → Type 0) (iter : I) (walk u : W) (done block all : List A) → becomes iter walk → all ≡ done ++ block → Yields steps walk all u
    → (front : List A) (x : A) (rest : List A) → block ≡ front ++ x ∷ rest → YieldedFrom becomes steps iter (done ++ front) (Some x)
yielded-front {A = A} becomes steps iter walk u done block all b e y front x rest is =
    let f = yields-front steps (done ++ front) x rest walk u (subst (λ (xs : List A). Yields steps walk xs u) (e ∙ ap (λ zs. done ++ zs) is ∙ sym (append_assoc done front (x ∷ rest))) y) in
    (walk, b, f.0, f.1)

-- an iteration that ended went over the whole list
drained : {W A : Type 0} (steps : W → Option A → W → Type 0) (xs : List A) (s t u : W) (all : List A) → Yields steps s xs t → steps t None u → AlwaysYields steps (λ x. x) s all → all ≡ xs
drained steps [] s t u [] e st always = refl
drained steps [] s t u (y ∷ ys) e st always = absurd (always.0 u (subst (λ k. steps k None u) (sym e) st))
drained steps (x ∷ xs) s t u [] (j, sj, more) st always = absurd (always x j sj)
drained steps (x ∷ xs) s t u (y ∷ ys) (j, sj, more) st always = let m = always.1 x j sj in ap (λ k. k ∷ ys) (sym m.0) ∙ ap (λ l. x ∷ l) (drained steps xs j t u ys more st m.1)

-- an iteration that did not end went over a front
fronted : {W A : Type 0} (steps : W → Option A → W → Type 0) (xs : List A) (s t u : W) (x : A) (all : List A) → Yields steps s xs t → steps t (Some x) u → AlwaysYields steps (λ x. x) s all → (after : List A) × (all ≡ xs ++ x ∷ after)
fronted steps [] s t u x [] e st always = absurd (always x u (subst (λ k. steps k (Some x) u) (sym e) st))
fronted steps [] s t u x (y ∷ ys) e st always = let m = always.1 x u (subst (λ k. steps k (Some x) u) (sym e) st) in (ys, ap (λ k. k ∷ ys) (sym m.0))
fronted steps (z ∷ zs) s t u x [] (j, sj, more) st always = absurd (always z j sj)
fronted steps (z ∷ zs) s t u x (y ∷ ys) (j, sj, more) st always = let m = always.1 z j sj in let r = fronted steps zs j t u x ys more st m.1 in (r.0, ap (λ k. k ∷ ys) (sym m.0) ∙ ap (λ l. z ∷ l) r.1)

-- an interner that is extended by what yields a list interns its texts in order
pub in-order : {S : Type 0} (numbering : Numbering S) (rule : SlotRule) {I W : Type 0} (becomes : I → W → Type 0) (steps : W → Option (Bor Text) → W → Type 0) (iter : I) (old new : InternerContents) (outcome : Result (Unit {0}) InternError) (all : List (Bor Text))
    → Extends numbering rule (YieldedFrom becomes steps iter) old outcome new → ((walk : W) → becomes iter walk → YieldsList steps (λ x. x) walk all) → InternsInOrder numbering old.texts (texts_of all) outcome new.texts
in-order numbering rule becomes steps iter old new (Ok done) all (items, mid, taken, grown, ((walk, b, rest, y), same)) lists =
    rw (ap (λ (i : InternerContents). i.texts) same, drained steps items walk y.0 rest all y.1 y.2 (lists walk b).runs) taken.interned
in-order numbering rule becomes steps iter old new (Err error) all (items, mid, taken, grown, (item, (walk, b, left, yields), stops)) lists =
    let f = fronted steps items walk yields.0 left item all yields.1 yields.2 (lists walk b).runs in
    let same = refused-keeps numbering mid.texts new.texts item.now error stops.refuses.interns in (
      texts_of items,
      item.now,
      texts_of f.0,
      ap texts_of f.1 ∙ map-append (λ (b : Bor Text). b.now) items (item ∷ f.0),
      rw same taken.interned,
      subst (λ (xs : List Text). Interns numbering xs item.now (Err error) new.texts) (sym same) stops.refuses.interns,
    )

-- an extension whose texts are all known changes nothing
pub known-unchanged : {S : Type 0} (numbering : Numbering S) (rule : SlotRule) {I W : Type 0} (becomes : I → W → Type 0) (steps : W → Option (Bor Text) → W → Type 0) (iter : I) (old new : InternerContents) (outcome : Result (Unit {0}) InternError) (all : List (Bor Text))
    → Extends numbering rule (YieldedFrom becomes steps iter) old outcome new → ((walk : W) → becomes iter walk → YieldsList steps (λ x. x) walk all) → fresh old.texts (texts_of all) ≡ [] → new ≡ old
known-unchanged numbering rule becomes steps iter old new (Ok done) all (items, mid, taken, grown, ((walk, b, rest, y), same)) lists none =
    let is = drained steps items walk y.0 rest all y.1 y.2 (lists walk b).runs in
    same ∙ taken.known (ap (λ (xs : List (Bor Text)). fresh old.texts (texts_of xs)) (sym is) ∙ none)
known-unchanged numbering rule becomes steps iter old new (Err error) all (items, mid, taken, grown, (item, (walk, b, left, yields), stops)) lists none =
    let f = fronted steps items walk yields.0 left item all yields.1 yields.2 (lists walk b).runs in
    let is : texts_of all ≡ texts_of items ++ item.now ∷ texts_of f.0 = ap texts_of f.1 ∙ map-append (λ (b : Bor Text). b.now) items (item ∷ f.0) in
    let parts = append-empty _ _ (sym (fresh-append old.texts (texts_of items) (item.now ∷ texts_of f.0)) ∙ (ap (λ (ts : List Text). fresh old.texts ts) (sym is) ∙ none)) in
    let rest : fresh mid.texts (item.now ∷ texts_of f.0) ≡ [] = ap (λ (xs : List Text). fresh xs (item.now ∷ texts_of f.0)) (all-fresh numbering old.texts (texts_of items) mid.texts taken.interned) ∙ parts.1 in
    let one = (append-empty _ _ (sym (fresh-first mid.texts item.now (texts_of f.0)) ∙ rest)).0 in
    known-same numbering mid new item.now stops.refuses.known one ∙ taken.known parts.0
