-- The map from text to symbol that slots hold, before and after a symbol is put into one.
use Rattle.std.proofs.Common.{◌≡◌, ℕ, zero, suc, ◌+◌, ◌-◌, ◌<◌, ◌%◌, ◌≢◌, ◌⊎◌, Bool, true, false, cond, List, [], ◌∷◌, Option, Some, None, length, get_or, set, refl, sym, ap, subst, ◌∙◌, inl, inr, arith}
use Rattle.std.proofs.lemmas.List.{length-set, get_or-set_same, get_or-set_other, get_or_default}
use Rattle.std.proofs.lemmas.Bool.{cases_eq, cases_lt}
use Rattle.std.proofs.lemmas.Slice.Eq.{bytes_eq-Decides}
use Rattle.std.specs.List.{Contains}
use Rattle.std.specs.Option.{IsSome, option_and_then, option_map_or}
use Rattle.std.specs.Str.{bytes_eq}
use Rattle.string_interner.specs.Slots.{probed, symbols, front_cluster, probe_cluster, first_passing}
use Rattle.string_interner.specs.Index.{Fits, has_text, look_up, text_in}
use Rattle.string_interner.specs.Probe.{FillsSlot}
use Rattle.string_interner.proofs.Lemmas.Index.ProbeLoop.{get_or-probe}
use Rattle.string_interner.specs.Text.{Text}
use Rattle.string_interner.proofs.Lemmas.Index.Slots.{here, there, none, head_or_tail, set_cases, set_here, set_there, Contains-symbols, symbols-in, cluster-in, cluster-set, symbols-set, probe-set, Contains-turned}

module _ {S : Type 0} (test : S → Bool) where
  -- what is known of the first that passes
  abbrev pub FirstIs : List S → Option S → Type 0
  FirstIs xs None = (s : S) → Contains xs s → test s ≡ true → ⊥
  FirstIs xs (Some s) = Contains xs s × (test s ≡ true)

  past : (x : S) (xs : List S) → test x ≡ false → (o : Option S) → FirstIs xs o → FirstIs (x ∷ xs) o
  past x xs e None f = λ s h t. elim (head_or_tail s x xs h) as (λ _. ⊥) [ inl q ↦ (let p : test x ≡ test s = ap test q in cc) | inr u ↦ f s u t ]
  past x xs e (Some s) f = (there s x xs f.0, f.1)

  pub first_is : (xs : List S) → FirstIs xs (first_passing test xs)
  first_is [] = λ s h t. none s h
  first_is (x ∷ xs) =
      let step : (b : Bool) → test x ≡ b → FirstIs (x ∷ xs) (cond b (Some x) (first_passing test xs)) =
      elim [ true ↦ λ e. (here x xs, e) | false ↦ λ e. past x xs e (first_passing test xs) (first_is xs) ] in
      step (test x) refl

  -- two lists of the same passing elements, which are one at most, have the same first
  pub same_first :
      (xs ys : List S) → ((s : S) → test s ≡ true → Contains xs s → Contains ys s)
      → ((s : S) → test s ≡ true → Contains ys s → Contains xs s)
      → ((s u : S) → Contains ys s → Contains ys u → test s ≡ true → test u ≡ true → s ≡ u)
      → first_passing test xs ≡ first_passing test ys
  same_first xs ys to from one =
      let join : (o p : Option S) → FirstIs xs o → FirstIs ys p → o ≡ p =
      elim [
        | None ↦ elim [ None ↦ λ f g. refl | Some u ↦ λ f g. absurd (f u (from u g.1 g.0) g.1) ]
        | Some s ↦ elim [ None ↦ λ f g. absurd (g s (to s f.1 f.0) f.1) | Some u ↦ λ f g. ap Some (one s u (to s f.1 f.0) g.0 f.1 g.1) ]
      ] in
      join (first_passing test xs) (first_passing test ys) (first_is xs) (first_is ys)

  pub only_first : (xs : List S) (s : S) → Contains xs s → test s ≡ true
      → ((u v : S) → Contains xs u → Contains xs v → test u ≡ true → test v ≡ true → u ≡ v) → first_passing test xs ≡ Some s
  only_first xs s h e one =
      let at : (o : Option S) → FirstIs xs o → o ≡ Some s = elim [ None ↦ λ f. absurd (f s h e) | Some u ↦ λ f. ap Some (one u s f.0 h f.1 e) ] in
      at (first_passing test xs) (first_is xs)

module _ {S : Type 0} (entry : S → Option Text) where
  text_told : (t : Text) (o : Option Text) → option_map_or (λ found. bytes_eq found t) o false ≡ true → o ≡ Some t
  text_told t None e = cc
  text_told t (Some u) e = ap Some ((bytes_eq-Decides u t).0 e)

  pub entry_from_has : (t : Text) (s : S) → has_text entry t s ≡ true → entry s ≡ Some t
  entry_from_has t s e = text_told t (entry s) e

  pub has_from_entry : (t : Text) (s : S) → entry s ≡ Some t → has_text entry t s ≡ true
  has_from_entry t s e = ap (λ o. option_map_or (λ found. bytes_eq found t) o false) e ∙ (bytes_eq-Decides t t).1 refl

  -- a symbol that has the text, in the slots of which one has it
  pub text_in-from : (slots : List (Option S)) (k : ℕ) (t : Text) → text_in entry slots k ≡ Some t
      → (s : S) × (Contains slots (Some s) × (entry s ≡ Some t))
  text_in-from [] k t e = absurd (cc)
  text_in-from (None ∷ rest) zero t e = absurd (cc)
  text_in-from (Some s ∷ rest) zero t e = (s, (here (Some s) rest, e))
  text_in-from (x ∷ rest) (suc k) t e = let r = text_in-from rest k t e in (r.0, (there (Some r.0) x rest r.1.0, r.1.1))

  pub at_slot : (slots : List (Option S)) (s : S) (k : ℕ) → k < length slots → get_or slots k (Some s) ≡ Some s → (t : Text) → entry s ≡ Some t → text_in entry slots k ≡ Some t
  at_slot [] s k l e t r = absurd (omega arith)
  at_slot (None ∷ rest) s zero l e t r = absurd (cc)
  at_slot (Some u ∷ rest) s zero l e t r = let q : u ≡ s = cc in ap entry q ∙ r
  at_slot (x ∷ rest) s (suc k) l e t r = at_slot rest s k (omega arith) e t r

  module _ (code : Text → ℕ) (slots : List (Option S)) (fits : Fits entry code slots) where
    -- one symbol has the text
    pub Fits-one : (t : Text) (s u : S) → Contains (symbols slots) s → Contains (symbols slots) u
        → has_text entry t s ≡ true → has_text entry t u ≡ true → s ≡ u
    Fits-one t s u hs hu es eu =
        let a = symbols-in slots s hs in let b = symbols-in slots u hu in
        let j = fits.distinct a.0 b.0 t (at_slot slots s a.0 a.1 a.2 t (entry_from_has t s es)) (at_slot slots u b.0 b.1 b.2 t (entry_from_has t u eu)) in
        let e : Some s ≡ Some u = sym a.2 ∙ get_or_default slots a.0 (Some s) (Some u) a.1 ∙ ap (λ k. get_or slots k (Some u)) j ∙ b.2 in
        let q : s ≡ u = cc in q

    -- the probe cluster of a text has its symbol, if any slot has
    pub Fits-find : (t : Text) → first_passing (has_text entry t) (probe_cluster slots (code t)) ≡ look_up entry slots t
    Fits-find t =
        same_first (has_text entry t) (probe_cluster slots (code t)) (symbols slots)
        (λ s e h. Contains-symbols slots s (Contains-turned slots (code t % length slots) (Some s) (cluster-in (probed slots (code t % length slots)) s h)))
        (λ s e h. fits.placed s t (symbols-in slots s h) (entry_from_has t s e))
        (Fits-one t)

    pub absent : (t : Text) → look_up entry slots t ≡ None → (s : S) → Contains slots (Some s) → entry s ≡ Some t → ⊥
    absent t e s h r =
        let f : FirstIs (has_text entry t) (symbols slots) None = subst (FirstIs (has_text entry t) (symbols slots)) e (first_is (has_text entry t) (symbols slots)) in
        f s (Contains-symbols slots s h) (has_from_entry t s r)

-- what a put keeps, and what it adds
module _ {S : Type 0} (old new : List (Option S)) (home : ℕ) (symbol : S) (p : FillsSlot old new home symbol) where
  pub FillsSlot-length : length new ≡ length old
  FillsSlot-length = ap length p.written ∙ length-set old p.at (Some symbol)

  pub FillsSlot-cases : (s : S) → Contains new (Some s) → (symbol ≡ s) ⊎ Contains old (Some s)
  FillsSlot-cases s h =
      let c : Contains (set old p.at (Some symbol)) (Some s) = subst (λ (xs : List (Option S)). Contains xs (Some s)) p.written h in
      elim (set_cases old p.at (Some symbol) (Some s) c) as (λ _. (symbol ≡ s) ⊎ Contains old (Some s)) [ inl e ↦ inl (cc) | inr t ↦ inr t ]

  pub FillsSlot-here : Contains new (Some symbol)
  FillsSlot-here = subst (λ (xs : List (Option S)). Contains xs (Some symbol)) (sym p.written) (set_here old p.at (Some symbol) p.in_range)

  pub FillsSlot-there : (s : S) → Contains old (Some s) → Contains new (Some s)
  FillsSlot-there s h =
      let ne : get_or old p.at None ≢ Some s = λ e. let z = p.was_empty in let q : None ≡ Some s = sym z ∙ e in cc in
      subst (λ (xs : List (Option S)). Contains xs (Some s)) (sym p.written) (set_there old p.at (Some symbol) (Some s) None h p.in_range ne)

  pub FillsSlot-symbols : length (symbols new) ≡ length (symbols old) + 1
  FillsSlot-symbols = ap (λ xs. length (symbols xs)) p.written ∙ symbols-set old p.at symbol p.in_range p.was_empty

  -- each cluster keeps its symbols
  pub FillsSlot-cluster : (from : ℕ) (s : S) → from < length old → Contains (front_cluster (probed old from)) s → Contains (front_cluster (probed new from)) s
  FillsSlot-cluster from s l h =
      let place : (i : ℕ) × ((i < length old) × ((p.at ≡ from + i) ⊎ (p.at + length old ≡ from + i))) =
      let r = p.in_range in
      elim (cases_lt p.at from) [ inl b ↦ (p.at + length old - from, (omega arith, inr (omega arith))) | inr b ↦ (p.at - from, (omega arith, inl (omega arith))) ] in
      let i = place.0 in
      let e : get_or (probed old from) i None ≡ None = get_or-probe old from i p.at None l place.1.0 p.in_range place.1.1 ∙ p.was_empty in
      let w : probed new from ≡ set (probed old from) i (Some symbol) =
      ap (λ xs. probed xs from) p.written ∙ probe-set old from i p.at (Some symbol) l place.1.0 p.in_range place.1.1 in
      subst (λ (xs : List (Option S)). Contains (front_cluster xs) s) (sym w) (cluster-set (probed old from) i (Some symbol) s e h)

  module _ (entry : S → Option Text) (code : Text → ℕ) (fits : Fits entry code old) (t : Text)
      (is : entry symbol ≡ Some t) (new_text : look_up entry old t ≡ None) (at_home : home ≡ code t % length old) where
    at_it : text_in entry new p.at ≡ Some t
    at_it = ap (λ xs. text_in entry xs p.at) p.written ∙ ap (λ o. option_and_then entry o) (get_or-set_same old p.at (Some symbol) None p.in_range) ∙ is

    elsewhere : (k : ℕ) → (k ≡ p.at → ⊥) → text_in entry new k ≡ text_in entry old k
    elsewhere k ne = ap (λ xs. text_in entry xs k) p.written ∙ ap (λ o. option_and_then entry o) (get_or-set_other old p.at k (Some symbol) None ne)

    clash : (k : ℕ) (u : Text) → text_in entry old k ≡ Some u → Some u ≡ Some t → ⊥
    clash k u e same = let r = text_in-from entry old k t (e ∙ same) in absent entry code old fits t new_text r.0 r.1.0 r.1.1

    distinct : (j k : ℕ) (u : Text) → text_in entry new j ≡ Some u → text_in entry new k ≡ Some u → j ≡ k
    distinct j k u a b =
        elim (cases_eq j p.at) as (λ _. j ≡ k) [
          | inl e ↦ (elim (cases_eq k p.at) as (λ _. j ≡ k) [
            | inl f ↦ e ∙ sym f
            | inr nf ↦ absurd (clash k u (sym (elsewhere k nf) ∙ b) (sym a ∙ ap (text_in entry new) e ∙ at_it))
          ])
          | inr ne ↦ (elim (cases_eq k p.at) as (λ _. j ≡ k) [
            | inl f ↦ absurd (clash j u (sym (elsewhere j ne) ∙ a) (sym b ∙ ap (text_in entry new) f ∙ at_it))
            | inr nf ↦ fits.distinct j k u (sym (elsewhere j ne) ∙ a) (sym (elsewhere k nf) ∙ b)
          ])
        ]

    abbrev InCluster : S → ℕ → Type 0
    InCluster s from = Contains (front_cluster (probed new from)) s

    pub FillsSlot-fits : Fits entry code new
    FillsSlot-fits = record {
      entries = λ s h. elim (FillsSlot-cases s h) as (λ _. IsSome (entry s))
          [ inl e ↦ (let q : entry s ≡ Some t = ap entry (sym e) ∙ is in rw q refl) | inr o ↦ fits.entries s o ];
      distinct = distinct;
      placed = λ s u h r. elim (FillsSlot-cases s h) as (λ _. Contains (probe_cluster new (code u)) s) [
        | inl e ↦ (let q : Some u ≡ Some t = sym r ∙ ap entry (sym e) ∙ is in let v : u ≡ t = cc in
            let w : home ≡ code u % length new = at_home ∙ ap (λ n. code t % n) (sym FillsSlot-length) ∙ ap (λ x. code x % length new) (sym v) in
            subst (InCluster s) w (subst (λ (x : S). InCluster x home) e p.placed))
        | inr o ↦ (let w : code u % length old ≡ code u % length new = ap (λ n. code u % n) (sym FillsSlot-length) in
            subst (InCluster s) w (FillsSlot-cluster (code u % length old) s (let l = p.in_range in omega arith) (fits.placed s u o r)))
      ];
    }

    pub FillsSlot-look_up : (q : Text) → look_up entry new q ≡ cond (bytes_eq q t) (Some symbol) (look_up entry old q)
    FillsSlot-look_up q =
        let test = has_text entry q in
        let one = Fits-one entry code new FillsSlot-fits q in
        let cases : (b : Bool) → bytes_eq q t ≡ b → look_up entry new q ≡ cond b (Some symbol) (look_up entry old q) =
        elim [
          | true ↦ λ e. let same : q ≡ t = (bytes_eq-Decides q t).0 e in
              let passes : has_text entry q symbol ≡ true = has_from_entry entry q symbol (is ∙ ap Some (sym same)) in
              only_first (has_text entry q) (symbols new) symbol (Contains-symbols new symbol FillsSlot-here) passes one
          | false ↦ λ e. same_first (has_text entry q) (symbols new) (symbols old)
              (λ s c h. elim (FillsSlot-cases s (symbols-in new s h)) as (λ _. Contains (symbols old) s) [
                | inl f ↦ absurd (let z : Some q ≡ Some t = sym (entry_from_has entry q s c) ∙ ap entry (sym f) ∙ is in
                    let y : q ≡ t = cc in let x = (bytes_eq-Decides q t).1 y in let w : true ≡ false = sym x ∙ e in cc)
                | inr o ↦ Contains-symbols old s o
              ])
              (λ s c h. Contains-symbols new s (FillsSlot-there s (symbols-in old s h)))
              (Fits-one entry code old fits q)
        ] in
        cases (bytes_eq q t) refl
