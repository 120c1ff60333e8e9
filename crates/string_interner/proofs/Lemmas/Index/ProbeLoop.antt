-- The loop of a probe over slots, from a home on: where it stands after some steps, if each passes one slot, or if some
-- pass several at once, and where it ends.
use Rattle.std.proofs.Common.{◌≡◌, ℕ, ◌+◌, ◌-◌, ◌<◌, ◌≤◌, ◌⊎◌, Bool, true, false, cond, List, ◌∷◌, Option, Some, None, length, get_or, take, drop, refl, sym, ap, ◌∙◌, inl, inr, arith, set, subst, zero, suc}
use Rattle.std.proofs.lemmas.List.{drop_more, length-append, length-take-le, length-drop, get_or_append_left, get_or-append_right, get_or-take, get_or-drop}
use Rattle.string_interner.specs.Slots.{probed, front_cluster, first_passing, symbols}
use Rattle.std.specs.List.{Contains}
use Rattle.std.specs.Option.{is_some}
use Rattle.string_interner.specs.Probe.{IsFree, FillsSlot, Follows, Misses, Passes, StepsTo}
use Rattle.string_interner.specs.declared.dedup.probe.Step.TheVariants.{Found, Free, On}
use Rattle.string_interner.proofs.Lemmas.Index.Slots.{cluster-set_end, probe-set, cluster_within}
use Rattle.string_interner.proofs.Lemmas.TaggedSlots.SymbolsIn.{symbols_in-at}
use Rattle.string_interner.specs.Tagged.{TaggedContents, HasAnotherTag, TagTells, symbols_in}

module _ {S : Type 0} where
  pub length-probe : (slots : List (Option S)) (home : ℕ) → home ≤ length slots → length (probed slots home) ≡ length slots
  length-probe slots home h = omega (arith, length-append (drop home slots) (take home slots), length-drop home slots, length-take-le home slots h)

  -- the i-th slot that is looked at is the one at home + i, or at home + i - length past the end
  pub get_or-probe :
      (slots : List (Option S)) (home i at : ℕ) (d : Option S) → home < length slots → i < length slots → at < length slots
      → (at ≡ home + i) ⊎ (at + length slots ≡ home + i) → get_or (probed slots home) i d ≡ get_or slots at d
  get_or-probe slots home i at d h k l (inl e) =
      let f : i < length (drop home slots) = omega (arith, length-drop home slots) in
      get_or_append_left (drop home slots) (take home slots) d i f ∙ get_or-drop home slots i d ∙ ap (λ j. get_or slots j d) (sym e)
  get_or-probe slots home i at d h k l (inr e) =
      let f : length (drop home slots) ≤ i = omega (arith, length-drop home slots) in
      let j : i - length (drop home slots) ≡ at = omega (arith, length-drop home slots) in
      get_or-append_right (drop home slots) (take home slots) (length (drop home slots)) i d refl f
      ∙ ap (λ m. get_or (take home slots) m d) j ∙ get_or-take home slots at d (omega arith)

  -- what is known of the slots from home on once i of them were passed, and the next one is `at`
  pub record Walked (test : S → Bool) (slots : List (Option S)) (home i at : ℕ) : Type 0 where
    pub in_range : at < length slots
    pub place : (at ≡ home + i) ⊎ (at + length slots ≡ home + i)
    pub found :
        first_passing test (front_cluster (probed slots home)) ≡ first_passing test (front_cluster (drop i (probed slots home)))
    pub cluster : length (front_cluster (probed slots home)) ≡ i + length (front_cluster (drop i (probed slots home)))

  pub Walked-start :
      (test : S → Bool) (slots : List (Option S)) (home : ℕ) → home < length slots → Walked test slots home 0 home
  Walked-start test slots home h = record { in_range = h; place = inl (omega arith); found = refl; cluster = omega arith }

  -- the rest begins with the slot at `at`
  rest : (slots : List (Option S)) (home i at : ℕ) → home < length slots → i < length slots → at < length slots
      → (at ≡ home + i) ⊎ (at + length slots ≡ home + i)
      → drop i (probed slots home) ≡ get_or slots at None ∷ drop (i + 1) (probed slots home)
  rest slots home i at h k l p =
      let m : i < length (probed slots home) = omega (arith, length-probe slots home (omega arith)) in
      drop_more (probed slots home) i None m
      ∙ ap (λ x. x ∷ drop (i + 1) (probed slots home)) (get_or-probe slots home i at None h k l p)

  module _ (test : S → Bool) (slots : List (Option S)) (home i at : ℕ) (h : home < length slots) (w : Walked test slots home i at) where
    -- the slot is empty: nothing was found, and the cluster has i slots
    pub Walked-empty : i < length slots → get_or slots at None ≡ None
        → (first_passing test (front_cluster (probed slots home)) ≡ None) × (length (front_cluster (probed slots home)) ≡ i)
    Walked-empty k e =
        let r = rest slots home i at h k w.in_range w.place ∙ ap (λ x. x ∷ drop (i + 1) (probed slots home)) e in (
          w.found ∙ ap (λ xs. first_passing test (front_cluster xs)) r,
          w.cluster ∙ ap (λ xs. i + length (front_cluster xs)) r ∙ (let z : i + 0 ≡ i = omega arith in z),
        )

    pub Walked-hit : (s : S) → i < length slots → get_or slots at None ≡ Some s → test s ≡ true
        → (first_passing test (front_cluster (probed slots home)) ≡ Some s) × (i < length (front_cluster (probed slots home)))
    Walked-hit s k e t =
        let r = rest slots home i at h k w.in_range w.place ∙ ap (λ x. x ∷ drop (i + 1) (probed slots home)) e in
        let more = front_cluster (drop (i + 1) (probed slots home)) in
        let n = ap (λ xs. length (front_cluster xs)) r in let m = w.cluster in (
          w.found ∙ ap (λ xs. first_passing test (front_cluster xs)) r ∙ ap (λ b. cond b (Some s) (first_passing test more)) t,
          omega arith,
        )

    pub Walked-more : (s : S) (next : ℕ) → i < length slots → get_or slots at None ≡ Some s → test s ≡ false
        → next < length slots → (next ≡ at + 1) ⊎ ((next ≡ 0) × (at + 1 ≡ length slots)) → Walked test slots home (i + 1) next
    Walked-more s next k e t l p =
        let r = rest slots home i at h k w.in_range w.place ∙ ap (λ x. x ∷ drop (i + 1) (probed slots home)) e in
        let more = front_cluster (drop (i + 1) (probed slots home)) in
        let n = ap (λ xs. length (front_cluster xs)) r in let m = w.cluster in let q = w.place in
        record {
          in_range = l;
          place = grind arith;
          found = w.found ∙ ap (λ xs. first_passing test (front_cluster xs)) r ∙ ap (λ b. cond b (Some s) (first_passing test more)) t;
          cluster = omega arith;
        }

module _ {S : Type 0} (slots : List (Option S)) (home : ℕ) (h : home < length slots) where
  abbrev pub Comes : ℕ → ℕ → Type 0
  Comes i at = Walked (λ (_ : S). false) slots home i at

  pub free_at : (test : S → Bool) (i at : ℕ) → Walked test slots home i at → i < length slots → get_or slots at None ≡ None → IsFree slots home at
  free_at test i at w k e =
      let cluster = (Walked-empty test slots home i at h w k e).1 in
      let m : i < length (probed slots home) = omega (arith, length-probe slots home (omega arith)) in (
        w.in_range,
        λ s. record {
          at = at;
          in_range = w.in_range;
          was_empty = e;
          written = refl;
          placed = subst (λ (xs : List (Option S)). Contains (front_cluster xs) s) (sym (probe-set slots home i at (Some s) h k w.in_range w.place))
              (cluster-set_end (probed slots home) i s cluster m);
        },
      )

  pub puts_at : (i at : ℕ) (s : S) → Comes i at → i < length slots → get_or slots at None ≡ None → FillsSlot slots (set slots at (Some s)) home s
  puts_at i at s w k e = (free_at (λ _. false) i at w k e).1 s

  pub passes : (i at next : ℕ) → Comes i at → i < length slots → is_some (get_or slots at None) ≡ true → next < length slots
      → (next ≡ at + 1) ⊎ ((next ≡ 0) × (at + 1 ≡ length slots)) → Comes (i + 1) next
  passes i at next w k e l p =
      let by : (o : Option S) → get_or slots at None ≡ o → is_some o ≡ true → Comes (i + 1) next =
      elim [ None ↦ λ q f. absurd (cc) | Some s ↦ λ q f. Walked-more (λ _. false) slots home i at h w s next k q refl l p ] in
      by (get_or slots at None) refl e

  -- one slot is empty, so the walk does not come to the end
  pub comes_to_empty : (i at : ℕ) → Comes i at → length slots ≤ i → length (symbols slots) < length slots → ⊥
  comes_to_empty i at w k free = let a = w.cluster in let b = cluster_within slots home in omega arith

module _ {S : Type 0} where
  pub empty_from : (o : Option S) → is_some o ≡ false → o ≡ None
  empty_from None e = refl
  empty_from (Some s) e = cc

  pub some_from : (o : Option S) → is_some o ≡ true → (s : S) × (o ≡ Some s)
  some_from None e = absurd (cc)
  some_from (Some s) e = (s, refl)

module _ {S : Type 0} where
  -- after so many steps, each of which passed a slot or more, the walk stands before this slot
  pub record Stands (test : S → Bool) (slots : List (Option S)) (home steps at : ℕ) : Type 0 where
    pub passed : ℕ
    pub walked : Walked test slots home passed at
    pub steps_le : steps ≤ passed

  -- no symbol passes the test of a walk to the first empty slot, so any tag tells that
  pub none_tells : (tagged : TaggedContents S) (tag : ℕ) → TagTells (λ _. false) tagged tag
  none_tells tagged tag k item l e h = absurd (let d : false ≡ true = h in cc)

  -- a slot of another tag misses
  pub HasAnotherTag-misses : (test : S → Bool) (tagged : TaggedContents S) (tag : ℕ) → TagTells test tagged tag → (k : ℕ) → k < length tagged → HasAnotherTag tagged tag k → Misses test (symbols_in tagged) k
  HasAnotherTag-misses test tagged tag tells k l o =
      let no : (t : Bool) → test o.item.symbol ≡ t → test o.item.symbol ≡ false = elim [ true ↦ λ e. absurd (o.other (tells k o.item l o.filled e)) | false ↦ λ e. e ] in
      record { symbol = o.item.symbol; filled = symbols_in-at tagged k (Some o.item) o.filled; fails = no (test o.item.symbol) refl }

  module _ (test : S → Bool) (slots : List (Option S)) (home : ℕ) (h : home < length slots) (free : length (symbols slots) < length slots) where
    -- one slot is empty, so fewer slots are passed than there are
    within : (i at : ℕ) → Walked test slots home i at → i < length slots
    within i at w = let r = w.cluster in let b = cluster_within slots home in omega arith

    -- a slot that misses is passed
    one : (i at next : ℕ) → Walked test slots home i at → Misses test slots at → Follows (length slots) at next → Walked test slots home (i + 1) next
    one i at next w o f = Walked-more test slots home i at h w o.symbol next (within i at w) o.filled o.fails f.within f.one_on

    -- and so are many
    many : (n i at to : ℕ) → Walked test slots home i at → to < length slots → at + n ≡ to
        → ((k : ℕ) → at ≤ k → k < to → Misses test slots k) → Walked test slots home (i + n) to
    many zero i at to w l e others =
        let q : at ≡ to = omega arith in let z : i ≡ i + 0 = omega arith in
        subst (λ j. Walked test slots home j to) z (subst (λ t. Walked test slots home i t) q w)
    many (suc n) i at to w l e others =
        let z : i + 1 + n ≡ i + suc n = omega arith in
        subst (λ j. Walked test slots home j to) z
        (many n (i + 1) (at + 1) to (one i at (at + 1) w (others at (omega arith) (omega arith)) (record { within = omega arith; one_on = inl refl })) l (omega arith) (λ k a b. others k (omega arith) b))

    pub Stands-start : Stands test slots home 0 home
    Stands-start = record { passed = 0; walked = Walked-start test slots home h; steps_le = omega arith }

    module _ (steps at : ℕ) (s : Stands test slots home steps at) where
      -- slots that miss are passed
      pub Stands-passed : (to : ℕ) → Passes test slots at to → Stands test slots home steps to
      Stands-passed to p =
          let a = s.steps_le in let b = p.ordered in record { passed = s.passed + (to - at); walked = many (to - at) s.passed at to s.walked p.within (omega arith) p.missed; steps_le = omega arith }

      -- and one more, which ends the step
      pub Stands-missed : (next : ℕ) → Misses test slots at → Follows (length slots) at next → Stands test slots home (steps + 1) next
      Stands-missed next m f =
          let a = s.steps_le in record { passed = s.passed + 1; walked = one s.passed at next s.walked m f; steps_le = omega arith }

      pub Stands-hit : (u : S) → get_or slots at None ≡ Some u → test u ≡ true
          → (first_passing test (front_cluster (probed slots home)) ≡ Some u) × (steps < length (front_cluster (probed slots home)))
      Stands-hit u e t = let a = s.steps_le in let b = Walked-hit test slots home s.passed at h s.walked u (within s.passed at s.walked) e t in let c = b.1 in (b.0, omega arith)

      pub Stands-empty : get_or slots at None ≡ None
          → (first_passing test (front_cluster (probed slots home)) ≡ None) × (steps ≤ length (front_cluster (probed slots home)))
      Stands-empty e = let a = s.steps_le in let b = Walked-empty test slots home s.passed at h s.walked (within s.passed at s.walked) e in let c = b.1 in (b.0, omega arith)

      pub Stands-free : get_or slots at None ≡ None → IsFree slots home at
      Stands-free e = free_at slots home h test s.passed at s.walked (within s.passed at s.walked) e

      -- no walk takes as many steps as there are slots
      pub Stands-ends : length slots ≤ steps → ⊥
      Stands-ends l = let a = s.steps_le in let b = within s.passed at s.walked in omega arith

    -- a step that leads on takes the walk with it
    pub Stands-on : (steps at next : ℕ) → Stands test slots home steps at → StepsTo test slots at (On next) → Stands test slots home (steps + 1) next
    Stands-on steps at next s l = Stands-missed steps l.0 (Stands-passed steps at s l.0 l.1) next l.2 l.3

    -- a step that finds a symbol finds that of the look-up
    pub Stands-found : (steps at : ℕ) (u : S) → Stands test slots home steps at → StepsTo test slots at (Found u)
        → (first_passing test (front_cluster (probed slots home)) ≡ Some u) × (steps < length (front_cluster (probed slots home)))
    Stands-found steps at u s l = Stands-hit steps l.0 (Stands-passed steps at s l.0 l.1) u l.2 l.3

    -- and one that comes to an empty slot ends it there
    pub record EndsAt (steps at : ℕ) : Type 0 where
      pub found : first_passing test (front_cluster (probed slots home)) ≡ None
      pub cluster : steps ≤ length (front_cluster (probed slots home))
      pub is_free : IsFree slots home at

    pub Stands-free_to : (steps at to : ℕ) → Stands test slots home steps at → StepsTo test slots at (Free to) → EndsAt steps to
    Stands-free_to steps at to s l =
        let t = Stands-passed steps at s to l.0 in let e = Stands-empty steps to t l.1 in
        record { found = e.0; cluster = e.1; is_free = Stands-free steps to t l.1 }
