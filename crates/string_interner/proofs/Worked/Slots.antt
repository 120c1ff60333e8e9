-- How many slots an `Index` has, by the count of entries that came one after another: from 8 on twice as many where more
-- than three quarters would be filled. With the symbols that were moved as the slots grew.
use Rattle.std.proofs.Common.{◌≡◌, ℕ, zero, suc, ◌+◌, ◌*◌, ◌<◌, ◌≤◌, cond, max, List, [], length, Option, sym, ap, subst, ◌∙◌, inl, inr, arith, refl}
use Rattle.std.specs.Prelude.{nat_le}
use Rattle.std.proofs.lemmas.Bool.{cases_lt, le-leb, lt-leb}
use Rattle.string_interner.specs.Text.{Text}
use Rattle.string_interner.specs.Slots.{symbols}
use Rattle.string_interner.specs.LoadFactor.{GrowsTo}
use Rattle.string_interner.specs.Layout.{plain_layout}
use Rattle.string_interner.specs.Table.{TableContents, entry_count, slot_count, HasRoom, Inserts, Moves, Refills}

-- what contracts see of an `Index`
abbrev IndexContents : Type 0 → Type 0
IndexContents S = TableContents (List (Option S))

-- An index to which so many entries came, one after another, with room made for each before: from no slots on, which
-- stay where one more entry is allowed, and else grow.
pub data Filled {S : Type 0} : ℕ → IndexContents S → Type 0 where
  no_entries : (index : IndexContents S) → index.slots ≡ [] → index.put_back ≡ 0 → index.greatest ≡ 0 → Filled zero index
  had_room : {n : ℕ} {old new : IndexContents S} (entry : S → Option Text) (code : Text → ℕ) (symbol : S)
      → Filled n old → HasRoom plain_layout old → Inserts plain_layout entry code old new symbol → Filled (suc n) new
  grew : {n : ℕ} {old bigger new : IndexContents S} (entry : S → Option Text) (code : Text → ℕ) (symbol : S)
      → Filled n old → (¬ HasRoom plain_layout old) → GrowsTo (slot_count plain_layout old) (slot_count plain_layout bigger) → Moves plain_layout old bigger → entry_count plain_layout bigger ≡ entry_count plain_layout old → Inserts plain_layout entry code bigger new symbol → Filled (suc n) new

-- What so many slots grow to, and what slots and symbols put back come to as one entry joins so many others.
abbrev grown : ℕ → ℕ
grown zero = 8
grown (suc count) = 2 * suc count

abbrev slots_more : ℕ → ℕ → ℕ
slots_more n slots = cond (nat_le (4 * (n + 1)) (3 * slots)) slots (grown slots)

abbrev put_back_more : ℕ → ℕ → ℕ → ℕ
put_back_more n slots put_back = cond (nat_le (4 * (n + 1)) (3 * slots)) put_back (put_back + n)

abbrev slots_after : ℕ → ℕ
slots_after zero = 0
slots_after (suc n) = slots_more n (slots_after n)

abbrev put_back_after : ℕ → ℕ
put_back_after zero = 0
put_back_after (suc n) = put_back_more n (slots_after n) (put_back_after n)

grown-is : (slots more : ℕ) → GrowsTo slots more → grown slots ≡ more
grown-is zero more (inl a) = sym a.1
grown-is zero more (inr b) = let l = b.0 in absurd (omega arith)
grown-is (suc slots) more (inl a) = let z = a.0 in absurd (omega arith)
grown-is (suc slots) more (inr b) = sym b.1

stay : (n slots put_back : ℕ) → 4 * (n + 1) ≤ 3 * slots → (slots_more n slots ≡ slots) × (put_back_more n slots put_back ≡ put_back)
stay n slots put_back room = rw (le-leb (4 * (n + 1)) (3 * slots) room) (refl, refl)

grow : (n slots put_back more : ℕ) → 3 * slots < 4 * (n + 1) → GrowsTo slots more
    → (slots_more n slots ≡ more) × (put_back_more n slots put_back ≡ put_back + n)
grow n slots put_back more is_full grows = rw (lt-leb (4 * (n + 1)) (3 * slots) is_full) (grown-is slots more grows, refl)

no_room_left : (n slots : ℕ) → (¬ (4 * (n + 1) ≤ 3 * slots)) → 3 * slots < 4 * (n + 1)
no_room_left n slots none = elim (cases_lt (3 * slots) (4 * (n + 1))) as (λ _. 3 * slots < 4 * (n + 1)) [ inl l ↦ l | inr l ↦ absurd (none l) ]

abbrev Counts : {S : Type 0} → IndexContents S → ℕ → ℕ → ℕ → Type 0
Counts index n slots put_back = (entry_count plain_layout index ≡ n) × (length index.slots ≡ slots) × (index.put_back ≡ put_back) × (index.greatest ≡ n)

counts : {S : Type 0} {n : ℕ} {index : IndexContents S} → Filled n index → Counts index n (slots_after n) (put_back_after n)
counts (no_entries index none back most) = (ap (λ slots. length (symbols slots)) none, ap length none, back, most)
counts (had_room {n = n} {old = old} {new = new} entry code symbol before room inserts) =
    let h = counts before in
    let a = h.0 in let b = h.1 in let d = h.3 in
    let s = stay n (slots_after n) (put_back_after n) (subst (λ len. 4 * (n + 1) ≤ 3 * len) b (subst (λ count. 4 * (count + 1) ≤ 3 * length old.slots) a room)) in
    let count = inserts.count in let most = inserts.greatest in
    (omega arith, inserts.slots ∙ b ∙ sym s.0, inserts.put_back ∙ h.2 ∙ sym s.1, omega arith)
counts (grew {n = n} {old = old} {bigger = bigger} {new = new} entry code symbol before none grows moves same inserts) =
    let h = counts before in
    let a = h.0 in let b = h.1 in let d = h.3 in
    let left = no_room_left n (slots_after n) (λ room. none (rw (a, b) room)) in
    let s = grow n (slots_after n) (put_back_after n) (length bigger.slots) left (subst (λ len. GrowsTo len (length bigger.slots)) b grows) in
    let count = inserts.count in let most = inserts.greatest in let kept = moves.greatest in
    let back : bigger.put_back ≡ put_back_after n + n = moves.put_back ∙ (let p = h.2 in omega arith) in
    (omega arith, inserts.slots ∙ sym s.0, inserts.put_back ∙ back ∙ sym s.1, omega arith)

-- Of an index with so many entries: its slots, and how many symbols were put back.
abbrev AfterEntries : Type 0 → ℕ → ℕ → ℕ → Type 0
AfterEntries S n slots put_back = (index : IndexContents S) → Filled n index → (length index.slots ≡ slots) × (index.put_back ≡ put_back)

pub after-no-entry : (S : Type 0) → AfterEntries S 0 0 0
after-no-entry S index filled = let h = counts filled in (h.1, h.2)

pub after-one-entry : (S : Type 0) → AfterEntries S 1 8 0
after-one-entry S index filled = let h = counts filled in (h.1, h.2)

pub after-six-entries : (S : Type 0) → AfterEntries S 6 8 0
after-six-entries S index filled = let h = counts filled in (h.1, h.2)

pub after-seven-entries : (S : Type 0) → AfterEntries S 7 16 6
after-seven-entries S index filled = let h = counts filled in (h.1, h.2)

pub after-twelve-entries : (S : Type 0) → AfterEntries S 12 16 6
after-twelve-entries S index filled = let h = counts filled in (h.1, h.2)

pub after-thirteen-entries : (S : Type 0) → AfterEntries S 13 32 18
after-thirteen-entries S index filled = let h = counts filled in (h.1, h.2)

pub after-twenty-four-entries : (S : Type 0) → AfterEntries S 24 32 18
after-twenty-four-entries S index filled = let h = counts filled in (h.1, h.2)

pub after-twenty-five-entries : (S : Type 0) → AfterEntries S 25 64 42
after-twenty-five-entries S index filled = let h = counts filled in (h.1, h.2)

-- thirteen entries that gave way to two: slots and counts stay
pub after-truncating : (S : Type 0) (entry : S → Option Text) (code : Text → ℕ) (old new : IndexContents S) → Filled 13 old → Refills plain_layout entry code old new 2
    → (length new.slots ≡ 32) × (new.put_back ≡ 18) × (new.greatest ≡ 13)
after-truncating S entry code old new filled refills =
    let h = counts filled in (refills.slots ∙ h.1, refills.put_back ∙ h.2, refills.greatest ∙ ap (λ most. max most 2) h.3)
