-- The invariant of a table, as it is made, grows, takes one entry more and is filled anew.
use Rattle.std.proofs.Common.{◌≡◌, ℕ, ◌+◌, ◌*◌, ◌<◌, ◌≤◌, sym, subst, ◌∙◌, inl, inr, arith}
use Rattle.std.proofs.lemmas.Bool.{cases_lt}
use Rattle.string_interner.specs.LoadFactor.{GrowsTo, IsLoadFactor, IsSlotCount}
use Rattle.string_interner.specs.LoadFactorLaws.{IsSlotCount-grown, entries-le}
use Rattle.string_interner.specs.Layout.{SlotLayout}
use Rattle.string_interner.specs.Probe.{HasFreeSlot}
use Rattle.string_interner.specs.Table.{HasRoom, IsSoundTable, TableContents, entry_count, slot_count}

twice_or_more : (count more : ℕ) → GrowsTo count more → 2 * count ≤ more
twice_or_more count more (inl a) = let x = a.0 in omega arith
twice_or_more count more (inr a) = let x = a.1 in omega arith

module _ {S L : Type 0} (layout : SlotLayout S L) (load : IsLoadFactor layout.holds) where
  abbrev holds : ℕ → ℕ → Type 0
  holds = layout.holds

  pub IsSoundTable-empty : (table : TableContents L) (capacity : ℕ) → entry_count layout table ≡ 0 → table.put_back ≡ 0 → IsSlotCount (slot_count layout table)
      → holds (slot_count layout table) capacity → IsSoundTable layout table 0
  IsSoundTable-empty table capacity none back allowed room =
      let no_entries : holds (slot_count layout table) 0 = load.fewer _ capacity 0 room (omega arith) in
      record {
        counted = sym none;
        bounded = record { allowed = allowed; load = subst (holds (slot_count layout table)) (sym none) no_entries; put_back = omega arith; greatest = omega arith };
        put_back = subst (holds (slot_count layout table)) (sym back) no_entries;
      }

  module _ (old : TableContents L) (len : ℕ) (s : IsSoundTable layout old len) where
    -- growth moved fewer symbols than full slots have
    pub back-le : ¬ HasRoom layout old → old.put_back ≤ len
    back-le no_room = elim (cases_lt len old.put_back) as (λ _. old.put_back ≤ len) [
      | inl l ↦ absurd (no_room (subst (λ n. holds (slot_count layout old) (n + 1)) s.counted (load.fewer _ old.put_back (len + 1) s.put_back (omega arith))))
      | inr l ↦ l
    ]

    -- where there is room for one more, the entries are fewer than the slots
    pub entries-lt : HasRoom layout old → len < slot_count layout old
    entries-lt room = let a = entries-le holds load _ _ room in let b = s.counted in omega arith

    -- a slot is empty, if there are any
    pub HasFreeSlot-sound : 0 < slot_count layout old → HasFreeSlot (layout.slots old.slots)
    HasFreeSlot-sound some = record {
      allowed = s.bounded.allowed;
      free = elim (load.within _ _ s.bounded.load) as (λ _. entry_count layout old < slot_count layout old) [ inl l ↦ l | inr z ↦ absurd (let b = z.0 in omega arith) ];
    }

    module _ (new : TableContents L) where
      -- so their sum is no more than the slots that it grows to
      pub sum-le : ¬ HasRoom layout old → GrowsTo (slot_count layout old) (slot_count layout new) → old.put_back + len ≤ slot_count layout new
      sum-le no_room grows =
          let a = back-le no_room in let b = twice_or_more _ _ grows in let d = entries-le holds load _ _ s.bounded.load in let e = s.counted in omega arith

      pub IsSoundTable-grown : ¬ HasRoom layout old → GrowsTo (slot_count layout old) (slot_count layout new) → entry_count layout new ≡ entry_count layout old
          → new.put_back ≡ old.put_back + len → new.greatest ≡ old.greatest → IsSoundTable layout new len
      IsSoundTable-grown no_room grows count back greatest =
          let a = s.counted in let b = s.bounded.greatest in let fewer = back-le no_room in let more = twice_or_more _ _ grows in
          let both : holds (2 * slot_count layout old) (old.put_back + len) = load.doubled _ _ _ s.put_back (subst (holds (slot_count layout old)) (sym a) s.bounded.load) in
          record {
            counted = a ∙ sym count;
            bounded = record {
              allowed = IsSlotCount-grown _ _ s.bounded.allowed grows;
              load = subst (holds (slot_count layout new)) (sym count) (load.wider _ _ _ s.bounded.load (omega arith));
              put_back = omega arith;
              greatest = omega arith;
            };
            put_back = subst (holds (slot_count layout new)) (sym back) (load.wider _ _ _ both more);
          }

      -- other entries in as many slots, and none of it was growth
      pub IsSoundTable-filled : (count : ℕ) → holds (slot_count layout old) count → entry_count layout new ≡ count → slot_count layout new ≡ slot_count layout old
          → new.put_back ≡ old.put_back → old.greatest ≤ new.greatest → count ≤ new.greatest → IsSoundTable layout new count
      IsSoundTable-filled count room entries slots back greater greatest =
          let q = s.bounded.put_back in
          record {
            counted = sym entries;
            bounded = record {
              allowed = subst IsSlotCount (sym slots) s.bounded.allowed;
              load = subst (λ n. holds n (entry_count layout new)) (sym slots) (subst (holds (slot_count layout old)) (sym entries) room);
              put_back = omega arith;
              greatest = omega arith;
            };
            put_back = subst (λ n. holds n new.put_back) (sym slots) (subst (holds (slot_count layout old)) (sym back) s.put_back);
          }
