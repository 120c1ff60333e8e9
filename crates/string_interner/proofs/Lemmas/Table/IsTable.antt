-- A table that has the text of each entry: as it is made, grows and takes one entry more.
use Rattle.std.proofs.Common.{◌≡◌, ℕ, ◌+◌, ◌%◌, [], Option, None, Result, Ok, Err, IfOk, length, max, refl, sym, ap, ◌∙◌}
use Rattle.string_interner.specs.Text.{Text}
use Rattle.string_interner.specs.Slots.{symbols}
use Rattle.string_interner.specs.Index.{Fits, SameMap, text_of}
use Rattle.string_interner.specs.Layout.{Fills, IsCoded, IsLayout, IsTable, SlotLayout}
use Rattle.string_interner.specs.Table.{FitsAll, InsertsByCode, TableContents, entry_count}
use Rattle.string_interner.specs.TextIndex.{AddsEntry}
use Rattle.string_interner.proofs.Lemmas.Index.Inserts.{AddsPair-put, Fits-put, puts_at, text_of_is}
use Rattle.string_interner.proofs.Lemmas.Index.IsWhole.{Fits-added, IsAbsent-added, IsWhole, IsWhole-added, look_up-none, text_of-added}
use Rattle.string_interner.proofs.Lemmas.Index.LookUp.{FillsSlot-length, FillsSlot-symbols}
use Rattle.string_interner.proofs.Lemmas.Index.Refills.{Fits-none}
use Rattle.string_interner.proofs.Lemmas.Table.IsCoded.{IsCoded-kept, IsCoded-none, IsCoded-put}

module _ {S L : Type 0} (layout : SlotLayout S L) (laws : IsLayout layout) where
  module _ (entry : S → Option Text) (code : Text → ℕ) (x : L) where
    -- what it is for slots to fit
    pub Fits-of : layout.fits entry code x → Fits entry code (layout.slots x)
    Fits-of fits = ((laws.fits_is entry code x).0 fits).0

    pub IsCoded-of : layout.fits entry code x → IsCoded layout.stores entry code (layout.slots x) (layout.stored x)
    IsCoded-of fits = ((laws.fits_is entry code x).0 fits).1

    pub fits-of : Fits entry code (layout.slots x) → IsCoded layout.stores entry code (layout.slots x) (layout.stored x) → layout.fits entry code x
    fits-of fits coded = (laws.fits_is entry code x).1 (fits, coded)

    pub IsWhole-of : IsTable layout entry code x → IsWhole entry code (layout.slots x)
    IsWhole-of table = record { fits = Fits-of table.fits; whole = table.whole }

  -- slots without symbols fit all entries
  pub FitsAll-empty : (x : L) → symbols (layout.slots x) ≡ [] → FitsAll layout x
  FitsAll-empty x e entry code = fits-of entry code x (Fits-none entry code (layout.slots x) e) (IsCoded-none layout.stores entry code (layout.slots x) (layout.stored x) e)

  -- and have each entry where there is none
  pub IsTable-none : (code : Text → ℕ) (x : L) → FitsAll layout x → IsTable layout (λ _. None) code x
  IsTable-none code x fits = record { fits = fits (λ _. None) code; whole = λ s t e. absurd (cc) }

  pub IsTable-none-ok : {E : Type 0} (made : Result (TableContents L) E) → IfOk made (λ table. FitsAll layout table.slots)
      → IfOk made (λ table. (code : Text → ℕ) → IsTable layout (λ _. None) code table.slots)
  IsTable-none-ok (Ok table) fits = λ code. IsTable-none code table.slots fits
  IsTable-none-ok (Err e) fits = tt

  -- the same map, in other slots
  pub IsTable-same : (entry : S → Option Text) (code : Text → ℕ) (old new : L) → IsTable layout entry code old → layout.fits entry code new → SameMap entry (layout.slots old) (layout.slots new)
      → IsTable layout entry code new
  IsTable-same entry code old new table fits same = record { fits = fits; whole = λ s t is. same t ∙ table.whole s t is }

  -- the symbol of a text that is one entry more
  pub IsTable-inserted : (entry more : S → Option Text) (code : Text → ℕ) (old new : TableContents L) (known_code : ℕ) (symbol : S) (t : Text) → AddsEntry entry more symbol t
      → IsTable layout entry code old.slots → known_code ≡ code t → InsertsByCode layout known_code old new symbol → IsTable layout more code new.slots
  IsTable-inserted entry more code old new known_code symbol t adds table is_code by =
      let one = adds.adds in let slots = layout.slots old.slots in let whole = IsWhole-of entry code old.slots table in
      let absent = look_up-none entry slots t adds.new_text in
      let text = text_of-added entry more code slots slots symbol t whole whole.fits (λ u. refl) one in
      let fits = fits-of more code old.slots (Fits-added entry more code slots slots symbol t whole whole.fits (λ u. refl) one)
      (IsCoded-kept layout.stores entry code more slots (layout.stored old.slots) one.kept whole.fits (IsCoded-of entry code old.slots table.fits)) in
      let inserts = by more code fits (IsAbsent-added entry more code slots slots symbol t whole whole.fits (λ u. refl) one absent) (is_code ∙ ap code (sym text)) in
      record {
        fits = inserts.fits;
        whole = (IsWhole-added entry more code slots slots symbol t whole whole.fits (λ u. refl) one absent (layout.slots new.slots) (Fits-of more code new.slots inserts.fits) inserts.pair).whole;
      }

  -- what is put by a code is inserted
  pub inserted : (old new : TableContents L) (known_code : ℕ) (symbol : S) → Fills layout old.slots new.slots (known_code % length (layout.slots old.slots)) symbol known_code
      → new.put_back ≡ old.put_back → new.greatest ≡ max old.greatest (entry_count layout old + 1) → InsertsByCode layout known_code old new symbol
  inserted old new known_code symbol fills back greatest entry code fits absent same =
      let slots = layout.slots old.slots in let more = layout.slots new.slots in
      let puts = puts_at slots more _ _ symbol same fills.slot in
      let list = Fits-of entry code old.slots fits in
      record {
        fits = fits-of entry code new.slots (Fits-put entry code slots more symbol list absent puts)
            (IsCoded-put layout entry code old.slots new.slots _ symbol known_code fills (text_of entry symbol) (text_of_is entry symbol absent.is_entry) (ap layout.stores same) (IsCoded-of entry code old.slots fits));
        pair = AddsPair-put entry code slots more symbol list absent puts;
        count = FillsSlot-symbols slots more _ symbol puts;
        slots = FillsSlot-length slots more _ symbol puts;
        put_back = back;
        greatest = greatest ∙ ap (max old.greatest) (sym (FillsSlot-symbols slots more _ symbol puts));
      }
