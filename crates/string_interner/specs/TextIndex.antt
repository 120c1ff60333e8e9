-- What a look-up in an index of texts found, and one entry more.
-- Cited by the trait `TextIndex`.
use Rattle.std.specs.Prelude.{◌≡◌, ℕ, ◌⊎◌, List, Option, Some, None, ⊤}
use Rattle.string_interner.specs.Text.{Text}
use Rattle.string_interner.specs.Numbering.{Numbering}
use Rattle.string_interner.specs.Entry.{entry_text}
use Rattle.string_interner.specs.declared.dedup.text_index.Entry.{Entry}
use Rattle.string_interner.specs.declared.dedup.text_index.Entry.TheVariants.{Occupied, Vacant}

-- what a look-up found
abbrev pub found_by : {S V : Type 0} → Entry S V → Option S
found_by (Occupied symbol) = Some symbol
found_by (Vacant _) = None

-- what holds of the vacancy, if nothing was found
abbrev pub IfVacant : {S V : Type 0} → Entry S V → (V → Type 0) → Type 0
IfVacant (Occupied _) P = ⊤
IfVacant (Vacant vacancy) P = P vacancy

-- no symbol is that of an entry with this text
abbrev pub IsNewText : {S : Type 0} → (S → Option Text) → Text → Type 0
IsNewText {S} entry text = (symbol : S) → entry symbol ≡ Some text → ⊥

-- the index has the entries of these texts, under a hasher that gives this text this code
abbrev pub HasCode : {S : Type 0} → ((S → Option Text) → (Text → ℕ) → Type 0) → Numbering S → List Text → ℕ → Text → Type 0
HasCode indexes numbering texts code text = (of : Text → ℕ) × (indexes (entry_text numbering texts) of × (code ≡ of text))

-- what a look-up of a text found: the symbol of an entry with this text, and nothing exactly if no entry has it
abbrev pub FindsEntry : {S : Type 0} → (S → Option Text) → Text → Option S → Type 0
FindsEntry entry text (Some symbol) = entry symbol ≡ Some text
FindsEntry entry text None = IsNewText entry text

-- the new entries are the old ones and one more, which has this symbol and this text
pub record Adds {S : Type 0} (old new : S → Option Text) (symbol : S) (text : Text) : Type 0 where
  pub added : new symbol ≡ Some text
  pub kept : (s : S) (t : Text) → old s ≡ Some t → new s ≡ Some t
  pub only : (s : S) (t : Text) → new s ≡ Some t → (old s ≡ Some t) ⊎ (s ≡ symbol)

-- the same, where the text is new
pub record AddsEntry {S : Type 0} (old new : S → Option Text) (symbol : S) (text : Text) : Type 0 where
  pub new_text : IsNewText old text
  pub adds : Adds old new symbol text
