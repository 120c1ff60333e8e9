-- Listing the texts of an interner, some of them at a time.
-- Cited by `AnyInterner::entries`, and by its export.
use Rattle.std.specs.Prelude.{◌≡◌, ℕ, ◌+◌, ◌-◌, ◌≤◌, List, ◌++◌, length, map, take, drop, min, Option, Some, None}
use Rattle.string_interner.specs.Text.{Text}
use Rattle.string_interner.specs.Iter.{entries}
use Rattle.string_interner.specs.Spelling.{digits}
use Rattle.handles.specs.Any.{numbering_of, text_at, texts_in}
use Rattle.handles.specs.declared.any.AnyInterner.{AnyInterner}
use Rattle.handles.specs.declared.kind.Kind.{Kind}
use Rattle.handles.specs.declared.kind.Kind.TheVariants.{String, Bucket, Buffer}
use Rattle.handles.specs.declared.text.Cursor.{Cursor}
use Rattle.handles.specs.declared.text.Entry.{Entry}

-- from the place of a text of this length to the next place
abbrev pub step_of : Kind → ℕ → ℕ
step_of String len = 1
step_of Bucket len = 1
step_of Buffer len = digits len + len

-- an entry as it is listed: its symbol and its text
abbrev pub symbol_and_text : Entry → Option ℕ × Text
symbol_and_text entry = (Some entry.symbol, entry.text.bytes.now)

-- An entry has the text that is read at a place, or nothing is read there.
abbrev pub IsEntryAt : AnyInterner → ℕ → Option Entry → Type 0
IsEntryAt any place (Some entry) = (entry.symbol ≡ place) × (text_at any place ≡ Some entry.text.bytes.now)
IsEntryAt any place None = text_at any place ≡ None

-- the entries from an index on
abbrev pub entries_from : AnyInterner → ℕ → List (Option ℕ × Text)
entries_from any index = entries (numbering_of any) (take index (texts_in any)) (drop index (texts_in any))

-- A cursor is at an entry of an interner, or behind the last: it has the index and the place.
pub record IsCursor (any : AnyInterner) (cursor : Cursor) : Type 0 where
  pub within : cursor.index ≤ length (texts_in any)
  pub place : (numbering_of any).place (take cursor.index (texts_in any)) ≡ cursor.place

-- From one cursor to another there are so many entries, which are at the front of a list.
pub record ListsPiece (any : AnyInterner) (from : Cursor) (count : ℕ) (list : List Entry) (to : Cursor) : Type 0 where
  pub cursor : IsCursor any to
  pub index : to.index ≡ from.index + count
  pub listed : map symbol_and_text (take count list) ++ entries_from any to.index ≡ entries_from any from.index

-- each of these entries has the text that is read at its symbol
abbrev pub AreRead : AnyInterner → List Entry → Type 0
AreRead any list = map (λ entry. text_at any entry.symbol) list ≡ map (λ entry. Some entry.text.bytes.now) list

-- Entries are listed from a cursor on, as many as there are and fit, and the rest of the list stays. Where the cursor is at no
-- entry, some texts are listed that are read at symbols.
pub record ListsFrom (any : AnyInterner) (before : List Entry × Cursor) (count : ℕ) (after : List Entry × Cursor) : Type 0 where
  pub fits : count ≤ length before.0
  pub same_length : length after.0 ≡ length before.0
  pub rest : drop count after.0 ≡ drop count before.0
  pub read : AreRead any (take count after.0)
  pub piece : IsCursor any before.1 → ListsPiece any before.1 count after.0 after.1
  pub many : IsCursor any before.1 → count ≡ min (length before.0) (length (texts_in any) - before.1.index)
