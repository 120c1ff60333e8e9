-- What a backend resolves, as the text of the entry that has the symbol.
use Rattle.std.proofs.Common.{◌≡◌, ℕ, false, List, [], Some, sym, ap}
use Rattle.std.specs.Prelude.{slice_get, IsSome}
use Rattle.std.specs.Option.{option_map_or, unwrap_or}
use Rattle.std.specs.Str.{bytes_eq}
use Rattle.string_interner.specs.Text.{Text}
use Rattle.string_interner.specs.Backend.{BeginsAt}
use Rattle.string_interner.specs.Entry.{entry_text}
use Rattle.string_interner.specs.EntryLaws.{entry_text-resolved}
use Rattle.string_interner.specs.Index.{has_text, text_of}
use Rattle.string_interner.specs.Numbering.{Numbering}

module _ {S : Type 0} (numbering : Numbering S) where
  -- a text that is the one of each entry that begins at a symbol's number is the text of the symbol
  pub text_of-resolved : (texts : List Text) (symbol : S) (text : Text) → IsSome (entry_text numbering texts symbol)
      → ((i : ℕ) → BeginsAt numbering.place texts (numbering.number symbol) i → slice_get texts i ≡ Some text) → text ≡ text_of (entry_text numbering texts) symbol
  text_of-resolved texts symbol text h each = sym (ap (λ o. unwrap_or o []) (entry_text-resolved numbering texts symbol text h each))

  -- and to compare it is to compare the text of the symbol
  pub has_text-resolved : (texts : List Text) (symbol : S) (text found : Text) → IsSome (entry_text numbering texts symbol)
      → ((i : ℕ) → BeginsAt numbering.place texts (numbering.number symbol) i → slice_get texts i ≡ Some found)
      → bytes_eq found text ≡ has_text (entry_text numbering texts) text symbol
  has_text-resolved texts symbol text found h each =
      ap (λ o. option_map_or (λ found. bytes_eq found text) o false) (sym (entry_text-resolved numbering texts symbol found h each))
