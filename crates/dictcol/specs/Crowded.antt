-- When the dictionary of a file has too many texts, and how decoding may fail.
-- Cited by `decode`, `file` and `stream`.
use Rattle.std.specs.Prelude.{◌≡◌, ℕ, ◌-◌, ◌^◌, Option, List, [], ◌∷◌, ◌++◌, map, codes, ◌⊎◌, Some}
use Rattle.json.specs.Lex.{tokens}
use Rattle.json.specs.Token.{Token, begin_object, begin_array, key, string as string_token}
use Rattle.serde_json.specs.Data.{Data, array, string}
use Rattle.serde_json.specs.Find.{get}
use Rattle.serde_json.specs.Read.{read}
use Rattle.serde_json.specs.View.{items_of}
use Rattle.string_interner.specs.Text.{Text}
use Rattle.string_interner.specs.Numbering.{Numbering}
use Rattle.string_interner.specs.StringBackend.{string_numbering}
use Rattle.string_interner.specs.Symbol.{number_below}
use Rattle.string_column.specs.Entries.{LacksSymbol}
use Rattle.string_column.specs.Parts.{IsEntryFault}
use Rattle.string_column.specs.declared.rows.parts.PartsError.TheVariants.{NoSymbol}
use Rattle.dictcol.specs.Fault.{IsReadFault, IsWriteFault}
use Rattle.dictcol.specs.File.{HasDictionary, IsFileFault}
use Rattle.dictcol.specs.declared.fault.Fault.{Fault}

module _ {S : Type 0} (numbering : Numbering S) where
  -- the tokens begin with texts, and no symbol is left for the last of them behind the others
  abbrev pub LacksText : List Token → Type 0
  LacksText ts = (front : List Text) × (text : Text) × (rest : List Token) × (ts ≡ map string_token (front ++ text ∷ []) ++ rest) × LacksSymbol numbering front text

  -- the same of the dictionary that the tokens of a file begin with
  abbrev pub LacksEntry : List Token → Type 0
  LacksEntry ts = (list : List Token) × (ts ≡ begin_object ∷ key (codes "dictionary") ∷ begin_array ∷ list) × LacksText list

  -- the same of the elements of a value's dictionary
  abbrev pub LacksElement : Data → Type 0
  LacksElement value = (front : List Text) × (text : Text) × (rest : List Data)
      × (get (codes "dictionary") value ≡ Some (array (items_of (map string (front ++ text ∷ []) ++ rest)))) × LacksSymbol numbering front text

  -- the same of bytes, by their tokens, or by the value that they read as
  abbrev pub CrowdsFile : Text → Type 0
  CrowdsFile bytes = LacksEntry (tokens bytes) ⊎ ((value : Data) × (read bytes ≡ Some value) × LacksElement value)

  -- A column of the file's lines lacks a symbol: there are too many texts, or they would be in the order in which the lines have them.
  abbrev pub CrowdsColumn : Text → Type 0
  CrowdsColumn bytes = CrowdsFile bytes ⊎ ((texts : List Text) × HasDictionary bytes texts × IsEntryFault numbering texts NoSymbol)

-- how the default backend numbers texts: numbers below 2 ^ 32 - 1 have a symbol, which is that number
abbrev pub default_numbering : Numbering ℕ
default_numbering = string_numbering (number_below (2 ^ 32 - 1)) (λ symbol. symbol)

-- The faults of reading a file and writing the text that it holds. It is called damaged only if it holds no text, and not UTF-8 only
-- if it is not.
abbrev pub IsDecodeFault : Option Text → Fault → Type 0
IsDecodeFault input fault = IsReadFault fault ⊎ (IsFileFault (CrowdsFile default_numbering) input fault ⊎ IsWriteFault fault)
