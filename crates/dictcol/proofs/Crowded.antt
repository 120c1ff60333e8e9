-- A file with more texts than symbols: how far its dictionary was read.
use Rattle.std.proofs.Common.{◌≡◌, ℕ, ◌+◌, List, [], ◌∷◌, ◌++◌, map, codes, Option, Some, None, Result, Ok, Err, MatchResult, refl, sym, ap, subst, ◌∙◌}
use Rattle.std.specs.Prelude.{MatchOption}
use Rattle.std.proofs.lemmas.List.{append_assoc, append-nil}
use Rattle.json.specs.Token.{Token, string as string_token}
use Rattle.serde_json.specs.Data.{Data, null, boolean, number, string, array, object, Items, no_items, item}
use Rattle.serde_json.specs.Find.{get}
use Rattle.serde_json.specs.View.{items_of}
use Rattle.string_interner.specs.Text.{Text, first}
use Rattle.string_interner.specs.Backend.{Appends}
use Rattle.string_interner.specs.Interner.{InternerContents}
use Rattle.string_interner.specs.Json.{refused, ReadsArrayExactly, ReadsElementsExactly}
use Rattle.string_interner.specs.Numbering.{Numbering}
use Rattle.string_interner.specs.declared.backend.InternError.{InternError}
use Rattle.string_interner.specs.declared.backend.InternError.TheVariants.{NoSymbol as InternNoSymbol, Memory as InternMemory}
use Rattle.string_interner.specs.declared.json.JsonError.{JsonError}
use Rattle.string_interner.specs.declared.json.JsonError.TheVariants.{NoSymbol, Repeated}
use Rattle.string_column.specs.Entries.{LacksSymbol}
use Rattle.dictcol.specs.Crowded.{LacksElement, LacksText}
use Rattle.dictcol.specs.Fault.{IsTakeFault}
use Rattle.dictcol.specs.declared.fault.Fault.{Fault}
use Rattle.dictcol.proofs.StreamTokens.{token-more}
use Rattle.dictcol.proofs.TooMany.{take-weaker}

-- elements are those of a list
abbrev listed : Items → List Data
listed no_items = []
listed (item element rest) = element ∷ listed rest

items-listed : (elements : Items) → items_of (listed elements) ≡ elements
items-listed no_items = refl
items-listed (item element rest) = ap (item element) (items-listed rest)

module _ {S : Type 0} (numbering : Numbering S) where
  -- the texts of tokens were read up to one that has no symbol
  pub text-lacks : (all ahead rest : List Token) (texts : List Text) (text : Text) (fault : Fault) → all ≡ map string_token texts ++ ahead → ahead ≡ string_token text ∷ rest
      → IsTakeFault (LacksSymbol numbering texts text) fault → IsTakeFault (LacksText numbering all) fault
  text-lacks all ahead rest texts text fault so_far next =
      take-weaker fault (λ lacks. (texts, text, rest, token-more string_token all ahead rest texts (texts ++ text ∷ []) text so_far next refl, lacks))

  -- the elements begin with texts, the last of which has no symbol behind those before it and the old ones
  abbrev LacksAmong : List Text → Items → Type 0
  LacksAmong old elements = (front : List Text) × (text : Text) × (rest : List Data) × (elements ≡ items_of (map string (front ++ text ∷ []) ++ rest)) × LacksSymbol numbering (old ++ front) text

  lacks-more : (old : List Text) (text : Text) (rest : Items) → LacksAmong (old ++ text ∷ []) rest → LacksAmong old (item (string text) rest)
  lacks-more old text rest (front, last, behind, are, lacks) =
      (text ∷ front, last, behind, ap (item (string text)) are, subst (λ texts. LacksSymbol numbering texts last) (append_assoc old (text ∷ []) front) lacks)

  module _ (outcome : Result InternerContents JsonError) (told : outcome ≡ Err NoSymbol) where
    among : (old : List Text) (i : ℕ) (elements : Items) → ReadsElementsExactly numbering old i elements outcome → LacksAmong old elements
    among old i no_items reads = let none = rw told at reads in absurd none
    among old i (item null rest) reads = let other = sym told ∙ reads in absurd (cc)
    among old i (item (boolean b) rest) reads = let other = sym told ∙ reads in absurd (cc)
    among old i (item (number n) rest) reads = let other = sym told ∙ reads in absurd (cc)
    among old i (item (array ds) rest) reads = let other = sym told ∙ reads in absurd (cc)
    among old i (item (object ms) rest) reads = let other = sym told ∙ reads in absurd (cc)
    among old i (item (string text) rest) reads = of (among (old ++ text ∷ []) (i + 1) rest) (first old text) refl reads
      where
        interned : (ReadsElementsExactly numbering (old ++ text ∷ []) (i + 1) rest outcome → LacksAmong (old ++ text ∷ []) rest) → first old text ≡ None
            → (read : Result S InternError) (mid : List Text) → Appends numbering.symbol_of numbering.place old text read mid
            → MatchResult read (λ _. ReadsElementsExactly numbering mid (i + 1) rest outcome) (λ error. outcome ≡ Err (refused error)) → LacksAmong old (item (string text) rest)
        interned later is_new (Ok symbol) mid put more = lacks-more old text rest (later (subst (λ texts. ReadsElementsExactly numbering texts (i + 1) rest outcome) put.1 more))
        interned later is_new (Err InternNoSymbol) mid put more =
            ([], text, listed rest, ap (item (string text)) (sym (items-listed rest)), subst (λ texts. LacksSymbol numbering texts text) (sym (append-nil old)) (record { is_new = is_new; none_left = put.0 }))
        interned later is_new (Err (InternMemory error)) mid put more = let other = sym told ∙ more in absurd (cc)

        of : (ReadsElementsExactly numbering (old ++ text ∷ []) (i + 1) rest outcome → LacksAmong (old ++ text ∷ []) rest) → (o : Option ℕ) → first old text ≡ o
            → MatchOption o ((read : Result S InternError) × (mid : List Text) × Appends numbering.symbol_of numbering.place old text read mid
            × MatchResult read (λ _. ReadsElementsExactly numbering mid (i + 1) rest outcome) (λ error. outcome ≡ Err (refused error)))
            (λ _. outcome ≡ Err (Repeated i)) → LacksAmong old (item (string text) rest)
        of later None is_new (read, mid, put, more) = interned later is_new read mid put more
        of later (Some k) known again = let other = sym told ∙ again in absurd (cc)

    -- a value whose dictionary is read up to a text that has no symbol
    pub lacks-element : (file value : Data) → Some value ≡ get (codes "dictionary") file → ReadsArrayExactly numbering value outcome → LacksElement numbering file
    lacks-element file null found reads = let other = sym told ∙ reads in absurd (cc)
    lacks-element file (boolean b) found reads = let other = sym told ∙ reads in absurd (cc)
    lacks-element file (number n) found reads = let other = sym told ∙ reads in absurd (cc)
    lacks-element file (string s) found reads = let other = sym told ∙ reads in absurd (cc)
    lacks-element file (object ms) found reads = let other = sym told ∙ reads in absurd (cc)
    lacks-element file (array elements) found reads =
        let is = among [] 0 elements reads in
        (is.0, is.1, is.2, sym found ∙ ap (λ es. Some (array es)) is.3, is.4)
