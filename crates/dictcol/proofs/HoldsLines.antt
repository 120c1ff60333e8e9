-- What a file holds: at most one list of lines, and the file of some lines holds these.
use Rattle.std.proofs.Common.{◌≡◌, ◌≢◌, ℕ, ◌+◌, ◌-◌, ◌^◌, Bool, true, false, List, [], ◌∷◌, ◌++◌, map, codes, Some, None, Result, Ok, Err, MatchResult, refl, sym, ap, subst, ◌∙◌}
use Rattle.std.specs.Prelude.{⊤}
use Rattle.std.specs.List.{list_any}
use Rattle.std.proofs.lemmas.List.{append_assoc}
use Rattle.std.proofs.lemmas.Option.{same_Some}
use Rattle.serde_json.specs.Read.{read}
use Rattle.serde_json.specs.Data.{Data, boolean, string, array, Items, no_items, item}
use Rattle.serde_json.specs.Find.{get}
use Rattle.serde_json.specs.View.{items_of}
use Rattle.serde_json.proofs.OnLiterals.{serde_json_on_literals}
use Rattle.string_interner.specs.Text.{Text, IsDistinct}
use Rattle.string_interner.specs.Extend.{fresh}
use Rattle.string_interner.specs.Backend.{Appends}
use Rattle.string_interner.specs.Numbering.{Numbering}
use Rattle.string_interner.specs.StringBackend.{string_numbering}
use Rattle.string_interner.specs.Symbol.{number_below}
use Rattle.string_interner.specs.Interner.{InternerContents}
use Rattle.string_interner.specs.Json.{json_of_texts, json_of_number, refused, ReadsElementsExactly, ReadsArrayExactly}
use Rattle.string_interner.specs.declared.backend.InternError.{InternError}
use Rattle.string_interner.specs.declared.backend.InternError.TheVariants.{NoSymbol as InternNoSymbol, Memory as InternMemory}
use Rattle.string_interner.specs.declared.json.JsonError.{JsonError}
use Rattle.string_interner.specs.declared.json.JsonError.TheVariants.{NoSymbol, Memory}
use Rattle.string_interner.proofs.Lemmas.Json.Reads.{new_text}
use Rattle.string_column.specs.Column.{AreCodes}
use Rattle.string_column.proofs.Lemmas.Counts.{dictionary-distinct}
use Rattle.dictcol.specs.File.{IsFileOf, indexed_texts, HoldsLines, HoldsText, IsColumnFile, FileHolds, DecodesFile}
use Rattle.dictcol.specs.Lines.{has_newline, text_of_lines, AreLines}
use Rattle.dictcol.proofs.LinesOf.{text-of-lines, lines-plain, fresh-plain}

abbrev strings_in : Items → List Text
strings_in no_items = []
strings_in (item (string s) rest) = s ∷ strings_in rest
strings_in (item _ rest) = strings_in rest

abbrev texts_in : Data → List Text
texts_in (array items) = strings_in items
texts_in _ = []

strings_in-texts : (texts : List Text) → strings_in (items_of (map string texts)) ≡ texts
strings_in-texts [] = refl
strings_in-texts (t ∷ ts) = ap (λ rest. t ∷ rest) (strings_in-texts ts)

-- one JSON form, one list of texts
pub same-texts : (a b : List Text) → Some (json_of_texts a) ≡ Some (json_of_texts b) → a ≡ b
same-texts a b e = sym (strings_in-texts a) ∙ ap texts_in (same_Some _ _ e) ∙ strings_in-texts b

abbrev items_in : Data → Items
items_in (array items) = items
items_in _ = no_items

pub same-items : (a b : Items) → Some (array a) ≡ Some (array b) → a ≡ b
same-items a b e = ap items_in (same_Some _ _ e)

abbrev truth_in : Data → Bool
truth_in (boolean b) = b
truth_in _ = false

pub same-truth : (a b : Bool) → Some (boolean a) ≡ Some (boolean b) → a ≡ b
same-truth a b e = ap truth_in (same_Some _ _ e)

-- A file holds one text.
pub holds-once : (value : Data) (lines lines' : List Text) (is_ended is_ended' : Bool) → HoldsLines value lines is_ended → HoldsLines value lines' is_ended' → text_of_lines lines is_ended ≡ text_of_lines lines' is_ended'
holds-once value lines lines' is_ended is_ended' holds holds' =
    let texts = same-texts holds.dictionary holds'.dictionary (sym holds.texts ∙ holds'.texts) in
    let items = same-items holds.numbers holds'.numbers (sym holds.indexes ∙ holds'.indexes) in
    let truth = same-truth is_ended is_ended' (sym holds.end ∙ holds'.end) in
    let same = same_Some lines lines' (sym holds.picked ∙ ap (λ d. indexed_texts d holds.numbers) texts ∙ ap (indexed_texts holds'.dictionary) items ∙ holds'.picked) in
    ap (λ ls. text_of_lines ls is_ended) same ∙ ap (text_of_lines lines') truth

pub indexed_texts-numbers : (dictionary : List Text) (numbers : List ℕ) (lines : List Text) → AreCodes dictionary numbers lines → indexed_texts dictionary (items_of (map json_of_number numbers)) ≡ Some lines
indexed_texts-numbers dictionary [] [] are = refl
indexed_texts-numbers dictionary [] (l ∷ ls) are = absurd are
indexed_texts-numbers dictionary (n ∷ ns) [] are = absurd are
indexed_texts-numbers dictionary (n ∷ ns) (l ∷ ls) are = rw (are.0, indexed_texts-numbers dictionary ns ls are.1) refl

-- The file of lines holds them.
pub file-holds : (lines : List Text) (is_ended : Bool) (value : Data) → list_any has_newline lines ≡ false → IsFileOf lines is_ended value → HoldsLines value lines is_ended
unfolding serde_json_on_literals
file-holds lines is_ended value plain is =
    let dictionary = fresh [] lines in record {
      dictionary = dictionary;
      texts = ap (get (codes "dictionary")) is.1;
      distinct = dictionary-distinct lines;
      each_a_line = fresh-plain has_newline [] lines plain;
      numbers = items_of (map json_of_number is.0);
      indexes = ap (get (codes "lines")) is.1;
      picked = indexed_texts-numbers dictionary is.0 lines is.2;
      end = ap (get (codes "final_newline")) is.1;
    }

-- reading texts ended well, or they were refused
abbrev pub IsRead : Result InternerContents JsonError → Type 0
IsRead (Ok _) = ⊤
IsRead (Err NoSymbol) = ⊤
IsRead (Err (Memory _)) = ⊤
IsRead (Err _) = ⊥

refused-read : (error : InternError) → IsRead (Err (refused error))
refused-read InternNoSymbol = tt
refused-read (InternMemory _) = tt

-- how the dictionary of a file numbers its texts
abbrev pub dictionary_numbering : Numbering ℕ
dictionary_numbering = string_numbering (number_below (2 ^ 32 - 1)) (λ symbol. symbol)

module _ {S : Type 0} (numbering : Numbering S) where
  reads-rest : (front texts : List Text) (i : ℕ) (outcome : Result InternerContents JsonError) → IsDistinct (front ++ texts)
      → ReadsElementsExactly numbering front i (items_of (map string texts)) outcome → IsRead outcome
  reads-rest front [] i (Ok _) distinct read = tt
  reads-rest front [] i (Err _) distinct read = absurd read
  reads-rest front (text ∷ texts) i outcome distinct read =
      let now = rw (new_text front text texts distinct) at read in
      let behind : (front ++ text ∷ []) ++ texts ≡ front ++ text ∷ texts = append_assoc front (text ∷ []) texts in
      of now.0 now.1 now.2 now.3 (λ more. reads-rest (front ++ text ∷ []) texts (i + 1) outcome (subst IsDistinct (sym behind) distinct) more)
    where
      of : (interned : Result S InternError) (mid : List Text) → Appends numbering.symbol_of numbering.place front text interned mid
          → MatchResult interned (λ _. ReadsElementsExactly numbering mid (i + 1) (items_of (map string texts)) outcome) (λ error. outcome ≡ Err (refused error))
          → (ReadsElementsExactly numbering (front ++ text ∷ []) (i + 1) (items_of (map string texts)) outcome → IsRead outcome)
          → IsRead outcome
      of (Err error) mid put e on = subst IsRead (sym e) (refused-read error)
      of (Ok symbol) mid put more on = on (rw put.1 at more)

  -- what comes of reading the JSON form of distinct texts
  pub distinct-read : (texts : List Text) (value : Data) (outcome : Result InternerContents JsonError) → IsDistinct texts → value ≡ json_of_texts texts → ReadsArrayExactly numbering value outcome → IsRead outcome
  distinct-read texts value outcome distinct is read = reads-rest [] texts 0 outcome distinct (rw is at read)

-- Decoding what was encoded gives the same text: all that the file of a text's lines can hold is the text.
pub gives-back : (text : Text) (lines said : List Text) (is_ended said_ended : Bool) (value : Data) → AreLines text lines is_ended → IsFileOf lines is_ended value → HoldsLines value said said_ended → text_of_lines said said_ended ≡ text
gives-back text lines said is_ended said_ended value are is holds =
    holds-once value said lines said_ended is_ended holds (file-holds lines is_ended value (lines-plain text lines is_ended are) is) ∙ text-of-lines text lines is_ended are

-- The file that was encoded holds the text.
pub is-decoded : (text file : Text) → IsColumnFile text file → DecodesFile file text
is-decoded text file e =
    let holds = file-holds e.0 e.1 e.3.0 (lines-plain text e.0 e.1 e.2) e.3.1 in
    (e.3.0, (e.0, e.1, holds, sym (text-of-lines text e.0 e.1 e.2)), e.3.2)

-- What was encoded comes back: no other text is decoded.
pub comes-back : (text file said : Text) → IsColumnFile text file → DecodesFile file said → said ≡ text
comes-back text file said e d =
    let holds = subst (λ v. HoldsText v said) (same_Some d.0 e.3.0 (sym d.2 ∙ e.3.2)) d.1 in
    holds.3 ∙ gives-back text e.0 holds.0 e.1 holds.1 e.3.0 e.2 e.3.1 holds.2

-- ---- files that hold nothing

module _ (value : Data) where
  pub no-dictionary : ((texts : List Text) → IsDistinct texts → get (codes "dictionary") value ≢ Some (json_of_texts texts)) → (text : Text) → ¬ (HoldsText value text)
  no-dictionary none text holds = let s = holds.2 in none s.dictionary s.distinct s.texts

  pub no-numbers : ((numbers : Items) → get (codes "lines") value ≢ Some (array numbers)) → (text : Text) → ¬ (HoldsText value text)
  no-numbers none text holds = let s = holds.2 in none s.numbers s.indexes

  pub no-end : ((is_ended : Bool) → get (codes "final_newline") value ≢ Some (boolean is_ended)) → (text : Text) → ¬ (HoldsText value text)
  no-end none text holds = let s = holds.2 in none holds.1 s.end

  module _ (dictionary : List Text) (texts : get (codes "dictionary") value ≡ Some (json_of_texts dictionary)) where
    pub more-than-a-line : list_any has_newline dictionary ≡ true → (text : Text) → ¬ (HoldsText value text)
    more-than-a-line has text holds =
        let s = holds.2 in
        let same = same-texts dictionary s.dictionary (sym texts ∙ s.texts) in
        let both : true ≡ false = sym has ∙ ap (list_any has_newline) same ∙ s.each_a_line in absurd (cc)

    pub no-index : (numbers : Items) → get (codes "lines") value ≡ Some (array numbers) → indexed_texts dictionary numbers ≡ None → (text : Text) → ¬ (HoldsText value text)
    no-index numbers indexes none text holds =
        let s = holds.2 in
        let same = same-texts dictionary s.dictionary (sym texts ∙ s.texts) in
        let items = same-items numbers s.numbers (sym indexes ∙ s.indexes) in
        let both : None ≡ Some holds.0 = sym none ∙ ap (λ d. indexed_texts d numbers) same ∙ ap (indexed_texts s.dictionary) items ∙ s.picked in absurd (cc)

-- text that is no JSON is no file
pub no-json : (file : Text) → read file ≡ None → (text : Text) → ¬ (DecodesFile file text)
no-json file none text holds = let both : None ≡ Some holds.0 = sym none ∙ holds.2 in absurd (cc)

-- text that reads as a value is a file of what this holds
pub reads-as : (file text : Text) (value : Data) → read file ≡ Some value → ¬ (HoldsText value text) → ¬ (DecodesFile file text)
reads-as file text value is not holds = not (subst (λ v. HoldsText v text) (same_Some _ _ (sym holds.2 ∙ is)) holds.1)

-- a file of lines is decoded to their text
pub decodes-lines : (file : Text) (lines : List Text) (is_ended : Bool) → FileHolds file lines is_ended → DecodesFile file (text_of_lines lines is_ended)
decodes-lines file lines is_ended holds = (holds.0, (lines, is_ended, holds.1, refl), holds.2)
