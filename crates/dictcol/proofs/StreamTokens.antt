-- A file in the form that `encode` writes reads as its dictionary, its end and its numbers.
use Rattle.std.proofs.Common.{◌≡◌, ℕ, suc, ◌+◌, ◌-◌, ◌*◌, ◌^◌, ◌==◌, ◌<◌, ◌≤◌, Bool, false, List, [], ◌∷◌, ◌++◌, map, length, get_or, take, codes, Some, None, option_and_then, refl, sym, ap, subst, ◌∙◌, ne_eqb, append-nil, arith}
use Rattle.std.specs.Prelude.{All}
use Rattle.std.specs.List.{list_any}
use Rattle.std.proofs.lemmas.List.{append_assoc, map-append}
use Rattle.std.proofs.lemmas.Option.{slice_get-get_or}
use Rattle.std.proofs.lemmas.Bool.{lt-ltb}
use Rattle.std.specs.Char.{digit_value}
use Rattle.std.specs.Str.Parse.{AllDigits, digits_value}
use Rattle.std.proofs.lemmas.Int.Digits.{digits_more, digits_value_more}
use Rattle.fast_float.specs.Text.{scan, Parts as Numeral, IsWellFormed}
use Rattle.fast_float.proofs.Writing.{scan-text_of}
use Rattle.json.specs.Token.{Token, end_object, begin_array, end_array, key, string, number, boolean}
use Rattle.json.specs.Json as json
use Rattle.json.specs.Json.{Json, Parse, parse_map, items, members, value, if_last}
use Rattle.json.specs.Lex.{tokens}
use Rattle.json.proofs.Grammar.{value-begin_array, value-begin_object, value_is, items_end, items_more, members_end, members_more}
use Rattle.serde_json.specs.Data as json_data
use Rattle.serde_json.specs.Data.{Data, unsigned, object, member, no_members, array}
use Rattle.serde_json.specs.Read.{of_json, of_items, number_of, read}
use Rattle.serde_json.specs.View.{items_of}
use Rattle.serde_json.proofs.OnLiterals.{serde_json_on_literals}
use Rattle.string_interner.specs.Text.{Text, IsDistinct}
use Rattle.string_interner.specs.Json.{json_of_number}
use Rattle.string_column.specs.Column.{AreCodes, rows_of}
use Rattle.dictcol.specs.File.{column_file, FileHolds, HasDictionary}
use Rattle.dictcol.specs.Lines.{has_newline}
use Rattle.dictcol.specs.StreamTokens.{AreIndexes, stream}
use Rattle.dictcol.proofs.HoldsLines.{indexed_texts-numbers}

-- a text more was read
pub token-more : (make : Text → Token) (all ahead rest : List Token) (texts new : List Text) (text : Text) → all ≡ map make texts ++ ahead → ahead ≡ make text ∷ rest → new ≡ texts ++ text ∷ []
    → all ≡ map make new ++ rest
token-more make all ahead rest texts new text so_far next put =
    so_far ∙ ap (λ ts. map make texts ++ ts) next ∙ sym (append_assoc (map make texts) (make text ∷ []) rest) ∙ ap (λ ts. ts ++ rest) (sym (map-append make texts (text ∷ []))) ∙ ap (λ ts. map make ts ++ rest) (sym put)

json_items : (Text → Json) → List Text → json.Items
json_items make [] = json.no_items
json_items make (t ∷ ts) = json.item (make t) (json_items make ts)

-- an array of texts or numbers is read
items-read : (make : Text → Token) (json_of : Text → Json) (p : Parse Json) → ((text : Text) (ts : List Token) → p (make text ∷ ts) ≡ Some (json_of text, ts)) → ((text : Text) (ts : List Token) → json.after_end_array (make text ∷ ts) ≡ None)
    → (texts : List Text) (n : ℕ) (rest : List Token) → length (map make texts ++ end_array ∷ rest) ≤ n → items p n (map make texts ++ end_array ∷ rest) ≡ Some (json_items json_of texts, rest)
unfolding json_items
items-read make json_of p one opens [] n rest enough = items_end p n (end_array ∷ rest) rest enough refl
items-read make json_of p one opens (t ∷ ts) n rest enough =
    items_more p n (make t ∷ (map make ts ++ end_array ∷ rest)) (map make ts ++ end_array ∷ rest) (json_of t) (omega (arith, enough)) (opens t _) (one t _)
    ∙ ap (parse_map (json.item (json_of t))) (items-read make json_of p one opens ts (n - 1) rest (omega (arith, enough)))

string-read : (text : Text) (ts : List Token) → value 125 (string text ∷ ts) ≡ Some (json.string text, ts)
string-read text ts = value_is 125 (string text ∷ ts)

number-read : (text : Text) (ts : List Token) → value 125 (number text ∷ ts) ≡ Some (json.number text, ts)
number-read text ts = value_is 125 (number text ∷ ts)

array-read : (make : Text → Token) (json_of : Text → Json) → ((text : Text) (ts : List Token) → value 125 (make text ∷ ts) ≡ Some (json_of text, ts)) → ((text : Text) (ts : List Token) → json.after_end_array (make text ∷ ts) ≡ None)
    → (texts : List Text) (rest : List Token) → value 126 (begin_array ∷ (map make texts ++ end_array ∷ rest)) ≡ Some (json.array (json_items json_of texts), rest)
array-read make json_of one opens texts rest =
    value-begin_array 126 (map make texts ++ end_array ∷ rest) (omega arith)
    ∙ ap (parse_map json.array) (items-read make json_of (value 125) one opens texts (length (map make texts ++ end_array ∷ rest)) rest (omega arith))

-- the value of the tokens
stream-json : List Text → Bool → List Text → Json
stream-json dictionary is_ended numbers = json.object (json.member (codes "dictionary") (json.array (json_items json.string dictionary))
    (json.member (codes "final_newline") (json.boolean is_ended) (json.member (codes "lines") (json.array (json_items json.number numbers)) json.no_members)))

stream-value : (dictionary : List Text) (is_ended : Bool) (numbers : List Text) → value 127 (stream dictionary is_ended numbers) ≡ Some (stream-json dictionary is_ended numbers, [])
unfolding stream-json
stream-value dictionary is_ended numbers =
    let last = end_object ∷ [] in
    let third = begin_array ∷ (map number numbers ++ end_array ∷ last) in
    let second = boolean is_ended ∷ key (codes "lines") ∷ third in
    let first = begin_array ∷ (map string dictionary ++ end_array ∷ key (codes "final_newline") ∷ second) in
    let p = value 126 in
    let n = length (key (codes "dictionary") ∷ first) in
    let counted = length-first dictionary (key (codes "final_newline") ∷ second) in
    let long : length first ≡ 5 + length dictionary + length third = omega (arith, counted) in
    let lines = members_more p (n - 1 - 1) (codes "lines") (key (codes "lines") ∷ third) third last (json.array (json_items json.number numbers)) (omega (arith, long)) refl
    (array-read number json.number number-read (λ text ts. refl) numbers last) in
    let end = members_more p (n - 1) (codes "final_newline") (key (codes "final_newline") ∷ second) second (key (codes "lines") ∷ third) (json.boolean is_ended) (omega (arith, long)) refl
    (value_is 126 second) in
    let texts = members_more p n (codes "dictionary") (key (codes "dictionary") ∷ first) first (key (codes "final_newline") ∷ second) (json.array (json_items json.string dictionary)) (omega (arith, long)) refl
    (array-read string json.string string-read (λ text ts. refl) dictionary (key (codes "final_newline") ∷ second)) in
    let done = members_end p (n - 1 - 1 - 1) last [] (omega (arith, long)) refl in
    value-begin_object 127 (key (codes "dictionary") ∷ first) (omega arith)
    ∙ ap (parse_map json.object) (texts ∙ ap (parse_map (json.member (codes "dictionary") (json.array (json_items json.string dictionary))))
    (end ∙ ap (parse_map (json.member (codes "final_newline") (json.boolean is_ended)))
    (lines ∙ ap (parse_map (json.member (codes "lines") (json.array (json_items json.number numbers)))) done)))
  where
    length-first : (texts : List Text) (rest : List Token) → length (begin_array ∷ (map string texts ++ end_array ∷ rest)) ≡ 2 + length texts + length rest
    length-first [] rest = omega arith
    length-first (t ∷ ts) rest = let more = length-first ts rest in omega (arith, more)

texts-of : (texts : List Text) → of_items (json_items json.string texts) ≡ Some (items_of (map json_data.string texts))
unfolding json_items
texts-of [] = refl
texts-of (t ∷ ts) = rw (texts-of ts) refl

numbers-of : (numbers : List Text) (indexes : List ℕ) → AreIndexes numbers indexes → of_items (json_items json.number numbers) ≡ Some (items_of (map json_of_number indexes))
unfolding json_items
numbers-of [] [] are = refl
numbers-of [] (index ∷ indexes) are = absurd are
numbers-of (text ∷ numbers) [] are = absurd are
numbers-of (text ∷ numbers) (index ∷ indexes) are = rw (are.0, numbers-of numbers indexes are.1) refl

stream-data : (dictionary : List Text) (is_ended : Bool) (numbers : List Text) (indexes : List ℕ) → AreIndexes numbers indexes
    → of_json (stream-json dictionary is_ended numbers) ≡ Some (column_file dictionary indexes is_ended)
unfolding stream-json serde_json_on_literals
stream-data dictionary is_ended numbers indexes are = rw (texts-of dictionary, numbers-of numbers indexes are) refl

-- the text of such tokens reads so
pub stream-read : (text : Text) (dictionary : List Text) (is_ended : Bool) (numbers : List Text) (indexes : List ℕ) → tokens text ≡ stream dictionary is_ended numbers → AreIndexes numbers indexes
    → read text ≡ Some (column_file dictionary indexes is_ended)
stream-read text dictionary is_ended numbers indexes is are =
    ap (λ ts. option_and_then of_json (option_and_then (λ p. if_last p.0 p.1) (value 127 ts))) is
    ∙ ap (λ o. option_and_then of_json (option_and_then (λ p. if_last p.0 p.1) o)) (stream-value dictionary is_ended numbers)
    ∙ stream-data dictionary is_ended numbers indexes are

codes-within : (dictionary : List Text) (indexes : List ℕ) → ((row none : ℕ) → row < length indexes → get_or indexes row none < length dictionary) → AreCodes dictionary indexes (rows_of dictionary indexes)
codes-within dictionary [] within = tt
codes-within dictionary (index ∷ indexes) within =
    (slice_get-get_or dictionary index [] (within 0 0 (omega arith)), codes-within dictionary indexes (λ row none below. within (suc row) none (omega (arith, below))))

-- so it holds the lines of the numbers
pub stream-holds : (text : Text) (dictionary : List Text) (is_ended : Bool) (numbers : List Text) (indexes : List ℕ) → tokens text ≡ stream dictionary is_ended numbers → AreIndexes numbers indexes
    → IsDistinct dictionary → list_any has_newline dictionary ≡ false → All (λ index. index < length dictionary) indexes → FileHolds text (rows_of dictionary indexes) is_ended
unfolding serde_json_on_literals
stream-holds text dictionary is_ended numbers indexes is are distinct plain within = (
  column_file dictionary indexes is_ended,
  record {
    dictionary = dictionary;
    texts = refl;
    distinct = distinct;
    each_a_line = plain;
    numbers = items_of (map json_of_number indexes);
    indexes = refl;
    picked = indexed_texts-numbers dictionary indexes (rows_of dictionary indexes) (codes-within dictionary indexes within);
    end = refl;
  },
  stream-read text dictionary is_ended numbers indexes is are,
)

-- and its dictionary has the texts
pub stream-dictionary : (text : Text) (dictionary : List Text) (is_ended : Bool) (numbers : List Text) (indexes : List ℕ) → tokens text ≡ stream dictionary is_ended numbers → AreIndexes numbers indexes
    → HasDictionary text dictionary
unfolding serde_json_on_literals
stream-dictionary text dictionary is_ended numbers indexes is are = (column_file dictionary indexes is_ended, stream-read text dictionary is_ended numbers indexes is are, refl)

-- the parts of a numeral without a point and an exponent
abbrev whole : Text → Numeral
whole text = record { whole = text; point = false; fraction = []; exponent_negative = false; exponent = []; len = length (text ++ []) }

no-sign : (text : Text) → 0 < length text → AllDigits 10 text → (get_or text 0 0 == 45) ≡ false
no-sign [] some digits = absurd (omega (arith, some))
no-sign (byte ∷ text) some digits = ne_eqb byte 45 (λ is. let below = subst (λ b. digit_value b < 10) is digits.0 in omega (arith, below))

-- the number that a text of digits is
pub number-is : (text : Text) (index : ℕ) → 0 < length text → AllDigits 10 text → index ≡ digits_value 10 text → index < 2 ^ 64 → number_of text ≡ Some (unsigned index)
unfolding number_of
number-is text index some digits is fits =
    let formed : IsWellFormed (whole text) = record { whole_digits = digits; fraction_digits = tt; exponent_digits = tt; no_point = λ _. refl; no_exponent = λ _. refl; len_is = refl } in
    let scanned : scan text ≡ whole text = ap scan (sym (append-nil text)) ∙ scan-text_of (whole text) formed in
    let value : digits_value 10 (text ++ []) ≡ index = ap (digits_value 10) (append-nil text) ∙ sym is in
    rw (no-sign text some digits, scanned, lt-ltb 0 (length text) some, value, lt-ltb index (2 ^ 64) fits) refl

-- a digit more
pub digit-more : (bytes : Text) (i index new : ℕ) → i < length bytes → AllDigits 10 (take i bytes) → index ≡ digits_value 10 (take i bytes) → digit_value (get_or bytes i 0) < 10
    → new ≡ index * 10 + digit_value (get_or bytes i 0) → AllDigits 10 (take (i + 1) bytes) × (new ≡ digits_value 10 (take (i + 1) bytes))
digit-more bytes i index new inside digits is digit put =
    (digits_more 10 bytes i inside digits digit, put ∙ ap (λ n. n * 10 + digit_value (get_or bytes i 0)) is ∙ sym (digits_value_more 10 bytes i inside))
