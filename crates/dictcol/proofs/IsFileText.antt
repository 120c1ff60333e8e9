-- The text of a file: what it reads as, and how it is put together.
use Rattle.std.proofs.Common.{◌≡◌, ℕ, ◌<◌, ◌≤◌, ◌^◌, lit≤, Bool, List, [], ◌∷◌, ◌++◌, map, All, Some, option_and_then, refl, sym, ap, ◌∙◌, append_assoc, append-nil}
use Rattle.std.proofs.lemmas.List.Elements.{All-head, All-tail}
use Rattle.json.specs.Json.{if_last, value as json_value}
use Rattle.json.specs.Lex.{tokens}
use Rattle.json.specs.Print.{print}
use Rattle.json.specs.Tree.{json_tokens, depth, items_depth, HasNumbers, ItemsHaveNumbers}
use Rattle.json.proofs.Printed.Decimals.{IsNumber-decimal}
use Rattle.json.proofs.Printed.Tokens.{tokens-print}
use Rattle.json.proofs.Printed.Trees.{ArePrintable-json_tokens, value-json_tokens}
use Rattle.serde_json.specs.Data as value
use Rattle.serde_json.specs.Data.{array, boolean}
use Rattle.serde_json.specs.Read.{max_depth, of_json, of_items, read}
use Rattle.serde_json.specs.View.{items_of}
use Rattle.serde_json.specs.Written.{outline, items_outline, compact_text}
use Rattle.serde_json.proofs.Numbers.{number_of-decimal}
use Rattle.serde_json.proofs.Texts.{print-outline}
use Rattle.string_interner.specs.Text.{Text}
use Rattle.string_interner.specs.Extend.{fresh}
use Rattle.string_interner.specs.Json.{json_of_number}
use Rattle.string_column.specs.Column.{AreCodes}
use Rattle.dictcol.specs.File.{column_file, IsFileText}
use Rattle.dictcol.proofs.Newline.{read-newline}

texts-read : (texts : List Text) → of_items (items_outline (items_of (map value.string texts))) ≡ Some (items_of (map value.string texts))
texts-read [] = refl
texts-read (t ∷ ts) = rw (texts-read ts) refl

numbers-read : (numbers : List ℕ) → All (λ n. n < 2 ^ 64) numbers → of_items (items_outline (items_of (map json_of_number numbers))) ≡ Some (items_of (map json_of_number numbers))
numbers-read [] small = refl
numbers-read (n ∷ ns) small = rw (number_of-decimal n (All-head (λ k. k < 2 ^ 64) n ns small), numbers-read ns (All-tail (λ k. k < 2 ^ 64) n ns small)) refl

texts-depth : (texts : List Text) → items_depth (items_outline (items_of (map value.string texts))) ≡ 0
texts-depth [] = refl
texts-depth (t ∷ ts) = rw (texts-depth ts) refl

numbers-depth : (numbers : List ℕ) → items_depth (items_outline (items_of (map json_of_number numbers))) ≡ 0
numbers-depth [] = refl
numbers-depth (n ∷ ns) = rw (numbers-depth ns) refl

-- the file is shallow enough to be read
file-depth : (dictionary : List Text) (numbers : List ℕ) (is_ended : Bool) → depth (outline (column_file dictionary numbers is_ended)) ≤ max_depth
file-depth dictionary numbers is_ended = rw (texts-depth dictionary, numbers-depth numbers) (lit≤ tt)

texts-printable : (texts : List Text) → ItemsHaveNumbers (items_outline (items_of (map value.string texts)))
texts-printable [] = tt
texts-printable (t ∷ ts) = (tt, texts-printable ts)

numbers-printable : (numbers : List ℕ) → All (λ n. n < 2 ^ 64) numbers → ItemsHaveNumbers (items_outline (items_of (map json_of_number numbers)))
numbers-printable [] small = tt
numbers-printable (n ∷ ns) small = (IsNumber-decimal n (All-head (λ k. k < 2 ^ 64) n ns small), numbers-printable ns (All-tail (λ k. k < 2 ^ 64) n ns small))

-- The compact text of the object, with a newline behind it, is the file of the lines.
pub is-file-text : (lines : List Text) (numbers : List ℕ) (is_ended : Bool) → AreCodes (fresh [] lines) numbers lines → All (λ n. n < 2 ^ 64) numbers
    → IsFileText lines is_ended (compact_text (column_file (fresh [] lines) numbers is_ended) ++ 10 ∷ [])
is-file-text lines numbers is_ended are small =
    let dictionary = fresh [] lines in
    let value = column_file (fresh [] lines) numbers is_ended in
    let text = compact_text (column_file (fresh [] lines) numbers is_ended) in
    let all_tokens = json_tokens (outline (column_file (fresh [] lines) numbers is_ended)) in
    let printed : text ≡ print all_tokens = sym (print-outline value) in
    let has_numbers : HasNumbers (outline value) = (texts-printable dictionary, (tt, (numbers-printable numbers small, tt))) in
    let found : tokens text ≡ all_tokens = ap tokens printed ∙ tokens-print all_tokens (ArePrintable-json_tokens (outline value) has_numbers) in
    let reads : of_json (outline value) ≡ Some value = rw (texts-read dictionary, numbers-read numbers small) refl in
    let is_read : read text ≡ Some value =
    ap (λ r. option_and_then of_json (option_and_then (λ p. if_last p.0 p.1) r)) (ap (json_value max_depth) (found ∙ sym (append-nil _)) ∙ value-json_tokens (outline value) max_depth [] (file-depth dictionary numbers is_ended)) ∙ reads in
    (value, (numbers, refl, are), read-newline text value (printed ∙ ap print (sym found)) is_read, refl)

-- how the object is put together, with the text of each key
pub object-in-order : (dictionary_key end_key lines_key texts word numbers : Text)
    → (((((((123 ∷ (dictionary_key ++ 58 ∷ []) ++ texts) ++ 44 ∷ (end_key ++ 58 ∷ [])) ++ word) ++ 44 ∷ (lines_key ++ 58 ∷ [])) ++ numbers) ++ 125 ∷ 10 ∷ []) ++ [])
    ≡ (123 ∷ (dictionary_key ++ 58 ∷ (texts ++ 44 ∷ (end_key ++ 58 ∷ (word ++ 44 ∷ (lines_key ++ 58 ∷ (numbers ++ 125 ∷ []))))))) ++ 10 ∷ []
object-in-order dictionary_key end_key lines_key texts word numbers = simp (append_assoc, append-nil)
