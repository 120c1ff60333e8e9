-- JSON with a newline behind it reads as it does without.
use Rattle.std.proofs.Common.{◌≡◌, ℕ, Bool, true, false, cond, ◌&&◌, List, [], ◌∷◌, ◌++◌, Some, option_and_then, refl, sym, ap, ap₂, ◌∙◌, append_assoc}
use Rattle.json.specs.Json.{value, if_last}
use Rattle.json.specs.Token.{Token, begin_object, end_object, begin_array, end_array, key, string, number, boolean, null, bad}
use Rattle.json.specs.Word.{ends_word, word}
use Rattle.json.specs.Lex.{token, comma, colon, string_token, lex, between, in_word, fresh, punctuate, tokens}
use Rattle.json.specs.Print.{escape, quoted, token_text, begins, ends, print_from, print, IsPrintableOrBad, ArePrintableOrBad}
use Rattle.json.proofs.Numbered.{ArePrintableOrBad-tokens}
use Rattle.json.proofs.Printed.Numbers.{lex-number, in_word-ended}
use Rattle.json.proofs.Printed.Strings.{content-escape, lex-escape}
use Rattle.serde_json.specs.Data.{Data}
use Rattle.serde_json.specs.Read.{max_depth, of_json, read}

-- the lexemes of a string, and of a literal, before the rest
string-first : (s rest : List ℕ) → lex between (quoted s ++ rest) ≡ token (string s) ∷ lex between rest
unfolding lex
string-first s rest =
    ap (λ text. lex between (34 ∷ text)) (append_assoc (escape s) (34 ∷ []) rest)
    ∙ ap₂ (λ read lexemes. token (string_token read) ∷ lexemes) (content-escape s rest) (lex-escape s rest)

literal-first : (t : Token) (rest : List ℕ) → ends_word rest ≡ true → token (cond (ends_word rest) t bad) ∷ lex in_word rest ≡ token t ∷ lex between rest
literal-first t rest ended = ap₂ (λ ends lexemes. token (cond ends t bad) ∷ lexemes) ended (in_word-ended rest ended)

-- Two texts of the same lexemes have the same lexemes behind a comma, and behind a token.
module _ (a b : List ℕ) (same : lex between a ≡ lex between b) where
  behind-comma : (is_there : Bool) → lex between (cond is_there (44 ∷ []) [] ++ a) ≡ lex between (cond is_there (44 ∷ []) [] ++ b)
  unfolding lex
  behind-comma true = ap (λ lexemes. comma ∷ lexemes) same
  behind-comma false = same

  behind-literal : (t : Token) → ends_word a ≡ true → ends_word b ≡ true → token (cond (ends_word a) t bad) ∷ lex in_word a ≡ token (cond (ends_word b) t bad) ∷ lex in_word b
  behind-literal t a_ended b_ended = literal-first t a a_ended ∙ ap (λ lexemes. token t ∷ lexemes) same ∙ sym (literal-first t b b_ended)

  behind-token : (t : Token) → IsPrintableOrBad t → (ends t ≡ true → (ends_word a ≡ true) × (ends_word b ≡ true)) → lex between (token_text t ++ a) ≡ lex between (token_text t ++ b)
  unfolding lex word
  behind-token begin_object is ended = ap (λ lexemes. token begin_object ∷ lexemes) same
  behind-token end_object is ended = ap (λ lexemes. token end_object ∷ lexemes) same
  behind-token begin_array is ended = ap (λ lexemes. token begin_array ∷ lexemes) same
  behind-token end_array is ended = ap (λ lexemes. token end_array ∷ lexemes) same
  behind-token (key s) is ended =
      ap (lex between) (append_assoc (quoted s) (58 ∷ []) a) ∙ string-first s (58 ∷ a)
      ∙ ap (λ lexemes. token (string s) ∷ colon ∷ lexemes) same
      ∙ sym (ap (lex between) (append_assoc (quoted s) (58 ∷ []) b) ∙ string-first s (58 ∷ b))
  behind-token (string s) is ended = string-first s a ∙ ap (λ lexemes. token (string s) ∷ lexemes) same ∙ sym (string-first s b)
  behind-token (number s) is ended = lex-number s a is (ended refl).0 ∙ ap (λ lexemes. token (number s) ∷ lexemes) same ∙ sym (lex-number s b is (ended refl).1)
  behind-token (boolean true) is ended = behind-literal (boolean true) (ended refl).0 (ended refl).1
  behind-token (boolean false) is ended = behind-literal (boolean false) (ended refl).0 (ended refl).1
  behind-token null is ended = behind-literal null (ended refl).0 (ended refl).1
  behind-token bad is ended = same

-- what is printed behind a value ends a word, with a newline too
ended : (ts : List Token) → (ends_word (print_from true ts ++ 10 ∷ []) ≡ true) × (ends_word (print_from true ts) ≡ true)
unfolding print_from
ended [] = (refl, refl)
ended (begin_object ∷ ts) = (refl, refl)
ended (end_object ∷ ts) = (refl, refl)
ended (begin_array ∷ ts) = (refl, refl)
ended (end_array ∷ ts) = (refl, refl)
ended (key s ∷ ts) = (refl, refl)
ended (string s ∷ ts) = (refl, refl)
ended (number s ∷ ts) = (refl, refl)
ended (boolean b ∷ ts) = (refl, refl)
ended (null ∷ ts) = (refl, refl)
ended (bad ∷ ts) = (refl, refl)

ended-behind : (t : Token) (ts : List Token) → ends t ≡ true → (ends_word (print_from (ends t) ts ++ 10 ∷ []) ≡ true) × (ends_word (print_from (ends t) ts) ≡ true)
ended-behind t ts is = (ap (λ b. ends_word (print_from b ts ++ 10 ∷ [])) is ∙ (ended ts).0, ap (λ b. ends_word (print_from b ts)) is ∙ (ended ts).1)

same-lexemes : (after_value : Bool) (ts : List Token) → ArePrintableOrBad ts → lex between (print_from after_value ts ++ 10 ∷ []) ≡ lex between (print_from after_value ts)
unfolding lex print_from
same-lexemes after_value [] are = refl
same-lexemes after_value (t ∷ ts) are =
    let rest = print_from (ends t) ts in
    let behind = behind-token (rest ++ 10 ∷ []) rest (same-lexemes (ends t) ts are.1) t are.0 (ended-behind t ts) in
    let comma_if = cond (after_value && begins t) (44 ∷ []) [] in
    ap (lex between) (append_assoc comma_if (token_text t ++ rest) (10 ∷ []) ∙ ap (λ text. comma_if ++ text) (append_assoc (token_text t) rest (10 ∷ [])))
    ∙ behind-comma (token_text t ++ (rest ++ 10 ∷ [])) (token_text t ++ rest) behind (after_value && begins t)

-- A text as it is printed reads as the same value with a newline behind it.
pub read-newline : (text : List ℕ) (it : Data) → text ≡ print (tokens text) → read text ≡ Some it → read (text ++ 10 ∷ []) ≡ Some it
read-newline text it printed is =
    let lexemes = ap (λ t. lex between (t ++ 10 ∷ [])) printed ∙ same-lexemes false (tokens text) (ArePrintableOrBad-tokens text) ∙ sym (ap (lex between) printed) in
    ap (λ ls. option_and_then of_json (option_and_then (λ p. if_last p.0 p.1) (value max_depth (punctuate fresh ls)))) lexemes ∙ is
