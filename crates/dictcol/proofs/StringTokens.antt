-- Strings of JSON without an escape.
use Rattle.std.proofs.Common.{◌≡◌, ℕ, zero, suc, ◌+◌, ◌<◌, ◌==◌, ◌||◌, nat_lt, Bool, true, false, cond, List, [], ◌∷◌, ◌++◌, length, get_or, take, drop, codes, Option, Some, None, refl, sym, ap, subst, ◌∙◌, ne_eqb, arith}
use Rattle.std.specs.Prelude.{slice_index}
use Rattle.std.specs.List.{list_any}
use Rattle.std.proofs.lemmas.Bool.{or_parts}
use Rattle.std.proofs.lemmas.List.{take-append-drop, drop_more}
use Rattle.memchr.specs.Find.{is_byte2, IsFirstByte}
use Rattle.json.specs.Token.{string}
use Rattle.json.specs.Text.{content, plain}
use Rattle.json.specs.Lex.{Lexeme, token, operator, space, other, lex_byte, string_token, Mode, between, in_string, lex, fresh, after_comma, begins_colon, punctuate, place_token, tokens}
use Rattle.json.specs.Word.{is_operator, is_space}
use Rattle.string_interner.specs.Text.{Text}
use Rattle.dictcol.specs.Lines.{has_newline}
use Rattle.dictcol.specs.StreamTokens.{behind_front}

-- the byte ends a string, or begins an escape, or is a control
abbrev pub is_special : ℕ → Bool
is_special byte = (byte == 34) || ((byte == 92) || nat_lt byte 32)

plain-content : (text behind : Text) → list_any is_special text ≡ false → content plain (text ++ 34 ∷ behind) ≡ Some text
unfolding content
plain-content [] behind none = refl
plain-content (b ∷ bs) behind none =
    let parts = or_parts (is_special b) (list_any is_special bs) none in
    let first = or_parts (b == 34) ((b == 92) || nat_lt b 32) parts.0 in
    let second = or_parts (b == 92) (nat_lt b 32) first.1 in
    rw (first.0, second.0, second.1, plain-content bs behind parts.1) refl

passed : (o s : Bool) (b : ℕ) (xs : Text) (k : Mode → List Lexeme) → lex_byte in_string (cond o operator (cond s space other)) b xs k ≡ k in_string
passed true s b xs k = refl
passed false true b xs k = refl
passed false false b xs k = refl

string-passed : (text behind : Text) → list_any is_special text ≡ false → lex in_string (text ++ 34 ∷ behind) ≡ lex between behind
unfolding lex
string-passed [] behind none = refl
string-passed (b ∷ bs) behind none =
    let parts = or_parts (is_special b) (list_any is_special bs) none in
    let first = or_parts (b == 34) ((b == 92) || nat_lt b 32) parts.0 in
    let second = or_parts (b == 92) (nat_lt b 32) first.1 in
    rw (first.0, second.0) (passed (is_operator b) (is_space b) b (bs ++ 34 ∷ behind) (λ next. lex next (bs ++ 34 ∷ behind)) ∙ string-passed bs behind parts.1)

-- a string without an escape is one token
string-lexed : (text behind : Text) → list_any is_special text ≡ false → lex between (34 ∷ (text ++ 34 ∷ behind)) ≡ token (string text) ∷ lex between behind
unfolding lex
string-lexed text behind none = rw (plain-content text behind none, string-passed text behind none) refl

-- a string may stand first or behind a comma
either-place : (rest : Text) → punctuate after_comma (lex between (34 ∷ rest)) ≡ tokens (34 ∷ rest)
unfolding lex punctuate
either-place rest = of (content plain rest) (begins_colon (lex in_string rest))
  where
    of : (found : Option Text) (colon : Bool) → place_token after_comma (string_token found) colon (λ next. punctuate next (lex in_string rest)) ≡ place_token fresh (string_token found) colon (λ next. punctuate next (lex in_string rest))
    of None colon = refl
    of (Some s) true = refl
    of (Some s) false = refl

-- a text in front of a further one
pub text-before : (text rest : Text) → list_any is_special text ≡ false → tokens (34 ∷ (text ++ 34 ∷ 44 ∷ 34 ∷ rest)) ≡ string text ∷ tokens (34 ∷ rest)
unfolding lex punctuate
text-before text rest none = ap (punctuate fresh) (string-lexed text (44 ∷ 34 ∷ rest) none) ∙ ap (λ ts. string text ∷ ts) (either-place rest)

-- the last text
pub text-last : (text rest : Text) → list_any is_special text ≡ false → tokens (34 ∷ (text ++ 34 ∷ 93 ∷ rest)) ≡ string text ∷ tokens (93 ∷ rest)
unfolding lex punctuate
text-last text rest none = ap (punctuate fresh) (string-lexed text (93 ∷ rest) none)

-- what is in front of the texts of a file
pub front-tokens : (list : Text) → tokens (codes "{\"dictionary\":[" ++ list) ≡ behind_front (tokens list)
unfolding lex punctuate content
front-tokens list = refl

-- ---- a string that is split off

abbrev pub is_control : ℕ → Bool
is_control byte = nat_lt byte 32

pub no-newline : (text : Text) → list_any is_control text ≡ false → has_newline text ≡ false
no-newline [] none = refl
no-newline (b ∷ bs) none =
    let parts = or_parts (is_control b) (list_any is_control bs) none in
    let other : (b == 10) ≡ false = ne_eqb b 10 (λ e. let both : true ≡ false = subst (λ x. nat_lt x 32 ≡ false) e parts.0 in absurd (cc)) in
    rw (other, no-newline bs parts.1) refl

not-true : (b : Bool) → (b ≡ true → ⊥) → b ≡ false
not-true true h = absurd (h refl)
not-true false h = refl

-- up to the first quote or backslash nothing is special without a control
none-special : (quoted : Text) (end : ℕ) → ((k : ℕ) → k < end → is_byte2 34 92 (slice_index quoted k) ≡ true → ⊥) → list_any is_control (take end quoted) ≡ false → list_any is_special (take end quoted) ≡ false
none-special [] zero before none = refl
none-special [] (suc end) before none = refl
none-special (b ∷ bs) zero before none = refl
none-special (b ∷ bs) (suc end) before none =
    let parts = or_parts (is_control b) (list_any is_control (take end bs)) none in
    let neither = or_parts (b == 34) (b == 92) (not-true _ (before 0 (omega arith))) in
    rw (neither.0, neither.1, parts.0, none-special bs end (λ k below. before (suc k) (omega (arith, below))) parts.1) refl

pub first-rest : (text : Text) (byte : ℕ) → 0 < length text → get_or text 0 0 ≡ byte → text ≡ byte ∷ drop 1 text
first-rest [] byte some is = absurd (omega (arith, some))
first-rest (b ∷ bs) byte some is = ap (λ x. x ∷ bs) is

module _ (list quoted text behind : Text) (end : ℕ) (opens : list ≡ 34 ∷ quoted) (first : IsFirstByte (is_byte2 34 92) quoted (Some end)) (closes : get_or quoted end 0 ≡ 34)
    (none : list_any is_control (take end quoted) ≡ false) (text_is : text ≡ take end quoted) (behind_is : behind ≡ drop (end + 1) quoted) where
  whole : list ≡ 34 ∷ (text ++ 34 ∷ behind)
  whole = opens ∙ ap (λ t. 34 ∷ t) (sym (take-append-drop end quoted) ∙ ap (λ t. take end quoted ++ t) (drop_more quoted end 0 first.0.high ∙ ap (λ b. b ∷ drop (end + 1) quoted) closes))
      ∙ rw (text_is, behind_is) refl

  special : list_any is_special text ≡ false
  special = ap (list_any is_special) text_is ∙ none-special quoted end (λ k below. first.0.before k (omega arith) below) none

  pub split-last : 0 < length behind → get_or behind 0 0 ≡ 93 → tokens list ≡ string text ∷ tokens behind
  split-last some closed =
      let is = first-rest behind 93 some closed in
      ap tokens whole ∙ ap (λ t. tokens (34 ∷ (text ++ 34 ∷ t))) is ∙ text-last text (drop 1 behind) special ∙ ap (λ t. string text ∷ tokens t) (sym is)

  pub split-before : (rest : Text) → 1 < length behind → get_or behind 0 0 ≡ 44 → get_or behind 1 0 ≡ 34 → rest ≡ drop 1 behind → tokens list ≡ string text ∷ tokens rest
  split-before rest some comma_is quote_is rest_is =
      let is : behind ≡ 44 ∷ rest = first-rest behind 44 (omega (arith, some)) comma_is ∙ ap (λ t. 44 ∷ t) (sym rest_is) in
      let next : rest ≡ 34 ∷ drop 1 rest = first-rest rest 34 (further behind rest is some) (second behind rest is quote_is) in
      ap tokens whole ∙ ap (λ t. tokens (34 ∷ (text ++ 34 ∷ t))) (is ∙ ap (λ t. 44 ∷ t) next) ∙ text-before text (drop 1 rest) special ∙ ap (λ t. string text ∷ tokens t) (sym next)
    where
      further : (behind rest : Text) → behind ≡ 44 ∷ rest → 1 < length behind → 0 < length rest
      further behind rest is some = let all = ap length is in omega (arith, all, some)

      second : (behind rest : Text) → behind ≡ 44 ∷ rest → get_or behind 1 0 ≡ 34 → get_or rest 0 0 ≡ 34
      second behind rest is quote_is = ap (λ t. get_or t 1 0) (sym is) ∙ quote_is
