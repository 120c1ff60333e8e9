-- Joining lines, and what the lines of a text are.
use Rattle.std.proofs.Common.{◌≡◌, ◌≢◌, ℕ, Bool, true, false, cond, eqb, inl, inr, List, [], ◌∷◌, ◌++◌, Option, Some, None, Bor, refl, sym, ap, ◌∙◌}
use Rattle.std.specs.List.{list_any, slice_split, onto_first, join_with_byte, flat_map}
use Rattle.std.specs.Option.{option_map_or}
use Rattle.std.proofs.lemmas.Bool.{or_parts, true≢false}
use Rattle.std.proofs.lemmas.Bool.Decides.{eqb_tells}
use Rattle.std.proofs.lemmas.List.{append-nil, append_assoc}
use Rattle.std.proofs.lemmas.List.Splits.{join_with_byte-slice_split}
use Rattle.string_interner.specs.Text.{Text, first}
use Rattle.string_interner.specs.Extend.{fresh, texts_of}
use Rattle.dictcol.specs.Lines.{is_newline, newline_if, behind_newline, has_newline, text_of_lines, lines_of, AreLines}

-- the first line, and each further one behind a newline
pub join-first : (x : Bor Text) (xs : List (Bor Text)) → join_with_byte 10 (texts_of (x ∷ xs)) ≡ x.now ++ flat_map (λ line. behind_newline line.now) xs
join-first x [] = sym (append-nil x.now)
join-first x (y ∷ ys) = ap (λ rest. x.now ++ 10 ∷ rest) (join-first y ys)

pub texts_of-append : (xs ys : List (Bor Text)) → texts_of (xs ++ ys) ≡ texts_of xs ++ texts_of ys
texts_of-append [] ys = refl
texts_of-append (x ∷ xs) ys = ap (λ zs. x.now ∷ zs) (texts_of-append xs ys)

-- a text that ends in a newline has the parts before it
lines_of-ended : (body : Text) → lines_of (body ++ 10 ∷ []) ≡ slice_split is_newline body
lines_of-ended [] = refl
lines_of-ended (b ∷ bs) = ap (λ ls. cond (eqb b 10) ([] ∷ ls) (onto_first b ls)) (lines_of-ended bs)

-- one that does not has all parts
lines_of-unended : (b : ℕ) (bs : Text) → ((front : Text) → b ∷ bs ≡ front ++ 10 ∷ [] → ⊥) → lines_of (b ∷ bs) ≡ slice_split is_newline (b ∷ bs)
lines_of-unended b [] none = elim (eqb_tells b 10) as (λ _. lines_of (b ∷ []) ≡ slice_split is_newline (b ∷ [])) [
  | inl e ↦ absurd (none [] (ap (λ x. x ∷ []) e.1))
  | inr e ↦ ap (λ t. cond t ([] ∷ []) ((b ∷ []) ∷ [])) e.0 ∙ sym (ap (λ t. cond t ([] ∷ [] ∷ []) ((b ∷ []) ∷ [])) e.0)
]
lines_of-unended b (d ∷ bs) none = ap (λ ls. cond (eqb b 10) ([] ∷ ls) (onto_first b ls)) (lines_of-unended d bs (λ front e. none (b ∷ front) (ap (λ xs. b ∷ xs) e)))

-- So a text that is not empty has the parts between newlines of what stands before the newline at its very end.
pub lines_of-parts : (text body : Text) (is_ended : Bool) → text ≢ [] → text ≡ body ++ newline_if is_ended → ((front : Text) → text ≡ front ++ 10 ∷ [] → is_ended ≡ true)
    → lines_of text ≡ slice_split is_newline body
lines_of-parts [] body is_ended some whole end = absurd (some refl)
lines_of-parts (b ∷ bs) body true some whole end = ap lines_of whole ∙ lines_of-ended body
lines_of-parts (b ∷ bs) body false some whole end =
    lines_of-unended b bs (λ front e. true≢false (sym (end front e))) ∙ ap (slice_split is_newline) (whole ∙ append-nil body)

parts : (x : ℕ) (xs : Text) (lines : List Text) (is_ended : Bool) (are : AreLines (x ∷ xs) lines is_ended) → lines ≡ slice_split is_newline are.body
parts x xs lines is_ended are = are.lines_are ∙ lines_of-parts (x ∷ xs) are.body is_ended (λ e. absurd (cc)) are.whole are.end

no_end : (body : Text) (is_ended : Bool) → [] ≡ body ++ newline_if is_ended → newline_if is_ended ≡ []
no_end [] is_ended e = sym e
no_end (x ∷ xs) is_ended e = absurd (cc)

-- the text of the lines of a text is the text
pub text-of-lines : (text : Text) (lines : List Text) (is_ended : Bool) → AreLines text lines is_ended → text_of_lines lines is_ended ≡ text
text-of-lines [] lines is_ended are = rw are.lines_are (no_end are.body is_ended are.whole)
text-of-lines (x ∷ xs) lines is_ended are = rw (parts x xs lines is_ended are) (ap (λ body. body ++ newline_if is_ended) (join_with_byte-slice_split 10 are.body) ∙ sym are.whole)

module _ (test : ℕ → Bool) where
  onto-first : (x : ℕ) (parts : List Text) → test x ≡ false → list_any (list_any test) parts ≡ false → list_any (list_any test) (onto_first x parts) ≡ false
  onto-first x [] not_x h = rw not_x refl
  onto-first x (part ∷ parts) not_x h = rw not_x h

  one-part : (b : Bool) (x : ℕ) (parts : List Text) → test x ≡ b → list_any (list_any test) parts ≡ false → list_any (list_any test) (cond b ([] ∷ parts) (onto_first x parts)) ≡ false
  one-part true x parts is h = h
  one-part false x parts is h = onto-first x parts is h

  -- no part has what it is cut at
  pub parts-none : (xs : List ℕ) → list_any (list_any test) (slice_split test xs) ≡ false
  parts-none [] = refl
  parts-none (x ∷ xs) = one-part (test x) x (slice_split test xs) refl (parts-none xs)

-- no line of a text has a newline
pub lines-plain : (text : Text) (lines : List Text) (is_ended : Bool) → AreLines text lines is_ended → list_any has_newline lines ≡ false
lines-plain [] lines is_ended are = rw are.lines_are refl
lines-plain (x ∷ xs) lines is_ended are = rw (parts x xs lines is_ended are) (parts-none is_newline are.body)

-- nor has one of the distinct lines
pub fresh-plain : (test : Text → Bool) (old texts : List Text) → list_any test texts ≡ false → list_any test (fresh old texts) ≡ false
fresh-plain test old [] h = refl
fresh-plain test old (text ∷ texts) h =
    let parts = or_parts (test text) (list_any test texts) h in
    of (first old text) parts.0 (fresh-plain test old texts parts.1) (fresh-plain test (old ++ text ∷ []) texts parts.1)
  where
    of : (o : Option ℕ) → test text ≡ false → list_any test (fresh old texts) ≡ false → list_any test (fresh (old ++ text ∷ []) texts) ≡ false
        → list_any test (option_map_or (λ _. fresh old texts) o (text ∷ fresh (old ++ text ∷ []) texts)) ≡ false
    of (Some i) plain known new = known
    of None plain known new = rw plain new

-- a text more was walked over
pub walked-on : (items new : List (Bor Text)) (item : Bor Text) (ahead rest all : List Text) → texts_of items ++ ahead ≡ all → ahead ≡ item.now ∷ rest → new ≡ items ++ item ∷ [] → texts_of new ++ rest ≡ all
walked-on items new item ahead rest all so_far first pushed =
    ap (λ xs. texts_of xs ++ rest) pushed ∙ ap (λ ys. ys ++ rest) (texts_of-append items (item ∷ [])) ∙ append_assoc (texts_of items) (item.now ∷ []) rest ∙ ap (λ zs. texts_of items ++ zs) (sym first) ∙ so_far
