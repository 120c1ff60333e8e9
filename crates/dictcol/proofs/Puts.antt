-- What is held for an output, and what was written to it.
use Rattle.std.proofs.Common.{◌≡◌, ℕ, List, [], ◌∷◌, ◌++◌, Option, None, Some, Bool, true, map, refl, sym, ap, subst, ◌∙◌, append_assoc, append-nil}
use Rattle.std.proofs.KnownBytes.{Appends-trans}
use Rattle.std.proofs.lemmas.Grind.{flat_map-append}
use Rattle.std.specs.Io.KnownBytes.{Appends}
use Rattle.json.specs.Print.{escape, escape_byte, quoted}
use Rattle.serde_json.specs.Data as value
use Rattle.serde_json.specs.View.{items_of}
use Rattle.serde_json.specs.Written.{comma_if, compact_text, items_text}
use Rattle.string_interner.specs.Text.{Text}
use Rattle.string_interner.specs.Json.{json_of_number}
use Rattle.dictcol.specs.Writes.{Puts}

-- bytes more are held
pub puts-held : (known : Option (List ℕ)) (old new bytes : Text) → new ≡ old ++ bytes → Puts known old known new bytes
puts-held None old new bytes grown = tt
puts-held (Some xs) old new bytes grown = ap (λ l. xs ++ l) grown ∙ sym (append_assoc xs old bytes)

-- nothing changes
pub puts-nothing : (known : Option (List ℕ)) (held : Text) → Puts known held known held []
puts-nothing known held = puts-held known held held [] (sym (append-nil held))

-- nothing is held at the start and at the end
pub puts-all : (old new : Option (List ℕ)) (held left bytes : Text) → held ≡ [] → left ≡ [] → Puts old held new left bytes → Appends old new bytes
puts-all None new held left bytes first last puts = tt
puts-all (Some xs) None held left bytes first last puts = absurd puts
puts-all (Some xs) (Some ys) held left bytes first last puts =
    sym (append-nil ys) ∙ ap (λ l. ys ++ l) (sym last) ∙ puts ∙ ap (λ l. (xs ++ l) ++ bytes) first ∙ ap (λ l. l ++ bytes) (append-nil xs)

in-order : (front comma item : Text) → ((front ++ []) ++ comma) ++ item ≡ front ++ (comma ++ item)
in-order front comma item = ap (λ l. (l ++ comma) ++ item) (append-nil front) ∙ append_assoc front comma item

-- an item more is appended, behind a comma if it is a further one
pub puts-item : (start before middle after : Option (List ℕ)) (first held emptied separated last front item : Text) (is_further : Bool) → Puts start first before held front
    → Puts before held middle emptied [] → separated ≡ emptied ++ comma_if is_further → Puts middle separated after last item → Puts start first after last (front ++ (comma_if is_further ++ item))
puts-item start before middle after first held emptied separated last front item is_further so_far room comma more =
    subst (λ bytes. Puts start first after last bytes) (in-order front (comma_if is_further) item)
    (Appends-trans _ _ _ _ item (Appends-trans _ _ _ _ (comma_if is_further) (Appends-trans _ _ _ front [] so_far room) (puts-held middle emptied separated (comma_if is_further) comma)) more)

string-in-order : (front back : Text) → ((34 ∷ [] ++ front) ++ back) ++ 34 ∷ [] ≡ 34 ∷ ((front ++ back) ++ 34 ∷ [])
string-in-order front back = refl

-- a string is appended: what stands for its front, and then for its back
pub puts-string : (before after : Option (List ℕ)) (held opened put closing last text front back : Text) → opened ≡ held ++ 34 ∷ [] → text ≡ front ++ back → Puts before opened after put (escape front)
    → closing ≡ put ++ escape back → last ≡ closing ++ 34 ∷ [] → Puts before held after last (quoted text)
puts-string before after held opened put closing last text front back opens whole puts puts_back closes =
    let all : escape front ++ escape back ≡ escape text = sym (flat_map-append escape_byte front back) ∙ ap escape (sym whole) in
    subst (λ bytes. Puts before held after last bytes) (string-in-order (escape front) (escape back) ∙ ap (λ s. 34 ∷ (s ++ 34 ∷ [])) all)
    (Appends-trans _ _ _ _ (34 ∷ []) (Appends-trans _ _ _ _ (escape back) (Appends-trans _ _ _ (34 ∷ []) (escape front) (puts-held before held opened (34 ∷ []) opens) puts)
    (puts-held after put closing (escape back) puts_back)) (puts-held after closing last (34 ∷ []) closes))

-- a text more stands in the array
pub text-more : (is_further : Bool) (front text whole : Text) (ahead rest : List Text) → front ++ items_text is_further (items_of (map value.string ahead)) ≡ whole → ahead ≡ text ∷ rest
    → (front ++ (comma_if is_further ++ quoted text)) ++ items_text true (items_of (map value.string rest)) ≡ whole
text-more is_further front text whole ahead rest so_far first =
    append_assoc front _ _ ∙ ap (λ l. front ++ l) (append_assoc (comma_if is_further) (quoted text) _)
    ∙ ap (λ ts. front ++ items_text is_further (items_of (map value.string ts))) (sym first) ∙ so_far

-- and so does a number
pub number-more : (is_further : Bool) (front whole : Text) (number : ℕ) (ahead rest : List ℕ) → front ++ items_text is_further (items_of (map json_of_number ahead)) ≡ whole → ahead ≡ number ∷ rest
    → (front ++ (comma_if is_further ++ compact_text (json_of_number number))) ++ items_text true (items_of (map json_of_number rest)) ≡ whole
number-more is_further front whole number ahead rest so_far first =
    append_assoc front _ _ ∙ ap (λ l. front ++ l) (append_assoc (comma_if is_further) (compact_text (json_of_number number)) _)
    ∙ ap (λ ns. front ++ items_text is_further (items_of (map json_of_number ns))) (sym first) ∙ so_far

-- a piece of a text more is written
pub puts-piece : (start before after : Option (List ℕ)) (first held put left front piece : Text) → Puts start first before held (escape front) → put ≡ held ++ escape piece → Puts before put after left []
    → Puts start first after left (escape (front ++ piece))
puts-piece start before after first held put left front piece so_far more written =
    subst (λ bytes. Puts start first after left bytes) (append-nil (escape front ++ escape piece) ∙ sym (flat_map-append escape_byte front piece))
    (Appends-trans _ _ _ _ [] (Appends-trans _ _ _ (escape front) (escape piece) so_far (puts-held before held put (escape piece) more)) written)
