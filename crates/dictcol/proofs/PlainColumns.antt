-- Plain columns: the dictionary that a file is, the numbers that a file is, and the text that both hold.
use Rattle.std.proofs.Common.{◌≡◌, ◌≢◌, ℕ, zero, suc, ◌+◌, ◌-◌, ◌*◌, ◌/◌, ◌%◌, ◌^◌, ◌<◌, ◌≤◌, nat_lt, Bool, true, false, not, ◌&&◌, cond, eqb, List, [], ◌∷◌, ◌++◌, length, take, drop, get_or, replicate, codes, decimal, Option, Some, None, w32, refl, sym, ap, ap₂, subst, ◌∙◌, arith, inl, inr}
use Rattle.std.specs.Prelude.{All, slice_get, IfSome, Result, Ok, Err, OnOk}
use Rattle.std.specs.Int.{from_le_bytes}
use Rattle.std.specs.Io.KnownBytes.{Appends, Keeps}
use Rattle.std.specs.List.{flat_map, join_with_byte, list_any, onto_first, IsSplitAt}
use Rattle.std.specs.Option.{option_map_or}
use Rattle.std.proofs.Math.ListN.{get_or-append}
use Rattle.std.proofs.Math.Seq.{take-append_seam, drop-append_seam}
use Rattle.std.proofs.lemmas.Bool.{lt-ltb}
use Rattle.std.proofs.lemmas.Bool.Decides.{nat_tests}
use Rattle.std.proofs.lemmas.Fmt.{length-decimal-le}
use Rattle.std.proofs.lemmas.Grind.{flat_map-append}
use Rattle.std.proofs.lemmas.List.Elements.{All-push}
use Rattle.std.proofs.lemmas.List.{append_assoc, append-nil, length-append, length-drop, length-replicate, take_all, length-take, take-append-drop, take_at, drop_at}
use Rattle.std.proofs.lemmas.Slice.Zip.{AllZip-long}
use Rattle.std.proofs.lemmas.Nat.{from_le_bytes-to_le_bytes_4, le_bytes_4}
use Rattle.string_interner.specs.Text.{Text, IsDistinct, first}
use Rattle.string_interner.specs.Extend.{fresh}
use Rattle.string_interner.proofs.Lemmas.Interner.Extends.{fresh-append}
use Rattle.string_interner.proofs.Lemmas.Json.Reads.{new_text}
use Rattle.string_column.specs.Column.{AreCodes, dictionary_of, rows_of}
use Rattle.string_column.specs.Parts.{IsOutside}
use Rattle.string_column.proofs.Lemmas.AreNumbered.{slice_get-push, slice_get-append}
use Rattle.string_column.proofs.Lemmas.Counts.{fresh-distinct, dictionary-distinct}
use Rattle.string_column.proofs.Lemmas.Rows.{rows-are}
use Rattle.dictcol.specs.File.{HaveEntries}
use Rattle.dictcol.specs.Lines.{has_newline, text_of_ended, text_of_lines, lines_of, AreLines}
use Rattle.dictcol.specs.Plain.{plain_text, text_behind, ends_cut, IsLinesFile, IsDictionary, code_bytes, npy_start, npy_header, AreNumbers, IsArrayFault, IsHeaderFault, IsNotALine, IsNpy, IsOnto, IsPlain, line_bounds, AreRows, HoldPlain}
use Rattle.dictcol.specs.declared.fault.Fault.{Fault}
use Rattle.dictcol.specs.declared.fault.Fault.TheVariants.{NotALine}
use Rattle.dictcol.proofs.LinesOf.{text-of-lines, lines-plain, fresh-plain}
use Rattle.dictcol.proofs.TextLines.{ended, ended-first, ended-lines, both-plain, one-ended, one-line, more-rest}

-- ---- distinct lines

distinct-fresh : (old texts : List Text) → IsDistinct (old ++ texts) → fresh old texts ≡ texts
distinct-fresh old [] distinct = refl
distinct-fresh old (text ∷ texts) distinct =
    let more = distinct-fresh (old ++ text ∷ []) texts (subst IsDistinct (sym (append_assoc old (text ∷ []) texts)) distinct) in
    rw (new_text old text texts distinct, more) refl

-- distinct lines are their dictionary
pub distinct-dictionary : (lines : List Text) → IsDistinct lines → dictionary_of lines ≡ lines
distinct-dictionary lines distinct = distinct-fresh [] lines distinct

no-more-fresh : (old texts : List Text) → length (fresh old texts) ≤ length texts
no-more-fresh old [] = omega arith
no-more-fresh old (text ∷ texts) = of (first old text) (no-more-fresh old texts) (no-more-fresh (old ++ text ∷ []) texts)
  where
    of : (o : Option ℕ) → length (fresh old texts) ≤ length texts → length (fresh (old ++ text ∷ []) texts) ≤ length texts
        → length (option_map_or (λ _. fresh old texts) o (text ∷ fresh (old ++ text ∷ []) texts)) ≤ length (text ∷ texts)
    of (Some i) same more = omega (arith, same)
    of None same more = omega (arith, more)

all-fresh : (old texts : List Text) → length texts ≤ length (fresh old texts) → fresh old texts ≡ texts
all-fresh old [] many = refl
all-fresh old (text ∷ texts) many = of (first old text) (no-more-fresh old texts) (all-fresh (old ++ text ∷ []) texts) many
  where
    of : (o : Option ℕ) → length (fresh old texts) ≤ length texts
        → (length texts ≤ length (fresh (old ++ text ∷ []) texts) → fresh (old ++ text ∷ []) texts ≡ texts)
        → length (text ∷ texts) ≤ length (option_map_or (λ _. fresh old texts) o (text ∷ fresh (old ++ text ∷ []) texts))
        → option_map_or (λ _. fresh old texts) o (text ∷ fresh (old ++ text ∷ []) texts) ≡ text ∷ texts
    of (Some i) few more many = absurd (omega (arith, few, many))
    of None few more many = ap (λ ts. text ∷ ts) (more (omega (arith, many)))

-- lines of which each is in the dictionary once are distinct
pub as-many : (lines : List Text) → length lines ≤ length (dictionary_of lines) → IsDistinct lines
as-many lines many = subst IsDistinct (all-fresh [] lines many) (dictionary-distinct lines)

-- ---- the dictionary that a file is

onto-some : (b : ℕ) (lines : List Text) → onto_first b lines ≢ []
onto-some b [] e = cc
onto-some b (line ∷ lines) e = cc

no-lines : (text : Text) → lines_of text ≡ [] → text ≡ []
no-lines [] none = refl
no-lines (b ∷ bs) none = of (eqb b 10) none
  where
    of : (t : Bool) → cond t ([] ∷ lines_of bs) (onto_first b (lines_of bs)) ≡ [] → (b ∷ bs) ≡ []
    of true e = absurd (cc)
    of false e = absurd (onto-some b (lines_of bs) e)

-- the lines of a file of them
pub file-lines : (lines : List Text) (file : Text) → IsLinesFile lines file → lines_of file ≡ lines
file-lines lines file is = ap lines_of is.text ∙ ended-first lines [] is.each_a_line ∙ append-nil lines

-- it ends in a newline if it has a line
pub file-ended : (lines read : List Text) (file : Text) (is_ended : Bool) → AreLines file read is_ended → is_ended ≡ false → read ≢ [] → ¬ (IsLinesFile lines file)
file-ended lines read file is_ended are unended some is = of lines refl
  where
    of : (ls : List Text) → lines ≡ ls → ⊥
    of [] e = some (are.lines_are ∙ file-lines lines file is ∙ e)
    of (l ∷ ls) e =
        let none : (l ∷ ls) ≢ [] = λ e. cc in
        let text : file ≡ text_of_lines lines true = is.text ∙ ap (λ x. text_of_ended x []) e ∙ ended-lines (l ∷ ls) [] none refl ∙ sym (ap (λ x. text_of_lines x true) e) in
        let told = are.end _ text in absurd (cc)

-- a text behind the last newline is none of them
pub open-end : (seen : List Text) (rest : Text) (lines : List Text) (file : Text) → file ≡ text_of_ended seen rest → list_any has_newline seen ≡ false → has_newline rest ≡ false → rest ≢ [] → ¬ (IsLinesFile lines file)
open-end seen rest lines file whole plain rest_plain some is =
    let all : lines ≡ seen ++ rest ∷ [] =
    sym (file-lines lines file is) ∙ ap lines_of whole ∙ ended-first seen rest plain ∙ ap (λ ls. seen ++ ls) (one-line rest rest_plain some) in
    let longer = ap length (sym whole ∙ is.text ∙ ap (λ ls. text_of_ended ls []) all ∙ one-ended seen rest) in
    omega (arith, longer, length-append (text_of_ended seen rest) (10 ∷ []))

pub is-dictionary : (lines : List Text) (file : Text) (is_ended : Bool) → AreLines file lines is_ended → (is_ended ≡ false → lines ≡ []) → length lines ≤ length (dictionary_of lines)
    → IsDictionary lines file
is-dictionary lines file is_ended are unended many = record {
  lines_are = record { text = of lines is_ended refl refl; each_a_line = lines-plain file lines is_ended are };
  distinct = as-many lines many;
}
  where
    of : (ls : List Text) (b : Bool) → lines ≡ ls → is_ended ≡ b → file ≡ text_of_ended lines []
    of [] b e t = no-lines file (sym are.lines_are ∙ e) ∙ sym (ap (λ x. text_of_ended x []) e)
    of (l ∷ ls) false e t = let none : (l ∷ ls) ≡ [] = sym e ∙ unended t in absurd (cc)
    of (l ∷ ls) true e t =
        let none : (l ∷ ls) ≢ [] = λ e. cc in
        sym (text-of-lines file lines is_ended are) ∙ ap₂ text_of_lines e t ∙ sym (ended-lines (l ∷ ls) [] none refl) ∙ sym (ap (λ x. text_of_ended x []) e)

-- ---- the numbers that a file is

four : (n : ℕ) → length (code_bytes n) ≡ 4
four n = refl

pub numbers-long : (numbers : List ℕ) → length (flat_map code_bytes numbers) ≡ 4 * length numbers
numbers-long [] = refl
numbers-long (n ∷ ns) = let more = numbers-long ns in omega (arith, more, length-append (code_bytes n) (flat_map code_bytes ns), four n)

same-code : (m n : ℕ) (a b : Text) → m < 2 ^ 32 → n < 2 ^ 32 → code_bytes m ++ a ≡ code_bytes n ++ b → (m ≡ n) × (a ≡ b)
same-code m n a b small fits e = (
  sym (from_le_bytes-to_le_bytes_4 m small) ∙ ap (from_le_bytes w32) (sym (take-append_seam (code_bytes m) a) ∙ ap (take 4) e ∙ take-append_seam (code_bytes n) b) ∙ from_le_bytes-to_le_bytes_4 n fits,
  sym (drop-append_seam (code_bytes m) a) ∙ ap (drop 4) e ∙ drop-append_seam (code_bytes n) b,
)

-- bytes of one number more
pub numbers-push : (front : List ℕ) (number : ℕ) (rest : Text) → flat_map code_bytes (front ++ number ∷ []) ++ rest ≡ flat_map code_bytes front ++ (code_bytes number ++ rest)
numbers-push front number rest =
    ap (λ text. text ++ rest) (flat_map-append code_bytes front (number ∷ []) ∙ ap (λ one. flat_map code_bytes front ++ one) (append-nil (code_bytes number)))
    ∙ append_assoc (flat_map code_bytes front) (code_bytes number) rest

small-behind : (front rest : Text) → ((i : ℕ) → get_or (front ++ rest) i 0 < 256) → (i : ℕ) → get_or rest i 0 < 256
small-behind [] rest small i = small i
small-behind (x ∷ xs) rest small i = small-behind xs rest (λ k. small (suc k)) i

small-front : (n : ℕ) (bytes : Text) → ((i : ℕ) → get_or bytes i 0 < 256) → (i : ℕ) → get_or (take n bytes) i 0 < 256
small-front zero bytes small i = omega arith
small-front (suc n) [] small i = omega arith
small-front (suc n) (x ∷ xs) small zero = small zero
small-front (suc n) (x ∷ xs) small (suc i) = small-front n xs (λ k. small (suc k)) i

-- the number that the next four bytes are
pub next-number : (bytes rest first behind : Text) (front : List ℕ) (number : ℕ) → ((i : ℕ) → get_or bytes i 0 < 256) → bytes ≡ flat_map code_bytes front ++ rest → 4 ≤ length rest
    → first ≡ take 4 rest → behind ≡ drop 4 rest → number ≡ from_le_bytes w32 first → (code_bytes number ≡ first) × (bytes ≡ flat_map code_bytes front ++ (first ++ behind))
next-number bytes rest first behind front number small so_far enough first-is behind-is is =
    let below = small-behind (flat_map code_bytes front) rest (subst (λ text. (i : ℕ) → get_or text i 0 < 256) so_far small) in
    let four : length first ≡ 4 = omega (arith, ap length first-is, length-take 4 rest, enough) in
    let low : (i : ℕ) → get_or first i 0 < 256 = subst (λ text. (i : ℕ) → get_or text i 0 < 256) (sym first-is) (small-front 4 rest below) in (
      le_bytes_4 first number four low is,
      so_far ∙ ap (λ text. flat_map code_bytes front ++ text) (sym (take-append-drop 4 rest) ∙ sym (ap₂ (λ a b. a ++ b) first-is behind-is)),
    )

abbrev pub AreSmall : List ℕ → Type 0
AreSmall numbers = All (λ n. n < 2 ^ 32) numbers

small-rest : (n : ℕ) (ns : List ℕ) → AreSmall (n ∷ ns) → (n < 2 ^ 32) × AreSmall ns
small-rest n ns small = (small 0 0 (omega arith), λ i d inside. small (suc i) d (omega (arith, inside)))

-- bytes are the numbers that they begin with, and more
pub numbers-begin : (front numbers : List ℕ) (rest : Text) → AreSmall front → AreSmall numbers → flat_map code_bytes front ++ rest ≡ flat_map code_bytes numbers
    → (length rest ≡ 4 * (length numbers - length front)) × (take (length front) numbers ≡ front) × (length front ≤ length numbers)
numbers-begin [] numbers rest small fits e =
    let total : length rest ≡ length (flat_map code_bytes numbers) = ap length e in
    (omega (arith, total, numbers-long numbers), refl, omega arith)
numbers-begin (n ∷ ns) [] rest small fits e =
    let none = ap length e in absurd (omega (arith, none, length-append (flat_map code_bytes (n ∷ ns)) rest, numbers-long (n ∷ ns)))
numbers-begin (n ∷ ns) (m ∷ ms) rest small fits e =
    let a = small-rest n ns small in
    let b = small-rest m ms fits in
    let same = same-code n m (flat_map code_bytes ns ++ rest) (flat_map code_bytes ms) a.0 b.0 (sym (append_assoc (code_bytes n) (flat_map code_bytes ns) rest) ∙ e) in
    let more = numbers-begin ns ms rest a.1 b.1 same.1 in
    (omega (arith, more.0, more.2), rw (more.1, same.0) refl, omega (arith, more.2))

start-long : (count : ℕ) → length (npy_start count) ≡ 66 + length (decimal count)
start-long count = omega (arith, length-append (decimal count) (codes ",), }"))

pub header-long : (count : ℕ) → count < 2 ^ 64 → length (npy_header count) ≡ 128
header-long count fits =
    let short = length-decimal-le 20 count (omega arith) (omega (arith, fits)) fits in
    let blanks = 127 - length (npy_start count) in
    let blank : ℕ = 32 in
    let end = length-append (npy_start count ++ replicate blanks blank) (10 ∷ []) in
    let front = length-append (npy_start count) (replicate blanks blank) in
    omega (arith, short, start-long count, end, front, length-replicate blanks blank)

-- a header is filled up with blanks
pub header-filled : (count : ℕ) → count < 2 ^ 64 → (take 127 (npy_start count) ++ replicate (127 - length (npy_start count)) 32) ++ 10 ∷ [] ≡ npy_header count
header-filled count fits =
    let short = length-decimal-le 20 count (omega arith) (omega (arith, fits)) fits in
    let start : take 127 (npy_start count) ≡ npy_start count = take_all 127 (npy_start count) (omega (arith, short, start-long count)) in
    ap (λ text. (text ++ replicate (127 - length (npy_start count)) 32) ++ 10 ∷ []) start

-- the header and the bytes behind it, of a file of numbers
pub npy-parts : (numbers : List ℕ) (file header bytes : Text) → IsNpy numbers file → IsSplitAt file 128 header bytes
    → (header ≡ npy_header (length numbers)) × (bytes ≡ flat_map code_bytes numbers)
npy-parts numbers file header bytes is split =
    let head = npy_header (length numbers) in
    let tail = flat_map code_bytes numbers in
    let long = header-long (length numbers) is.count_fits in (
      split.1 ∙ ap (take 128) is.bytes ∙ ap (λ n. take n (head ++ tail)) (sym long) ∙ take-append_seam head tail,
      split.2 ∙ ap (drop 128) is.bytes ∙ ap (λ n. drop n (head ++ tail)) (sym long) ∙ drop-append_seam head tail,
    )

-- such a file is no shorter than its header
pub npy-long : (numbers : List ℕ) (file : Text) → IsNpy numbers file → 128 ≤ length file
npy-long numbers file is =
    let total = ap length is.bytes ∙ length-append (npy_header (length numbers)) (flat_map code_bytes numbers) in
    omega (arith, total, header-long (length numbers) is.count_fits)

-- a file with another header than that of as many numbers as it has is none
pub other-header : (numbers : List ℕ) (file header bytes right : Text) → IsSplitAt file 128 header bytes → right ≡ npy_header (length bytes / 4) → (length bytes % 4 ≡ 0 → header ≢ right)
    → ¬ (IsNpy numbers file)
other-header numbers file header bytes right split made other is =
    let parts = npy-parts numbers file header bytes is split in
    let long : length bytes ≡ 4 * length numbers = ap length parts.1 ∙ numbers-long numbers in
    let count : length bytes / 4 ≡ length numbers = omega (arith, long) in
    let none : length bytes % 4 ≡ 0 = omega (arith, long) in
    other none (parts.0 ∙ ap npy_header (sym count) ∙ sym made)

-- the same of a header, behind which there are so many bytes
pub no-header : (header right : Text) (behind : ℕ) → length header ≡ 128 → right ≡ npy_header (behind / 4) → (behind % 4 ≡ 0 → header ≢ right)
    → (bytes : Text) (numbers : List ℕ) → length bytes ≡ behind → ¬ (IsNpy numbers (header ++ bytes))
no-header header right behind long made other bytes numbers many =
    let all = length-append header bytes in
    other-header numbers (header ++ bytes) header bytes right (omega (arith, all, long), sym (take_at header bytes 128 long), sym (drop_at header bytes 128 long), long, omega (arith, all, long))
    (made ∙ ap (λ (n : ℕ). npy_header (n / 4)) (sym many)) (λ none. other (ap (λ (n : ℕ). n % 4) (sym many) ∙ none))

-- the faults of a header are those of a file that begins with it
pub array-fault : (file header bytes : Text) (fault : Fault) → IsSplitAt file 128 header bytes → IsHeaderFault header (length bytes) fault → IsArrayFault file fault
array-fault file header bytes fault split (inl memory) = inl memory
array-fault file header bytes fault split (inr (damage, none)) =
    let whole = sym (take-append-drop 128 file) ∙ sym (ap₂ (λ front back. front ++ back) split.1 split.2) in
    inr (damage, λ numbers is. none bytes numbers refl (subst (IsNpy numbers) whole is))

-- bytes of numbers behind their header are a file of them
pub npy-of : (numbers : List ℕ) (file bytes : Text) (count : ℕ) → count < 2 ^ 64 → file ≡ npy_header count ++ bytes → length bytes ≡ 4 * count → bytes ≡ flat_map code_bytes numbers
    → AreSmall numbers → IsNpy numbers file
npy-of numbers file bytes count fits file-is long are small =
    let total = ap length are ∙ numbers-long numbers in
    let same : count ≡ length numbers = omega (arith, total, long) in record {
      bytes = file-is ∙ ap₂ (λ n bs. npy_header n ++ bs) same are;
      count_fits = omega (arith, same, fits);
      each_fits = small;
    }

pub is-npy : (limit : ℕ) (numbers : List ℕ) (file bytes : Text) (count : ℕ) → count < 2 ^ 64 → file ≡ npy_header count ++ bytes → length bytes ≡ 4 * count → AreNumbers limit numbers bytes → IsNpy numbers file
is-npy limit numbers file bytes count fits file-is long are = npy-of numbers file bytes count fits file-is long are.bytes_are are.each_fits

small-at : (numbers : List ℕ) → ((i : ℕ) → get_or numbers i 0 < 2 ^ 32) → (i d : ℕ) → i < length numbers → get_or numbers i d < 2 ^ 32
small-at [] small i d inside = absurd (omega (arith, inside))
small-at (n ∷ ns) small zero d inside = small 0
small-at (n ∷ ns) small (suc i) d inside = small-at ns (λ k. small (suc k)) i d (omega (arith, inside))

no-items : (xs : List ℕ) → length xs ≡ 0 → xs ≡ []
no-items [] none = refl
no-items (x ∷ xs) none = absurd (cc)

-- The bytes are numbers below a limit, and then the rest.
pub record AreNumbersTo (limit : ℕ) (bytes rest : Text) : Type 0 where
  pub numbers : List ℕ
  pub so_far : bytes ≡ flat_map code_bytes numbers ++ rest
  pub fits : AreSmall numbers
  pub within : All (λ n. n < limit) numbers

pub no-numbers-yet : (limit : ℕ) (bytes : Text) → AreNumbersTo limit bytes bytes
no-numbers-yet limit bytes = record { numbers = []; so_far = refl; fits = λ i d inside. absurd (omega (arith, inside)); within = λ i d inside. absurd (omega (arith, inside)) }

pub one-number : (limit number : ℕ) (bytes rest first behind : Text) (to : AreNumbersTo limit bytes rest) → code_bytes number ≡ first → bytes ≡ flat_map code_bytes to.numbers ++ (first ++ behind)
    → number < 2 ^ 32 → number < limit → AreNumbersTo limit bytes behind
one-number limit number bytes rest first behind to is so_far small below = record {
  numbers = to.numbers ++ number ∷ [];
  so_far = so_far ∙ ap (λ text. flat_map code_bytes to.numbers ++ (text ++ behind)) (sym is) ∙ sym (numbers-push to.numbers number behind);
  fits = All-push (λ n. n < 2 ^ 32) to.numbers number to.fits small;
  within = All-push (λ n. n < limit) to.numbers number to.within below;
}

all-first : (P : ℕ → Type 0) (n : ℕ) (ns : List ℕ) → P n → All P ns → All P (n ∷ ns)
all-first P n ns one all zero d inside = one
all-first P n ns one all (suc i) d inside = all i d (omega (arith, inside))

pub all-both : (P : ℕ → Type 0) (xs ys : List ℕ) → All P xs → All P ys → All P (xs ++ ys)
all-both P [] ys front behind = behind
all-both P (x ∷ xs) ys front behind =
    all-first P x (xs ++ ys) (front 0 0 (omega arith)) (all-both P xs ys (λ k e within. front (suc k) e (omega (arith, within))) behind)

-- numbers behind their header, the first of them as bytes
pub npy-written : (limit : ℕ) (front numbers : List ℕ) (header earlier : Text) → header ≡ npy_header (length numbers + length earlier / 4) → length numbers + length earlier / 4 < 2 ^ 64
    → AreNumbers limit front earlier → ((i : ℕ) → get_or numbers i 0 < 2 ^ 32) → IsNpy (front ++ numbers) ((header ++ earlier) ++ flat_map code_bytes numbers)
npy-written limit front numbers header earlier is fits are small =
    let long = ap length are.bytes_are ∙ numbers-long front in
    let count : length numbers + length earlier / 4 ≡ length (front ++ numbers) = omega (arith, long, length-append front numbers) in record {
      bytes = append_assoc header earlier (flat_map code_bytes numbers)
          ∙ ap₂ (λ h bs. h ++ bs) (is ∙ ap npy_header count) (ap (λ bs. bs ++ flat_map code_bytes numbers) are.bytes_are ∙ sym (flat_map-append code_bytes front numbers));
      count_fits = omega (arith, sym count, fits);
      each_fits = all-both (λ n. n < 2 ^ 32) front numbers are.each_fits (small-at numbers small);
    }

-- bytes, four for each number, are numbers
numbers-of : (count : ℕ) (bytes : Text) → ((i : ℕ) → get_or bytes i 0 < 256) → length bytes ≡ 4 * count → (numbers : List ℕ) × (bytes ≡ flat_map code_bytes numbers) × AreSmall numbers
numbers-of zero bytes small long = ([], no-items bytes (omega (arith, long)), λ i d inside. absurd (omega (arith, inside)))
numbers-of (suc n) bytes small long =
    let number = from_le_bytes w32 (take 4 bytes) in
    let low = small-front 4 bytes small in
    let fits : from_le_bytes w32 (take 4 bytes) < 2 ^ 32 = omega (arith, low 0, low 1, low 2, low 3) in
    let next = next-number bytes bytes (take 4 bytes) (drop 4 bytes) [] number small refl (omega (arith, long)) refl refl refl in
    let behind = small-behind (take 4 bytes) (drop 4 bytes) (subst (λ text. (i : ℕ) → get_or text i 0 < 256) next.1 small) in
    let more = numbers-of n (drop 4 bytes) behind (omega (arith, long, length-drop 4 bytes)) in
    (number ∷ more.0, next.1 ∙ ap₂ (λ a b. a ++ b) (sym next.0) more.1, all-first (λ m. m < 2 ^ 32) number more.0 fits more.2)

-- the number behind those that are below a limit is the first that is not
pub first-outside : (limit number count index : ℕ) (bytes rest four behind : Text) (to : AreNumbersTo limit bytes rest) → ((i : ℕ) → get_or bytes i 0 < 256) → length bytes ≡ 4 * count
    → 4 ≤ length rest → four ≡ take 4 rest → behind ≡ drop 4 rest → number ≡ from_le_bytes w32 four → number < 2 ^ 32 → limit ≤ number → index ≡ (length bytes - length rest) / 4
    → (numbers : List ℕ) × (bytes ≡ flat_map code_bytes numbers) × AreSmall numbers × IsNotALine limit numbers (NotALine index)
first-outside limit number count index bytes rest four behind to small long enough four-is behind-is is fits above index-is =
    let front = to.numbers in
    let next = next-number bytes rest four behind front number small to.so_far enough four-is behind-is is in
    let total = ap length to.so_far ∙ length-append (flat_map code_bytes front) rest in
    let many = numbers-long front in
    let same : index ≡ length front = omega (arith, total, many, index-is) in
    let few : length behind ≡ 4 * (count - length front - 1) = omega (arith, ap length behind-is, length-drop 4 rest, total, many, long, enough) in
    let whole = next.1 ∙ sym (append_assoc (flat_map code_bytes front) four behind) in
    let low = small-behind (flat_map code_bytes front ++ four) behind (subst (λ text. (i : ℕ) → get_or text i 0 < 256) whole small) in
    let more = numbers-of (count - length front - 1) behind low few in
    let one = append_assoc front (number ∷ []) more.0 in
    let at = slice_get-append (front ++ number ∷ []) more.0 (length front) number (slice_get-push front number) in (
      front ++ number ∷ more.0,
      next.1 ∙ ap₂ (λ a b. flat_map code_bytes front ++ (a ++ b)) (sym next.0) more.1 ∙ sym (flat_map-append code_bytes front (number ∷ more.0)),
      subst AreSmall one (all-both (λ m. m < 2 ^ 32) (front ++ number ∷ []) more.0 (All-push (λ m. m < 2 ^ 32) front number to.fits fits) more.2),
      (
        index,
        refl,
        subst (IsOutside limit (front ++ number ∷ more.0)) (sym same) record {
          code = number;
          stands = subst (λ ns. slice_get ns (length front) ≡ Some number) one at;
          outside = above;
          within = subst (All (λ m. m < limit)) (sym (take-append_seam front (number ∷ more.0))) to.within;
        },
      ),
    )

-- all numbers
pub all-numbers : (limit count : ℕ) (bytes rest : Text) (to : AreNumbersTo limit bytes rest) → length bytes ≡ 4 * count → length rest < 4 → AreNumbers limit to.numbers bytes
all-numbers limit count bytes rest to long short =
    let total = ap length to.so_far ∙ length-append (flat_map code_bytes to.numbers) rest in
    let many = numbers-long to.numbers in
    let none : length rest ≡ 0 = omega (arith, total, many, long, short) in record {
      bytes_are = to.so_far ∙ ap (λ r. flat_map code_bytes to.numbers ++ r) (no-items rest none) ∙ append-nil (flat_map code_bytes to.numbers);
      each_fits = to.fits;
      within = to.within;
    }

-- ---- the text that both hold

-- the text of a text's lines
pub plain-lines : (text : Text) (lines : List Text) (is_ended : Bool) → AreLines text lines is_ended → plain_text lines (not is_ended && nat_lt 0 (length lines)) ≡ text
plain-lines text [] true are = sym (no-lines text (sym are.lines_are))
plain-lines text [] false are = sym (no-lines text (sym are.lines_are))
plain-lines text (line ∷ lines) true are =
    let none : (line ∷ lines) ≢ [] = λ e. cc in ended-lines (line ∷ lines) [] none refl ∙ text-of-lines text (line ∷ lines) true are
plain-lines text (line ∷ lines) false are =
    let some : nat_lt 0 (length (line ∷ lines)) ≡ true = lt-ltb 0 (length (line ∷ lines)) (omega arith) in
    ap (plain_text (line ∷ lines)) some ∙ sym (append-nil (join_with_byte 10 (line ∷ lines))) ∙ text-of-lines text (line ∷ lines) false are

ended-both : (rows lines : List Text) → text_of_ended (rows ++ lines) [] ≡ text_of_ended rows (text_of_ended lines [])
ended-both rows lines =
    append-nil (flat_map ended (rows ++ lines)) ∙ flat_map-append ended rows lines ∙ ap (λ text. flat_map ended rows ++ text) (sym (append-nil (flat_map ended lines)))

joined-both : (rows : List Text) (line : Text) (lines : List Text) → join_with_byte 10 (rows ++ line ∷ lines) ≡ text_of_ended rows (join_with_byte 10 (line ∷ lines))
joined-both [] line lines = refl
joined-both (row ∷ []) line lines = let text = join_with_byte 10 (line ∷ lines) in sym (append_assoc row (10 ∷ []) text) ∙ ap (λ front. front ++ text) (sym (append-nil (ended row)))
joined-both (row ∷ next ∷ rows) line lines =
    let text = join_with_byte 10 (line ∷ lines) in
    ap (λ more. row ++ 10 ∷ more) (joined-both (next ∷ rows) line lines)
    ∙ sym (append_assoc row (10 ∷ []) (text_of_ended (next ∷ rows) text)) ∙ sym (append_assoc (ended row) (flat_map ended (next ∷ rows)) text)

pub plain-both : (rows : List Text) (line : Text) (lines : List Text) (is_cut : Bool) → plain_text (rows ++ line ∷ lines) is_cut ≡ text_of_ended rows (plain_text (line ∷ lines) is_cut)
plain-both rows line lines true = joined-both rows line lines
plain-both rows line lines false = ended-both rows (line ∷ lines)

and-true : (b : Bool) → b ≡ (b && true)
and-true true = refl
and-true false = refl

cut-some : (was_cut : Bool) (line : Text) (lines : List Text) (is_ended : Bool) → ends_cut was_cut (line ∷ lines) is_ended ≡ (not is_ended && nat_lt 0 (length (line ∷ lines)))
cut-some was_cut line lines is_ended =
    let some : nat_lt 0 (length (line ∷ lines)) ≡ true = lt-ltb 0 (length (line ∷ lines)) (omega arith) in
    ap (λ t. cond t (not is_ended) was_cut) some ∙ and-true (not is_ended) ∙ ap (λ t. not is_ended && t) (sym some)

behind-some : (rows : List Text) (was_cut : Bool) (text : Text) → text ≢ [] → text_of_ended rows text ≡ text_behind rows was_cut text
behind-some rows was_cut [] some = absurd (some refl)
behind-some rows was_cut (b ∷ bs) some = refl

-- the text of earlier rows, and of a text's lines behind them
pub plain-behind : (rows : List Text) (was_cut : Bool) (text : Text) (lines : List Text) (is_ended : Bool) → AreLines text lines is_ended
    → plain_text (rows ++ lines) (ends_cut was_cut lines is_ended) ≡ text_behind rows was_cut text
plain-behind rows was_cut text [] is_ended are =
    ap (λ ls. plain_text ls was_cut) (append-nil rows) ∙ ap (text_behind rows was_cut) (sym (no-lines text (sym are.lines_are)))
plain-behind rows was_cut text (line ∷ lines) is_ended are =
    let some : text ≢ [] = λ e. let none : (line ∷ lines) ≡ [] = are.lines_are ∙ ap lines_of e in absurd (cc) in
    ap (plain_text (rows ++ line ∷ lines)) (cut-some was_cut line lines is_ended) ∙ plain-both rows line lines (not is_ended && nat_lt 0 (length (line ∷ lines)))
    ∙ ap (text_of_ended rows) (plain-lines text (line ∷ lines) is_ended are) ∙ behind-some rows was_cut text some

-- codes of entries read the same where there are more
pub rows-longer : (known more : List Text) (codes : List ℕ) → HaveEntries known codes → rows_of (known ++ more) codes ≡ rows_of known codes
rows-longer known more [] within = refl
rows-longer known more (code ∷ codes) within =
    ap₂ (λ row rows. row ∷ rows) (get_or-append known more [] code (within 0 0 (omega arith))) (rows-longer known more codes (λ i d inside. within (suc i) d (omega (arith, inside))))

-- a file is of one list of numbers
pub same-numbers : (numbers others : List ℕ) (file : Text) → IsNpy numbers file → IsNpy others file → numbers ≡ others
same-numbers numbers others file is too =
    let one = header-long (length numbers) is.count_fits in
    let other = header-long (length others) too.count_fits in
    let total = sym is.bytes ∙ too.bytes in
    let bytes : flat_map code_bytes numbers ≡ flat_map code_bytes others =
    sym (drop-append_seam (npy_header (length numbers)) (flat_map code_bytes numbers)) ∙ ap₂ drop (one ∙ sym other) total ∙ drop-append_seam (npy_header (length others)) (flat_map code_bytes others) in
    let begin = numbers-begin numbers others [] is.each_fits too.each_fits (append-nil (flat_map code_bytes numbers) ∙ bytes) in
    sym begin.1 ∙ take_all (length numbers) others (omega (arith, begin.0))

codes-behind : (dictionary : List Text) (k : ℕ) (codes : List ℕ) (rows : List Text) → AreCodes dictionary codes rows → AreCodes dictionary (drop k codes) (drop k rows)
codes-behind dictionary zero codes rows are = are
codes-behind dictionary (suc k) [] [] are = tt
codes-behind dictionary (suc k) [] (row ∷ rows) are = absurd are
codes-behind dictionary (suc k) (code ∷ codes) [] are = absurd are
codes-behind dictionary (suc k) (code ∷ codes) (row ∷ rows) are = codes-behind dictionary k codes rows are.1

-- the files of rows that are the lines of a dictionary from before and those of a text
pub onto-plain : (before text numbers bytes : Text) (rows : List Text) (count : ℕ) (was_cut is_cut : Bool) (codes earlier : List ℕ) → IsOnto before was_cut text rows count is_cut
    → AreCodes (dictionary_of rows) codes rows → AreNumbers count earlier bytes → IsNpy (earlier ++ drop count codes) numbers
    → IsPlain before earlier was_cut text (text_of_ended (dictionary_of rows) []) numbers is_cut
onto-plain before text numbers bytes rows count was_cut is_cut codes earlier onto are first npy =
    let known = onto.known in
    let lines = onto.lines in
    let distinct = onto.before_is.distinct in
    let entries : dictionary_of rows ≡ known ++ fresh known lines =
    ap dictionary_of onto.rows_are ∙ fresh-append [] known lines ∙ ap (λ d. d ++ fresh d lines) (distinct-dictionary known distinct) in
    let behind : drop count rows ≡ lines = ap₂ drop onto.count_is onto.rows_are ∙ drop-append_seam known lines in
    let codes-are = codes-behind (dictionary_of rows) count codes rows are in record {
      known = known;
      before_is = onto.before_is;
      lines = lines;
      is_ended = onto.is_ended;
      lines_are = onto.lines_are;
      is_cut_is = onto.is_cut_is;
      dictionary_is = record {
        lines_are = record {
          text = ap (λ d. text_of_ended d []) entries;
          each_a_line = both-plain known (fresh known lines) onto.before_is.lines_are.each_a_line (fresh-plain has_newline known lines (lines-plain text lines onto.is_ended onto.lines_are));
        };
        distinct = fresh-distinct known lines distinct;
      };
      earlier_are = subst (λ n. All (λ code. code < n) earlier) onto.count_is first.within;
      numbers_are = (drop count codes, rw (entries, behind) at codes-are, npy);
    }

-- one line more, and its newline
pub ended-more : (lines : List Text) (line : Text) → text_of_ended (lines ++ line ∷ []) [] ≡ (text_of_ended lines [] ++ line) ++ 10 ∷ []
ended-more lines line = one-ended lines line ∙ ap (λ text. text ++ 10 ∷ []) (more-rest lines [] line)

-- where no code is wide, the codes are the narrow ones, which are as many as the rows
pub narrow-codes : (codes narrow wide : List ℕ) → codes ≡ narrow ++ wide → length wide ≡ 0 → codes ≡ narrow
narrow-codes codes narrow wide parts none = parts ∙ ap (λ xs. narrow ++ xs) (no-items wide none) ∙ append-nil narrow

pub narrow-rows : (dictionary rows : List Text) (codes narrow : List ℕ) (known : ℕ) → AreCodes dictionary codes rows → codes ≡ narrow → known ≤ length rows → known ≤ length narrow
narrow-rows dictionary rows codes narrow known are same within =
    let long = AllZip-long (λ code row. slice_get dictionary code ≡ Some row) codes rows are in omega (arith, long, ap length same, within)

-- ---- what is written

-- known bytes that grew, and are flushed
pub appends-kept : (a b c : Option (List ℕ)) (bs : List ℕ) → Appends a b bs → Keeps b c → Appends a c bs
appends-kept None b c bs p q = tt
appends-kept (Some x) None c bs p q = absurd p
appends-kept (Some x) (Some y) None bs p q = absurd q
appends-kept (Some x) (Some y) (Some z) bs p q = q ∙ p

pub in-any-case : {T E P : Type 0} (r : Result T E) → P → OnOk r P
in-any-case (Ok x) p = p
in-any-case (Err e) p = tt

-- ---- what inputs yield

module _ {A : Type 0} (P Q : A → Type 0) where
  pub some-weaker : (o : Option A) → ((a : A) → P a → Q a) → IfSome o P → IfSome o Q
  some-weaker None weaker p = tt
  some-weaker (Some a) weaker p = weaker a p

some-more : (known more rows : List Text) → rows ≡ known ++ more → nat_lt (length known) (length rows) ≡ nat_lt 0 (length more)
some-more known more rows are =
    let count : length rows ≡ length known + length more = ap length are ∙ length-append known more in grind (arith, nat_tests)

-- the lines that two inputs yield, one behind the other
pub onto-inputs : (before input : Option Text) (known more rows : List Text) (was_cut is_ended is_cut : Bool) (count : ℕ) → IfSome before (IsDictionary known) → rows ≡ known ++ more
    → IfSome input (λ text. AreLines text more is_ended) → count ≡ length known → is_cut ≡ cond (nat_lt count (length rows)) (not is_ended) was_cut
    → IfSome before (λ old. IfSome input (λ text. IsOnto old was_cut text rows count is_cut))
onto-inputs None input known more rows was_cut is_ended is_cut count is rows-are are count-is cut = tt
onto-inputs (Some old) None known more rows was_cut is_ended is_cut count is rows-are are count-is cut = tt
onto-inputs (Some old) (Some text) known more rows was_cut is_ended is_cut count is rows-are are count-is cut = record {
  known = known;
  before_is = is;
  lines = more;
  is_ended = is_ended;
  lines_are = are;
  is_cut_is = cut ∙ ap (λ n. cond (nat_lt n (length rows)) (not is_ended) was_cut) count-is ∙ ap (λ t. cond t (not is_ended) was_cut) (some-more known more rows rows-are);
  rows_are = rows-are;
  count_is = count-is;
}

-- the rows that two files hold
pub rows-held : (lines : List Text) (numbers bounds : List ℕ) (dictionary bytes : Text) → IsLinesFile lines dictionary → bounds ≡ line_bounds 0 lines → AreNumbers (length lines) numbers bytes
    → AreRows dictionary bounds bytes (rows_of lines numbers)
rows-held lines numbers bounds dictionary bytes is places are = record { lines = lines; lines_are = is; bounds_are = places; codes_are = numbers; numbers_are = are; rows_are = refl }

pub plain-held : (lines : List Text) (numbers : List ℕ) (dictionary file : Text) (is_cut : Bool) → IsLinesFile lines dictionary → IsNpy numbers file → HaveEntries lines numbers
    → HoldPlain dictionary file is_cut (plain_text (rows_of lines numbers) is_cut)
plain-held lines numbers dictionary file is_cut is npy entries = record { lines = lines; lines_are = is; codes_are = numbers; numbers_are = npy; within = entries; text_is = refl }
