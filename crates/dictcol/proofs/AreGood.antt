-- Names of files, one more at a time.
use Rattle.std.proofs.Common.{◌≡◌, ◌≢◌, ℕ, ◌+◌, ◌<◌, ◌≤◌, Bool, true, false, cond, ◌||◌, List, [], ◌∷◌, ◌++◌, length, get_or, take, drop, Bor, refl, sym, ap, ◌∙◌, arith}
use Rattle.std.specs.Prelude.{All, count_by}
use Rattle.std.specs.List.{AllZip}
use Rattle.std.proofs.lemmas.List.{drop_more, length-map, length-take-le, take-append-drop, take_more}
use Rattle.std.proofs.lemmas.List.Elements.{All-push}
use Rattle.std.proofs.lemmas.Slice.Zip.{AllZip-long}
use Rattle.std.proofs.lemmas.List.Sums.{sum_by-append}
use Rattle.string_interner.specs.Text.{Text}
use Rattle.string_interner.specs.Extend.{texts_of}
use Rattle.dictcol.specs.Names.{dash, is_dash, AreGood, IsNamesFault, IsWrong, Names}
use Rattle.dictcol.specs.declared.names.NameFault.{NameFault}
use Rattle.dictcol.specs.declared.names.NameFault.TheVariants.{Empty, NotUtf8, ListIsInput, InputTwice, Memory}
use Rattle.dictcol.specs.declared.source.Source.{Source}
use Rattle.dictcol.specs.declared.source.Source.TheVariants.{StandardInput, File}
use Rattle.dictcol.proofs.Counted.{differs}
use Rattle.dictcol.proofs.LinesOf.{texts_of-append}

abbrev pub is_standard : Source → Bool
is_standard StandardInput = true
is_standard (File path) = false

-- names of which each is good, and whether one is standard input
pub record AreGoodTo (is_input : Bool) (names : List Text) (has_input : Bool) : Type 0 where
  pub each : All (λ name. name ≢ []) names
  pub count : count_by is_dash names ≡ cond has_input 1 0
  pub none : is_input ≡ true → has_input ≡ false

pub good-none : (is_input : Bool) → AreGoodTo is_input [] false
good-none is_input = record { each = λ k d inside. absurd (omega arith); count = refl; none = λ e. refl }

pub good-to : (is_input has_input : Bool) (names : List Text) → AreGoodTo is_input names has_input → AreGood is_input names
good-to true has_input names good = let none = good.none refl in record { each = good.each; inputs = omega (arith, good.count, ap {B = ℕ} (λ b. cond b 1 0) none) }
good-to false true names good = record { each = good.each; inputs = omega (arith, good.count) }
good-to false false names good = record { each = good.each; inputs = omega (arith, good.count) }

count-push : (names : List Text) (name : Text) (b : Bool) → is_dash name ≡ b → count_by is_dash (names ++ name ∷ []) ≡ count_by is_dash names + cond b 1 0
count-push names name b is = let added = sum_by-append (λ x. cond (is_dash x) 1 0) names (name ∷ []) in omega (arith, added, ap {B = ℕ} (λ t. cond t 1 0) is)

pub good-more : (is_input has_input : Bool) (names : List Text) (name : Text) (file : Source) → AreGoodTo is_input names has_input → Names name file → name ≢ []
    → (name ≡ dash → (is_input ≡ false) × (has_input ≡ false)) → AreGoodTo is_input (names ++ name ∷ []) (has_input || is_standard file)
good-more is_input has_input names name StandardInput good is some free =
    let may = free is in
    let dashed : is_dash name ≡ true = rw is refl in
    rw (may.1) record {
      each = All-push (λ name. name ≢ []) names name good.each some;
      count = count-push names name true dashed ∙ ap (λ (n : ℕ). n + 1) (good.count ∙ ap {B = ℕ} (λ b. cond b 1 0) may.1);
      none = λ e. let apart : true ≡ false = sym e ∙ may.0 in cc;
    }
good-more is_input has_input names name (File path) good is some free = of has_input refl
  where
    other : is_dash name ≡ false
    other = differs name dash is.1 (is_dash name) refl

    of : (b : Bool) → has_input ≡ b → AreGoodTo is_input (names ++ name ∷ []) (has_input || false)
    of true e = rw e record {
      each = All-push (λ name. name ≢ []) names name good.each some;
      count = count-push names name false other ∙ omega (arith, good.count, ap {B = ℕ} (λ b. cond b 1 0) e);
      none = λ is. sym e ∙ good.none is;
    }
    of false e = rw e record {
      each = All-push (λ name. name ≢ []) names name good.each some;
      count = count-push names name false other ∙ omega (arith, good.count, ap {B = ℕ} (λ b. cond b 1 0) e);
      none = λ is. refl;
    }

-- the names so far, and one more
pub texts-more : (names : List (Bor Text)) (i : ℕ) (d : Bor Text) → i < length names → texts_of (take (i + 1) names) ≡ texts_of (take i names) ++ (get_or names i d).now ∷ []
texts-more names i d inside = ap texts_of (take_more names i d inside) ∙ texts_of-append (take i names) (get_or names i d ∷ [])

pub texts-split : (names : List (Bor Text)) (i : ℕ) (d : Bor Text) → i < length names
    → texts_of names ≡ texts_of (take i names) ++ (get_or names i d).now ∷ texts_of (drop (i + 1) names)
texts-split names i d inside =
    ap texts_of (sym (take-append-drop i names)) ∙ texts_of-append (take i names) (drop i names)
    ∙ ap (λ (rest : List (Bor Text)). texts_of (take i names) ++ texts_of rest) (drop_more names i d inside)

pub other-standard : (file : Source) → file ≢ StandardInput → is_standard file ≡ false
other-standard StandardInput other = absurd (other refl)
other-standard (File path) other = refl

zip-push : {A B : Type 0} (R : A → B → Type 0) (xs : List A) (ys : List B) (x : A) (y : B) → AllZip R xs ys → R x y → AllZip R (xs ++ x ∷ []) (ys ++ y ∷ [])
zip-push R [] [] x y all one = (one, tt)
zip-push R [] (b ∷ ys) x y all one = absurd all
zip-push R (a ∷ xs) [] x y all one = absurd all
zip-push R (a ∷ xs) (b ∷ ys) x y all one = (all.0, zip-push R xs ys x y all.1 one)

-- the files of the names so far, and that of one more
pub more-named : (is_input has_input has_more : Bool) (front more : List Text) (name : Text) (files new : List Source) (file : Source) → more ≡ front ++ name ∷ [] → new ≡ files ++ file ∷ []
    → has_more ≡ (has_input || is_standard file) → (name ≢ []) × (name ≡ dash → (is_input ≡ false) × (has_input ≡ false)) → Names name file
    → AllZip Names front files → AreGoodTo is_input front has_input → AllZip Names more new × AreGoodTo is_input more has_more
more-named is_input has_input has_more front more name files new file more-is new-is has-is good-name is zip good = (
  rw (more-is, new-is) (zip-push Names front files name file zip is),
  rw (more-is, has-is) (good-more is_input has_input front name file good is good-name.0 good-name.1),
)

-- a name that is wrong behind good ones
pub first-wrong : (is_input has_input : Bool) (names before : List Text) (name : Text) (behind : List Text) (fault : NameFault) → names ≡ before ++ name ∷ behind
    → AreGoodTo is_input before has_input → IsWrong is_input before name fault → IsNamesFault is_input names fault
first-wrong is_input has_input names before name behind Memory split good wrong = tt
first-wrong is_input has_input names before name behind (NotUtf8 number) split good wrong = absurd wrong
first-wrong is_input has_input names before name behind (Empty number) split good wrong = (before, name, behind, split, good-to is_input has_input before good, wrong)
first-wrong is_input has_input names before name behind (ListIsInput number) split good wrong = (before, name, behind, split, good-to is_input has_input before good, wrong)
first-wrong is_input has_input names before name behind (InputTwice number) split good wrong = (before, name, behind, split, good-to is_input has_input before good, wrong)

-- there is a file for each name so far
pub as-many-files : (names : List (Bor Text)) (i : ℕ) (files : List Source) → i < length names → AllZip Names (texts_of (take i names)) files → length files ≡ i
as-many-files names i files inside zip = AllZip-long Names (texts_of (take i names)) files zip ∙ length-map (take i names) _ ∙ length-take-le i names (omega (arith, inside))

pub seen-once : (is_input has_input : Bool) (before : List Text) → AreGoodTo is_input before has_input → has_input ≡ true → 1 ≤ count_by is_dash before
seen-once is_input has_input before good has = let one = ap {B = ℕ} (λ b. cond b 1 0) has in omega (arith, good.count, one)

pub wrong-at : (is_input has_input : Bool) (names : List (Bor Text)) (i : ℕ) (d : Bor Text) (number : ℕ) (fault : NameFault) → i < length names → number ≡ i + 1
    → AreGoodTo is_input (texts_of (take i names)) has_input
    → ((before : List Text) → number ≡ length before + 1 → (has_input ≡ true → 1 ≤ count_by is_dash before) → IsWrong is_input before (get_or names i d).now fault)
    → IsNamesFault is_input (texts_of names) fault
wrong-at is_input has_input names i d number fault inside is good wrong =
    let before = texts_of (take i names) in
    let long : length (texts_of (take i names)) ≡ i = length-map (take i names) _ ∙ length-take-le i names (omega (arith, inside)) in
    first-wrong is_input has_input (texts_of names) before (get_or names i d).now (texts_of (drop (i + 1) names)) fault (texts-split names i d inside) good
    (wrong before (omega (arith, is, long)) (seen-once is_input has_input before good))
