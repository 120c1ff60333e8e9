-- Lines that were met: more of them, and what of the distinct ones waits or is written.
use Rattle.std.proofs.Common.{◌≡◌, ℕ, ◌+◌, ◌-◌, ◌^◌, ◌<◌, ◌≤◌, ◌⊎◌, min, List, [], ◌∷◌, ◌++◌, length, take, drop, get_or, Option, Some, None, Result, Ok, Err, refl, sym, ap, subst, ◌∙◌, arith, inl, inr}
use Rattle.std.specs.Prelude.{IfErr, IfSome, IsErrAnd, OnOk}
use Rattle.std.specs.Io.KnownBytes.{Appends}
use Rattle.std.proofs.KnownBytes.{Appends-nil, Appends-trans}
use Rattle.std.proofs.lemmas.Grind.{flat_map-append}
use Rattle.std.proofs.lemmas.List.{append-nil, append_assoc, drop-append-le, length-append, take-append-drop, take-append-le, take_all, take_at}
use Rattle.string_interner.specs.Text.{Text, first}
use Rattle.string_interner.specs.Extend.{fresh}
use Rattle.string_interner.proofs.Lemmas.Interner.Extends.{fresh-append}
use Rattle.string_column.specs.Column.{dictionary_of}
use Rattle.dictcol.specs.Blocks.{HasRead}
use Rattle.dictcol.specs.Distinct.{HasMet, IsCodedBy, WritesFirst, distinct_text}
use Rattle.dictcol.specs.Fault.{IsWriteFault}
use Rattle.dictcol.specs.Lines.{ended_text, lines_of}
use Rattle.dictcol.specs.declared.distinct.DistinctLines.{DistinctLines}
use Rattle.dictcol.specs.declared.fault.Fault.{Fault}
use Rattle.dictcol.proofs.CodeAt.{CodeAt, code-at, code-first, code-fresh}
use Rattle.dictcol.proofs.TextLines.{ended, ended-first}

ended-both : (a b : List Text) → ended_text (a ++ b) ≡ ended_text a ++ ended_text b
ended-both a b = flat_map-append ended a b

-- the dictionary of lines with more behind them
grown : (lines more : List Text) → dictionary_of (lines ++ more) ≡ dictionary_of lines ++ fresh (dictionary_of lines) more
grown lines more = fresh-append [] lines more

-- ---- more lines

-- more lines were met, and those that are new wait
pub met-more : {B S : Type 0} (old new : DistinctLines B S) (lines more : List Text) → new.lines ≡ old.lines ++ fresh old.lines more → new.written ≡ old.written
    → new.total ≡ min (old.total + length more) (2 ^ 64 - 1) → new.waiting.items ≡ old.waiting.items ++ ended_text (fresh old.lines more) → HasMet old lines → HasMet new (lines ++ more)
met-more old new lines more put kept sum pushed has =
    let added = fresh old.lines more in
    record {
      lines_are = put ∙ ap (λ texts. texts ++ fresh texts more) has.lines_are ∙ sym (grown lines more);
      total_is = omega (arith, sum, has.total_is, length-append lines more);
      within = omega (arith, kept, has.within, ap length put, length-append old.lines added);
      waiting_is = pushed ∙ ap (λ text. text ++ ended_text added) has.waiting_is ∙ sym (ended-both (drop old.written old.lines) added)
          ∙ ap ended_text (sym (drop-append-le old.written old.lines added has.within))
          ∙ ap (λ n. ended_text (drop n (old.lines ++ added))) (sym kept) ∙ ap (λ texts. ended_text (drop new.written texts)) (sym put);
    }

-- a text that is none of some is new to them
pub one-fresh : (texts : List Text) (text : Text) → first texts text ≡ None → ended_text (fresh texts (text ∷ [])) ≡ text ++ 10 ∷ []
one-fresh texts text new =
    let one : fresh texts (text ∷ []) ≡ text ∷ [] = rw new refl in
    ap ended_text one ∙ append-nil (text ++ 10 ∷ [])

-- ---- the lines of a block

-- of the first lines of a block, so many are new, which wait behind those from before
abbrev pub HasPushed : Text → Text → List Text → List Text → ℕ → ℕ → Type 0
HasPushed before now lines more at new =
    (now ≡ before ++ ended_text (fresh (dictionary_of lines) (take at more))) × (new ≡ length (fresh (dictionary_of lines) (take at more)))

pub pushed-begin : (before : Text) (lines more : List Text) → HasPushed before before lines more 0 0
pushed-begin before lines more = (sym (append-nil before), refl)

pub pushed-end : (before now : Text) (lines more : List Text) (known : ℕ) (codes : List ℕ) (n new : ℕ) → IsCodedBy lines more known codes → length more ≤ n
    → HasPushed before now lines more n new → now ≡ before ++ ended_text (fresh (dictionary_of lines) more)
pushed-end before now lines more known codes n new by all pushed = pushed.0 ∙ ap (λ texts. before ++ ended_text (fresh (dictionary_of lines) texts)) (take_all n more all)

module _ (before now : Text) (lines more : List Text) (known : ℕ) (codes : List ℕ) (at code new : ℕ) (by : IsCodedBy lines more known codes) (within : at < length codes) (is : code ≡ get_or codes at 0)
    (pushed : HasPushed before now lines more at new) where
  it : CodeAt lines more at code
  it = code-at lines more codes at code by.codes_are within is

  abbrev front : List Text
  front = dictionary_of (lines ++ take at more)

  abbrev so_far : List Text
  so_far = fresh (dictionary_of lines) (take at more)

  next : fresh (dictionary_of lines) (take (at + 1) more) ≡ so_far ++ fresh front (it.text ∷ [])
  next = ap (fresh (dictionary_of lines)) it.next ∙ fresh-append (dictionary_of lines) (take at more) (it.text ∷ []) ∙ ap (λ texts. so_far ++ fresh texts (it.text ∷ [])) (sym (grown lines (take at more)))

  long : length front ≡ known + new
  long = omega (arith, ap length (grown lines (take at more)), length-append (dictionary_of lines) so_far, by.known_is, pushed.1)

  -- the next code is that of a new line
  pub pushed-new : (put line : Text) → known + new ≤ code → line ≡ get_or more at [] → put ≡ now ++ line ++ 10 ∷ [] → HasPushed before put lines more (at + 1) (new + 1)
  pushed-new put line behind read added =
      let none = code-first lines more at code it (omega (arith, behind, long)) in
      let one : fresh front (it.text ∷ []) ≡ it.text ∷ [] = rw none refl in
      let all = next ∙ ap (λ texts. so_far ++ texts) one in (
        added ∙ ap (λ text. now ++ text ++ 10 ∷ []) (read ∙ it.here) ∙ append_assoc now it.text (10 ∷ []) ∙ ap (λ text. text ++ (it.text ++ 10 ∷ [])) pushed.0
            ∙ append_assoc before (ended_text so_far) (it.text ++ 10 ∷ [])
            ∙ ap (λ text. before ++ text) (ap (λ text. ended_text so_far ++ text) (sym (append-nil (it.text ++ 10 ∷ []))) ∙ sym (ended-both so_far (it.text ∷ [])) ∙ ap ended_text (sym all)),
        omega (arith, pushed.1, ap length all, length-append so_far (it.text ∷ [])),
      )

  -- one before it is that of a line that is known
  pub pushed-known : code < known + new → HasPushed before now lines more (at + 1) new
  pushed-known inside = of (first front it.text) refl
    where
      of : (o : Option ℕ) → first front it.text ≡ o → HasPushed before now lines more (at + 1) new
      of None none = absurd (omega (arith, inside, long, code-fresh lines more at code it none))
      of (Some i) found =
          let none : fresh front (it.text ∷ []) ≡ [] = rw found refl in
          let all = next ∙ ap (λ texts. so_far ++ texts) none ∙ append-nil so_far in
          (pushed.0 ∙ ap (λ texts. before ++ ended_text texts) (sym all), pushed.1 ∙ ap length (sym all))

-- ---- what is written

-- the first distinct lines of an input were written
abbrev pub WroteFirst : Option Text → Option Text → Option Text → ℕ → Type 0
WroteFirst input old new count = IfSome input (λ all. Appends old new (ended_text (take count (dictionary_of (lines_of all)))))

pub first-begin : {B S : Type 0} (input old : Option Text) (known : DistinctLines B S) → HasMet known [] → WroteFirst input old old known.written
first-begin None old known has = tt
first-begin (Some all) old known has =
    let none : known.written ≡ 0 = omega (arith, has.within, ap length has.lines_are) in
    subst (λ n. Appends old old (ended_text (take n (dictionary_of (lines_of all))))) (sym none) (Appends-nil old)

-- the lines that waited, too
wrote-both : (old mid new : Option Text) (w : ℕ) (entries : List Text) (waiting : Text) → waiting ≡ ended_text (drop w entries) → Appends old mid (ended_text (take w entries)) → Appends mid new waiting
    → Appends old new (ended_text entries)
wrote-both old mid new w entries waiting is first then =
    subst (Appends old new) (ap (λ text. ended_text (take w entries) ++ text) is ∙ sym (ended-both (take w entries) (drop w entries)) ∙ ap ended_text (take-append-drop w entries))
    (Appends-trans old mid new (ended_text (take w entries)) waiting first then)

pub first-more : {B S : Type 0} (input left old mid new : Option Text) (known now : DistinctLines B S) (rest : Text) → HasRead HasMet input left known rest → WroteFirst input old mid known.written
    → Appends mid new known.waiting.items → now.written ≡ length known.lines → WroteFirst input old new now.written
first-more None left old mid new known now rest has first then all = tt
first-more (Some text) None old mid new known now rest has first then all = absurd has.consumed
first-more (Some text) (Some more) old mid new known now rest has first then all =
    let met = has.taken in
    let entries = dictionary_of has.seen in
    let behind = fresh entries (lines_of (rest ++ more)) in
    let whole : lines_of text ≡ has.seen ++ lines_of (rest ++ more) =
    ap lines_of (has.consumed ∙ append_assoc (ended_text has.seen) rest more) ∙ ended-first has.seen (rest ++ more) has.plain in
    let dictionary : dictionary_of (lines_of text) ≡ entries ++ behind = ap dictionary_of whole ∙ grown has.seen (lines_of (rest ++ more)) in
    let within : known.written ≤ length entries = omega (arith, met.within, ap length met.lines_are) in
    let front : take known.written (dictionary_of (lines_of text)) ≡ take known.written entries = ap (take known.written) dictionary ∙ take-append-le known.written entries behind within in
    let written : take now.written (dictionary_of (lines_of text)) ≡ entries =
    ap (take now.written) dictionary ∙ ap (λ n. take n (entries ++ behind)) (all ∙ ap length met.lines_are) ∙ take_at entries behind (length entries) refl in
    subst (λ texts. Appends old new (ended_text texts)) (sym written)
    (wrote-both old mid new known.written entries known.waiting.items (met.waiting_is ∙ ap (λ texts. ended_text (drop known.written texts)) met.lines_are)
    (subst (λ texts. Appends old mid (ended_text texts)) front first) then)

-- and at last all
pub first-end : {B S : Type 0} (input old mid new : Option Text) (known : DistinctLines B S) → IfSome input (λ all. HasMet known (lines_of all)) → WroteFirst input old mid known.written
    → Appends mid new known.waiting.items → IfSome input (λ all. Appends old new (distinct_text (lines_of all)))
first-end None old mid new known has first then = tt
first-end (Some text) old mid new known met first then =
    wrote-both old mid new known.written (dictionary_of (lines_of text)) known.waiting.items (met.waiting_is ∙ ap (λ texts. ended_text (drop known.written texts)) met.lines_are) first then

-- so many are the first ones
pub first-so_far : (input old new : Option Text) (count : ℕ) → WroteFirst input old new count → IfSome input (λ all. WritesFirst (lines_of all) old new)
first-so_far None old new count first = tt
first-so_far (Some text) old new count first = (count, first)

-- and so are all, unless a write failed
pub first-ended : (result : Result (Unit {0}) Fault) (input old new : Option Text) → IfErr result IsWriteFault → OnOk result (IfSome input (λ all. Appends old new (distinct_text (lines_of all))))
    → IsErrAnd result IsWriteFault ⊎ IfSome input (λ all. WritesFirst (lines_of all) old new)
first-ended (Err fault) input old new failed written = inl failed
first-ended (Ok done) None old new failed written = inr tt
first-ended (Ok done) (Some text) old new failed written =
    let entries = dictionary_of (lines_of text) in
    inr (length entries, subst (λ texts. Appends old new (ended_text texts)) (sym (take_all (length entries) entries (omega arith))) written)
