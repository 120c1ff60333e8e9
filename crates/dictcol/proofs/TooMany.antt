-- Lines that are refused because there are too many.
use Rattle.std.proofs.Common.{◌≡◌, ◌≢◌, ℕ, ◌+◌, ◌≤◌, Bool, true, false, cond, eqb, List, [], ◌∷◌, ◌++◌, length, drop, Bor, Option, Some, None, Err, refl, sym, ap, subst, ◌∙◌, inl, inr}
use Rattle.std.specs.Prelude.{slice_get, slice_range, IfSome, MatchOption}
use Rattle.std.specs.Iterator.{Yields, YieldsFirstRef}
use Rattle.std.specs.List.{list_any, flat_map, onto_first}
use Rattle.std.proofs.lemmas.List.{append-nil, append_assoc}
use Rattle.string_interner.specs.Text.{Text, first}
use Rattle.string_interner.specs.Extend.{texts_of}
use Rattle.string_interner.specs.Interner.{Interns}
use Rattle.string_interner.specs.Numbering.{Numbering}
use Rattle.string_interner.specs.declared.backend.InternError.{InternError}
use Rattle.string_interner.specs.declared.backend.InternError.TheVariants.{NoSymbol, Memory}
use Rattle.string_column.specs.Column.{AppendsRows, dictionary_of}
use Rattle.string_column.specs.Entries.{IsRefusal, LacksSymbol}
use Rattle.dictcol.specs.Blocks.{IsLinesFault, IsTextOf}
use Rattle.dictcol.specs.Counts.{HasCounted, contents_of}
use Rattle.dictcol.specs.Fault.{IsTakeFault, intern_fault}
use Rattle.dictcol.specs.Lines.{behind_newline, has_newline, lines_of, newline_if, text_of_ended, AreLines}
use Rattle.dictcol.specs.TooMany.{HasRefused, LacksBehind, LacksCount, LacksLine}
use Rattle.dictcol.specs.declared.fault.Fault.{Fault}
use Rattle.dictcol.proofs.TextLines.{both-plain, ended, ended-first, more-rows, one-ended, one-line, push-plain, range-plain}

-- one reason has another one behind it
pub take-weaker : {A B : Type 0} (fault : Fault) → (A → B) → IsTakeFault A fault → IsTakeFault B fault
take-weaker fault more (inl memory) = inl memory
take-weaker fault more (inr many) = inr (many.0, more many.1)

-- ---- what interning refuses

pub refusal-fault : {S : Type 0} (numbering : Numbering S) (texts : List Text) (text : Text) (error : InternError) → IsRefusal numbering texts text error
    → IsTakeFault (LacksSymbol numbering texts text) (intern_fault error)
refusal-fault numbering texts text NoSymbol lacks = inr (refl, lacks)
refusal-fault numbering texts text (Memory error) memory = inl refl

-- a text that is not interned has no symbol, or there is no memory
refusal : {S : Type 0} (numbering : Numbering S) (entries new : List Text) (text : Text) (error : InternError) → Interns numbering entries text (Err error) new → IsRefusal numbering entries text error
refusal numbering entries new text (Memory e) interns = tt
refusal numbering entries new text NoSymbol interns = of (first entries text) refl interns
  where
    of : (o : Option ℕ) → first entries text ≡ o → MatchOption o ((numbering.symbol_of (numbering.place entries) ≡ None) × (new ≡ entries)) (λ i. ⊥ × (new ≡ entries)) → IsRefusal numbering entries text NoSymbol
    of None e put = record { is_new = e; none_left = put.0 }
    of (Some i) e known = absurd known.0

pub interns-fault : {S : Type 0} (numbering : Numbering S) (old new : List Text) (text : Text) (error : InternError) → Interns numbering old text (Err error) new
    → IsTakeFault (LacksSymbol numbering old text) (intern_fault error)
interns-fault numbering old new text error interns = refusal-fault numbering old text error (refusal numbering old new text error interns)

-- ---- lines with more behind them

module _ (Refuses : List Text → Text → Type 0) where
  pub more-refused : (lines more : List Text) → HasRefused Refuses lines → HasRefused Refuses (lines ++ more)
  more-refused lines more (front, line, rest, whole, refused) =
      (front, line, rest ++ more, ap (λ ls. ls ++ more) whole ∙ append_assoc front (line ∷ rest) more, refused)

  -- the line behind those that were taken
  pub last-refused : (lines : List Text) (line : Text) → Refuses lines line → HasRefused Refuses (lines ++ line ∷ [])
  last-refused lines line refused = (lines, line, [], refl, refused)

  -- the first of the lines that are ahead, behind those before them
  pub next-refused : (lines front ahead rest all : List Text) (line : Text) → ahead ≡ line ∷ rest → front ++ ahead ≡ all → Refuses (lines ++ front) line → HasRefused Refuses (lines ++ all)
  next-refused lines front ahead rest all line first whole refused =
      (lines ++ front, line, rest, ap (λ ls. lines ++ ls) (sym whole ∙ ap (λ ls. front ++ ls) first) ∙ sym (append_assoc lines front (line ∷ rest)), refused)

  -- what stands behind the last newline of an input
  pub rest-refused : (input : Option Text) (seen : List Text) (rest : Text) (fault : Fault) → IsTextOf input seen rest → rest ≢ [] → IsTakeFault (Refuses seen rest) fault → IsLinesFault Refuses input fault
  rest-refused None seen rest fault is some taking = inr (inl (take-weaker fault (λ _. tt) taking))
  rest-refused (Some all) seen rest fault is some taking =
      let lines : lines_of all ≡ seen ++ rest ∷ [] = ap lines_of is.whole ∙ ended-first seen rest is.plain ∙ ap (λ ls. seen ++ ls) (one-line rest is.rest_plain some) in
      inr (inl (take-weaker fault (λ refused. subst (HasRefused Refuses) (sym lines) (last-refused seen rest refused)) taking))

-- ---- what a count refuses

-- a line that is not interned
pub counted-refused : {S : Type 0} (numbering : Numbering S) (entries : List Text) (counts : List ℕ) (total : ℕ) (lines : List Text) (line : Text) (error : InternError)
    → HasCounted (contents_of entries counts total) lines → IsRefusal numbering entries line error → IsTakeFault (LacksCount numbering lines line) (intern_fault error)
counted-refused numbering entries counts total lines line error has refused =
    take-weaker (intern_fault error) (λ lacks. inr (subst (λ texts. LacksSymbol numbering texts line) has.entries_are lacks)) (refusal-fault numbering entries line error refused)

-- ---- what a column refuses

-- the texts that an iterator yields before one, and that one, are the first of its list
pub yields-first : {S : Type 0} (shown : S → List Text) (items : List (Bor Text)) (next : Bor Text) (s t u : S) → Yields (YieldsFirstRef shown) s items t → YieldsFirstRef shown t (Some next) u
    → shown s ≡ texts_of items ++ next.now ∷ shown u
yields-first shown [] next s t u same step = ap shown same ∙ step
yields-first shown (item ∷ items) next s t u (mid, first, later) step = first ∙ ap (λ rest. item.now ∷ rest) (yields-first shown items next mid t u later step)

-- ---- what is refused of a text that grows

module _ {S : Type 0} (numbering : Numbering S) where
  -- the rest is put last
  pub whole-refused : (lines : List Text) (rest : Text) (error : InternError) → list_any has_newline lines ≡ false → has_newline rest ≡ false → rest ≢ []
      → IsRefusal numbering (dictionary_of lines) rest error → IsTakeFault (HasRefused (LacksLine numbering) (lines_of (text_of_ended lines rest))) (intern_fault error)
  whole-refused lines rest error plain one some refused =
      let are : lines_of (text_of_ended lines rest) ≡ lines ++ rest ∷ [] = ended-first lines rest plain ∙ ap (λ ls. lines ++ ls) (one-line rest one some) in
      take-weaker (intern_fault error) (λ lacks. subst (HasRefused (LacksLine numbering)) (sym are) (last-refused (LacksLine numbering) lines rest lacks)) (refusal-fault numbering (dictionary_of lines) rest error refused)

  -- a newline ends the rest
  pub end-refused : (lines : List Text) (rest : Text) (error : InternError) → list_any has_newline lines ≡ false → has_newline rest ≡ false
      → IsRefusal numbering (dictionary_of lines) rest error → IsTakeFault (HasRefused (LacksLine numbering) (lines_of (text_of_ended lines rest ++ 10 ∷ []))) (intern_fault error)
  end-refused lines rest error plain one refused =
      let all = lines ++ rest ∷ [] in
      let are : lines_of (text_of_ended lines rest ++ 10 ∷ []) ≡ lines ++ rest ∷ [] =
      ap lines_of (sym (one-ended lines rest)) ∙ ended-first all [] (push-plain lines rest plain one) ∙ append-nil all in
      take-weaker (intern_fault error) (λ lacks. subst (HasRefused (LacksLine numbering)) (sym are) (last-refused (LacksLine numbering) lines rest lacks)) (refusal-fault numbering (dictionary_of lines) rest error refused)

  module _ (lines rows : List Text) (rest last : Text) (end : ℕ) (plain : list_any has_newline lines ≡ false) (one : has_newline rest ≡ false) (rows-plain : list_any has_newline rows ≡ false)
      (some : 1 ≤ end) (whole : end + 1 ≡ length rows) (at : slice_get rows end ≡ Some last) where
    -- the lines with the rows but the first behind them
    further-lines : lines_of (text_of_ended lines rest ++ flat_map behind_newline (drop 1 rows)) ≡ ((lines ++ rest ∷ []) ++ slice_range rows 1 end) ++ lines_of last
    further-lines =
        let new = (lines ++ rest ∷ []) ++ slice_range rows 1 end in
        ap lines_of (sym (more-rows lines rows new rest end last some whole at refl) ∙ ap (λ text. text ++ last) (append-nil (flat_map ended new)))
        ∙ ended-first new last (both-plain (lines ++ rest ∷ []) (slice_range rows 1 end) (push-plain lines rest plain one) (range-plain rows 1 end rows-plain))

    -- the rest is put last
    pub further-rest-refused : (error : InternError) → IsRefusal numbering (dictionary_of lines) rest error
        → IsTakeFault (HasRefused (LacksLine numbering) (lines_of (text_of_ended lines rest ++ flat_map behind_newline (drop 1 rows)))) (intern_fault error)
    further-rest-refused error refused =
        let range = slice_range rows 1 end in
        take-weaker (intern_fault error)
        (λ lacks. subst (HasRefused (LacksLine numbering)) (sym further-lines)
        (more-refused (LacksLine numbering) ((lines ++ rest ∷ []) ++ range) (lines_of last) (more-refused (LacksLine numbering) (lines ++ rest ∷ []) range (last-refused (LacksLine numbering) lines rest lacks))))
        (refusal-fault numbering (dictionary_of lines) rest error refused)

    -- and then the rows
    pub further-row-refused : (error : InternError) (new : List Text) → AppendsRows numbering (lines ++ rest ∷ []) (slice_range rows 1 end) (Err error) new
        → IsTakeFault (HasRefused (LacksLine numbering) (lines_of (text_of_ended lines rest ++ flat_map behind_newline (drop 1 rows)))) (intern_fault error)
    further-row-refused error new (front, row, more, parts, put, refused) =
        let all = lines ++ rest ∷ [] in
        take-weaker (intern_fault error)
        (λ lacks. subst (HasRefused (LacksLine numbering)) (sym further-lines)
        (more-refused (LacksLine numbering) (all ++ slice_range rows 1 end) (lines_of last)
        (next-refused (LacksLine numbering) all front (row ∷ more) more (slice_range rows 1 end) row refl (sym parts) (subst (λ ls. LacksLine numbering ls row) put lacks))))
        (refusal-fault numbering (dictionary_of new) row error refused)

some-lines : (b : ℕ) (bs : Text) → lines_of (b ∷ bs) ≡ [] → ⊥
some-lines b bs = of (eqb b 10) (lines_of bs)
  where
    of : (test : Bool) (lines : List Text) → cond test ([] ∷ lines) (onto_first b lines) ≡ [] → ⊥
    of true lines e = cc
    of false [] e = cc
    of false (line ∷ lines) e = cc

-- a newline at the very end takes no line away
ended-more : (text : Text) → (more : List Text) × (lines_of (text ++ 10 ∷ []) ≡ lines_of text ++ more)
ended-more [] = ([] ∷ [], refl)
ended-more (b ∷ []) = of (eqb b 10)
  where
    of : (test : Bool) → (more : List Text) × (cond test ([] ∷ [] ∷ []) (onto_first b ([] ∷ [])) ≡ cond test ([] ∷ []) (onto_first b []) ++ more)
    of true = ([] ∷ [], refl)
    of false = ([], refl)
ended-more (b ∷ d ∷ bs) = of (eqb b 10) (lines_of (d ∷ bs)) (lines_of (d ∷ bs ++ 10 ∷ [])) (some-lines d bs) (ended-more (d ∷ bs))
  where
    of : (test : Bool) (before after : List Text) → (before ≡ [] → ⊥) → (more : List Text) × (after ≡ before ++ more)
        → (more : List Text) × (cond test ([] ∷ after) (onto_first b after) ≡ cond test ([] ∷ before) (onto_first b before) ++ more)
    of true before after some (more, grown) = (more, ap (λ ls. [] ∷ ls) grown)
    of false [] after some longer = absurd (some refl)
    of false (line ∷ lines) after some (more, grown) = (more, ap (onto_first b) grown)

pub newline-refused : (Refuses : List Text → Text → Type 0) (text more : Text) (is_ended : Bool) → HasRefused Refuses (lines_of (text ++ more)) → HasRefused Refuses (lines_of (text ++ (more ++ newline_if is_ended)))
newline-refused Refuses text more false refused = subst (λ t. HasRefused Refuses (lines_of (text ++ t))) (sym (append-nil more)) refused
newline-refused Refuses text more true refused =
    let longer = ended-more (text ++ more) in
    subst (HasRefused Refuses) (sym (ap lines_of (sym (append_assoc text more (10 ∷ []))) ∙ longer.1)) (more-refused Refuses (lines_of (text ++ more)) longer.0 refused)

-- ---- what is refused behind lines from before

pub refused-weaker : (Refuses Refuses' : List Text → Text → Type 0) → ((front : List Text) (line : Text) → Refuses front line → Refuses' front line) → (lines : List Text) → HasRefused Refuses lines → HasRefused Refuses' lines
refused-weaker Refuses Refuses' more lines (front, line, rest, whole, refused) = (front, line, rest, whole, more front line refused)

pub lines-weaker : (Refuses Refuses' : List Text → Text → Type 0) → ((front : List Text) (line : Text) → Refuses front line → Refuses' front line) → (input : Option Text) (fault : Fault)
    → IsLinesFault Refuses input fault → IsLinesFault Refuses' input fault
lines-weaker Refuses Refuses' more input fault (inl reading) = inl reading
lines-weaker Refuses Refuses' more None fault (inr (inl taking)) = inr (inl taking)
lines-weaker Refuses Refuses' more (Some text) fault (inr (inl taking)) = inr (inl (take-weaker fault (refused-weaker Refuses Refuses' more (lines_of text)) taking))
lines-weaker Refuses Refuses' more input fault (inr (inr bad)) = inr (inr bad)

-- the lines of an input are put behind them, and one is refused
pub behind-refused : {S : Type 0} (numbering : Numbering S) (before more new : List Text) (is_ended : Bool) (input : Option Text) (error : InternError) → AppendsRows numbering before more (Err error) new
    → IfSome input (λ text. AreLines text more is_ended) → IsLinesFault (LacksBehind numbering before) input (intern_fault error)
behind-refused numbering before more new is_ended None error appends are =
    inr (inl (take-weaker (intern_fault error) (λ _. tt) (refusal-fault numbering (dictionary_of new) appends.1 error appends.5)))
behind-refused numbering before more new is_ended (Some text) error (front, line, rest, whole, put, refused) are =
    inr (inl (take-weaker (intern_fault error)
    (λ lacks. (front, line, rest, sym are.lines_are ∙ whole, inr (subst (λ lines. LacksLine numbering lines line) put lacks)))
    (refusal-fault numbering (dictionary_of new) line error refused)))
