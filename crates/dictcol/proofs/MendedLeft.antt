-- What is left to read of an input that is mended.
use Rattle.std.proofs.Common.{◌≡◌, ℕ, ◌+◌, ◌≤◌, Bool, true, false, cond, [], ◌++◌, length, take, drop, Option, Some, None, option_map, Result, Ok, Err, OnOk, is_err, refl, sym, ap, ap₂, subst, ◌∙◌, append_assoc}
use Rattle.std.specs.Io.KnownBytes.{prepend_known, Keeps, Consumes, IsAtEnd}
use Rattle.std.proofs.lemmas.List.{append-nil, take-append-drop, take_all, drop-drop}
use Rattle.std.proofs.lemmas.Bool.{true≢false}
use Rattle.std.specs.declared.io.traits.Read.{Ghosts}
use Rattle.string_interner.specs.Text.{Text}
use Rattle.dictcol.specs.Mended.{mend_text, ready_left, left_by, mended_left}
use Rattle.dictcol.specs.declared.input.mend.Mending.{Mending}
use Rattle.dictcol.specs.declared.input.mend.Mending.TheVariants as mending
use Rattle.dictcol.specs.declared.input.mend.Mended.{Mended}
use Rattle.dictcol.proofs.AreWhole.{AreWhole}
use Rattle.dictcol.proofs.Utf8Lossy.{utf8_lossy-AreWhole}
use Rattle.dictcol.proofs.WholeLines.{utf8_lines-AreWhole}

-- whole lines are mended without what follows
mend_text-AreWhole : (how : Mending) (lines rest : Text) → AreWhole lines → mend_text how (lines ++ rest) ≡ mend_text how lines ++ mend_text how rest
mend_text-AreWhole mending.Replace lines rest whole = utf8_lossy-AreWhole lines rest whole
mend_text-AreWhole mending.Skip lines rest whole = utf8_lines-AreWhole lines rest whole

module _ (how : Mending) where
  -- what is ready, and then what is held and left, mended
  abbrev left_before : Text → Text → Option Text → Option Text
  left_before ready held left = option_map (λ rest. ready ++ mend_text how (held ++ rest)) left

  keeps-before : (held more rest_held ready : Text) (left now : Option Text) → Keeps (prepend_known held left) (prepend_known more now)
      → ((rest : Text) → ready ++ mend_text how (rest_held ++ rest) ≡ mend_text how (more ++ rest)) → Keeps (left_before [] held left) (left_before ready rest_held now)
  keeps-before held more rest_held ready None now kept same = tt
  keeps-before held more rest_held ready (Some left) None kept same = absurd kept
  keeps-before held more rest_held ready (Some left) (Some now) kept same = same now ∙ ap (mend_text how) kept

  keeps-end : (held more ready : Text) (left now : Option Text) → Keeps (prepend_known held left) (prepend_known more now) → IsAtEnd now → ready ≡ mend_text how more
      → Keeps (left_before [] held left) (Some ready)
  keeps-end held more ready None now kept end is = tt
  keeps-end held more ready (Some left) None kept end is = absurd kept
  keeps-end held more ready (Some left) (Some now) kept end is = is ∙ ap (mend_text how) (sym (append-nil more) ∙ ap (λ rest. more ++ rest) (sym end) ∙ kept)

  given-before : (held came ready : Text) (start left : Option Text) → Keeps start (left_before (came ++ ready) held left) → Consumes start (left_before ready held left) came
  given-before held came ready None left kept = tt
  given-before held came ready (Some text) None kept = absurd kept
  given-before held came ready (Some text) (Some left) kept = sym kept ∙ append_assoc came ready (mend_text how (held ++ left))

  given-behind : (came ready : Text) (start : Option Text) → Keeps start (Some (came ++ ready)) → Consumes start (Some ready) came
  given-behind came ready None kept = tt
  given-behind came ready (Some text) kept = sym kept

module _ {R : Type 0} {reads : Ghosts R} (how : Mending) where
  before-end : (it : Mended R reads) → it.mending ≡ Some how → it.is_ended ≡ false → mended_left it ≡ left_before how (ready_left it) it.held.items (reads.remaining it.input)
  before-end it is going =
      ap (λ mending. left_by mending it) is ∙ ap (λ b. cond b (Some (ready_left it)) (left_before how (ready_left it) it.held.items (reads.remaining it.input))) going

  behind-end : (it : Mended R reads) → it.mending ≡ Some how → it.is_ended ≡ true → mended_left it ≡ Some (ready_left it)
  behind-end it is ended =
      ap (λ mending. left_by mending it) is ∙ ap (λ b. cond b (Some (ready_left it)) (left_before how (ready_left it) it.held.items (reads.remaining it.input))) ended

  -- more was read behind what is held
  module _ (old new : Mended R reads) (more : Text) (none : ready_left old ≡ []) (is : old.mending ≡ Some how) (going : old.is_ended ≡ false)
      (kept : Keeps (prepend_known old.held.items (reads.remaining old.input)) (prepend_known more (reads.remaining new.input))) (is_new : new.mending ≡ Some how) where
    was : mended_left old ≡ left_before how [] old.held.items (reads.remaining old.input)
    was = before-end old is going ∙ ap (λ ready. left_before how ready old.held.items (reads.remaining old.input)) none

    keeps-going : new.is_ended ≡ false → ((rest : Text) → ready_left new ++ mend_text how (new.held.items ++ rest) ≡ mend_text how (more ++ rest))
        → Keeps (mended_left old) (mended_left new)
    keeps-going going_new same =
        subst (λ it. Keeps it (mended_left new)) (sym was) (subst (Keeps (left_before how [] old.held.items (reads.remaining old.input))) (sym (before-end new is_new going_new))
        (keeps-before how old.held.items more new.held.items (ready_left new) (reads.remaining old.input) (reads.remaining new.input) kept same))

    -- and nothing is mended
    pub more-held : new.is_ended ≡ false → ready_left new ≡ [] → new.held.items ≡ more → Keeps (mended_left old) (mended_left new)
    more-held going_new empty held =
        keeps-going going_new (λ rest. ap₂ (λ ready it. ready ++ mend_text how (it ++ rest)) empty held)

    -- and whole lines are mended
    pub lines-mended : (count : ℕ) → new.is_ended ≡ false → ready_left new ≡ mend_text how (take count more) → new.held.items ≡ drop count more → AreWhole (take count more)
        → Keeps (mended_left old) (mended_left new)
    lines-mended count going_new ready held whole =
        keeps-going going_new
        (λ rest. ap₂ (λ it behind. it ++ mend_text how (behind ++ rest)) ready held ∙ sym (mend_text-AreWhole how (take count more) (drop count more ++ rest) whole)
        ∙ ap (mend_text how) (sym (append_assoc (take count more) (drop count more) rest) ∙ ap (λ all. all ++ rest) (take-append-drop count more)))

    -- and all is mended at the end
    pub rest-mended : (count : ℕ) → new.is_ended ≡ true → ready_left new ≡ mend_text how (take count more) → length more ≤ count → IsAtEnd (reads.remaining new.input)
        → Keeps (mended_left old) (mended_left new)
    rest-mended count ended ready all end =
        subst (λ it. Keeps it (mended_left new)) (sym was) (subst (Keeps (left_before how [] old.held.items (reads.remaining old.input))) (sym (behind-end new is_new ended))
        (keeps-end how old.held.items more (ready_left new) (reads.remaining old.input) (reads.remaining new.input) kept end (ready ∙ ap (mend_text how) (take_all count more all))))

  -- ---- bytes are given that are ready

  module _ (old new : Mended R reads) (came : Text) (start : Option Text) (is : old.mending ≡ Some how) (is_new : new.mending ≡ old.mending) (same_end : new.is_ended ≡ old.is_ended)
      (same_held : new.held.items ≡ old.held.items) (same_input : new.input ≡ old.input) (kept : Keeps start (mended_left old)) (given : ready_left old ≡ came ++ ready_left new) where
    pub ready-given : Consumes start (mended_left new) came
    ready-given = by-end old.is_ended refl
      where
        by-end : (ended : Bool) → old.is_ended ≡ ended → Consumes start (mended_left new) came
        by-end true ended =
            let was : mended_left old ≡ Some (came ++ ready_left new) = behind-end old is ended ∙ ap Some given in
            subst (λ it. Consumes start it came) (sym (behind-end new (is_new ∙ is) (same_end ∙ ended)))
            (given-behind how came (ready_left new) start (subst (Keeps start) was kept))
        by-end false going =
            let left = reads.remaining new.input in
            let was : mended_left old ≡ left_before how (came ++ ready_left new) new.held.items left =
            before-end old is going ∙ ap₂ (λ ready held. left_before how ready held (reads.remaining old.input)) given (sym same_held)
            ∙ ap (λ input. left_before how (came ++ ready_left new) new.held.items (reads.remaining input)) (sym same_input) in
            subst (λ it. Consumes start it came) (sym (before-end new (is_new ∙ is) (same_end ∙ going)))
            (given-before how new.held.items came (ready_left new) start left (subst (Keeps start) was kept))

    pub all-given : new.is_ended ≡ true → ready_left new ≡ [] → IsAtEnd (mended_left new)
    all-given ended empty = subst IsAtEnd (sym (behind-end new (is_new ∙ is) ended)) empty

-- bytes that were given are not left
pub given-part : (ready lent buf : Text) (at end count : ℕ) → lent ≡ ready → take count buf ≡ take count (drop at lent) → end ≡ at + count → drop at ready ≡ take count buf ++ drop end ready
given-part ready lent buf at end count same came moved =
    sym (take-append-drop count (drop at ready))
    ∙ ap₂ (λ front rest. front ++ rest) (sym (came ∙ ap (λ it. take count (drop at it)) same)) (drop-drop count at ready ∙ ap (λ n. drop n ready) (sym moved))

-- what a call says if it does not fail
pub when-ok : {A E : Type 0} (P : Type 0) (outcome : Result A E) → OnOk outcome P → is_err outcome ≡ false → P
when-ok P (Ok it) holds no_error = holds
when-ok P (Err error) holds no_error = absurd (true≢false no_error)

-- ---- bytes are held that came from the input

pub came-held : (held more came : Text) (left now : Option Text) → Consumes left now came → more ≡ held ++ came → Keeps (prepend_known held left) (prepend_known more now)
came-held held more came None now read is = tt
came-held held more came (Some left) None read is = absurd read
came-held held more came (Some left) (Some now) read is = ap (λ it. it ++ now) is ∙ append_assoc held came now ∙ ap (λ it. held ++ it) (sym read)

pub none-held : (held more : Text) (left now : Option Text) → Keeps left now → more ≡ held → Keeps (prepend_known held left) (prepend_known more now)
none-held held more None now same is = tt
none-held held more (Some left) None same is = absurd same
none-held held more (Some left) (Some now) same is = ap₂ (λ it rest. it ++ rest) is same
