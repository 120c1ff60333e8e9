-- Interning texts that are given one after another.
use Rattle.std.proofs.Common.{◌≡◌, ℕ, zero, suc, ◌+◌, ◌<◌, ◌≤◌, List, [], ◌∷◌, ◌++◌, length, take, drop, set, get_or, refl, sym, ap, ◌∙◌, subst, arith, inl, Ok}
use Rattle.std.specs.Prelude.{Result, Err, IfSome, Some, slice_get, slice_index}
use Rattle.std.specs.Borrow.{Bor}
use Rattle.std.proofs.lemmas.List.{map_push, take_more, take_more_set, drop-set-lt, length-set}
use Rattle.std.proofs.lemmas.Grind.{drop_more_same}
use Rattle.std.proofs.lemmas.Option.{slice_get-get_or}
use Rattle.string_interner.specs.Text.{Text}
use Rattle.string_interner.specs.StringBackend.{span_of, start_at}
use Rattle.string_interner.specs.Numbering.{Numbering}
use Rattle.string_interner.specs.StandsFor.{StandsFor, KeepsSymbols, StandInOrder, none, next}
use Rattle.string_interner.specs.Interner.{InternerContents, InternsInto}
use Rattle.string_interner.specs.LoadFactor.{seven_eighths}
use Rattle.string_interner.proofs.Lemmas.Interner.Extends.{taken-more}
use Rattle.string_interner.specs.declared.backend.InternError.{InternError}
use Rattle.string_interner.specs.declared.backend.InternError.TheVariants.{NoSymbol as InternNoSymbol, Memory}
use Rattle.handles.specs.Any.{InternsAny, any_of, contents, numbering_of, texts_in}
use Rattle.handles.specs.InternMany.{GivenText, InternsMany, IsGiven, Refuses, TakesFirst, cut, parts}
use Rattle.handles.specs.Kind.{numbering_in}
use Rattle.handles.specs.Status.{status_of}
use Rattle.handles.specs.declared.any.AnyInterner.{AnyInterner}
use Rattle.handles.specs.declared.kind.Kind.{Kind}
use Rattle.handles.specs.declared.kind.Kind.TheVariants.{String, Bucket, Buffer}
use Rattle.handles.specs.declared.status.Status.{Status}
use Rattle.handles.specs.declared.status.Status.TheVariants.{BadText, NoSymbol, NoMemory, Nothing, NoRoom, BadKind, BadEnds, NotAList, NotAText, Repeated, BadHasher}

module _ {S : Type 0} (numbering : Numbering S) where
  -- symbols that stand for texts still do where another is interned, and so does its own after them
  stand-more : (old new : List Text) → KeepsSymbols numbering old new → (symbols : List S) (texts : List Text) (symbol : S) (text : Text)
      → StandInOrder numbering old symbols texts → StandsFor numbering new symbol text → StandInOrder numbering new (symbols ++ symbol ∷ []) (texts ++ text ∷ [])
  stand-more old new keeps _ _ symbol text none is = next is none
  stand-more old new keeps _ _ symbol text (next {symbol = s} {text = t} {symbols = symbols} {rest = rest} first more) is = next (keeps s t first) (stand-more old new keeps symbols rest symbol text more is)

-- what interning a text does to contents, it does to the interner of a kind that numbers so
pub interns_as : (numbering : Numbering ℕ) (old new : InternerContents) (text : Text) (outcome : Result ℕ InternError) → InternsInto numbering seven_eighths old text outcome new
    → (kind : Kind) → numbering_in kind ≡ numbering → InternsAny (any_of kind old) text outcome (any_of kind new)
interns_as numbering old new text outcome call String is = record { kind = refl; interned = subst (λ (n : Numbering ℕ). InternsInto n seven_eighths old text outcome new) (sym is) call }
interns_as numbering old new text outcome call Bucket is = record { kind = refl; interned = subst (λ (n : Numbering ℕ). InternsInto n seven_eighths old text outcome new) (sym is) call }
interns_as numbering old new text outcome call Buffer is = record { kind = refl; interned = subst (λ (n : Numbering ℕ). InternsInto n seven_eighths old text outcome new) (sym is) call }

-- what is given at an index, of which this is known
pub given-at : (given : List GivenText) (at : ℕ) (P : GivenText → Type 0) → at < length given → IfSome (slice_get given at) P → (it : GivenText) × (slice_get given at ≡ Some it) × P it
given-at given at P within known = let is = slice_get-get_or given at (Err BadEnds) within in (get_or given at (Err BadEnds), is, subst (λ o. IfSome o P) is known)

-- before the first text
pub no-texts : (given : List GivenText) (before : List ℕ) (old : AnyInterner) → length given ≤ length before → TakesFirst given (old, before) 0 (old, before)
no-texts given before old fits = record {
  fits = fits;
  kind = refl;
  texts = [];
  texts_are = refl;
  taken = record { interned = refl; keeps = λ symbol text stands. stands; spent = omega arith; known = λ none. refl };
  stand = none;
  rest = refl;
  same_length = refl;
}

module _ (given : List GivenText) (before : List ℕ) (old mid : AnyInterner) (done : ℕ) (so_far : List ℕ) (takes : TakesFirst given (old, before) done (mid, so_far)) (within : done < length given) where
  -- one more text goes in
  pub more-texts : (text : Bor Text) → IfSome (slice_get given done) (λ it. IsGiven it (Ok text)) → (new : AnyInterner) (symbol : ℕ) (after : List ℕ) → InternsAny mid text.now (Ok symbol) new → after ≡ set so_far done symbol
      → TakesFirst given (old, before) (done + 1) (new, after)
  more-texts text known new symbol after call now =
      let call_is = subst (λ (k : Kind). InternsInto (numbering_in k) seven_eighths (contents mid) text.now (Ok symbol) (contents new)) takes.kind call.interned in
      let lt : done < length so_far = omega (arith, within, takes.fits, takes.same_length) in
      let front : take (done + 1) after ≡ take done so_far ++ symbol ∷ [] = ap (λ (xs : List ℕ). take (done + 1) xs) now ∙ take_more_set so_far done symbol lt in
      let taken = taken-more (numbering_of old) seven_eighths (contents old) (contents mid) (contents new) takes.texts text.now symbol takes.taken call_is in
      let stand = stand-more (numbering_of old) (texts_in mid) (texts_in new) call_is.keeps (take done so_far) takes.texts symbol text.now takes.stand call_is.stands in
      record {
        fits = takes.fits;
        kind = call.kind ∙ takes.kind;
        texts = takes.texts ++ text.now ∷ [];
        texts_are =
            take_more given done (Err BadEnds) within ∙ ap (λ (it : GivenText). take done given ++ it ∷ []) (is_text (get_or given done (Err BadEnds)) (subst (λ o. IfSome o (λ it. IsGiven it (Ok text))) (slice_get-get_or given done (Err BadEnds) within) known))
            ∙ ap (λ (front : List GivenText). front ++ Ok text.now ∷ []) takes.texts_are ∙ sym (map_push Ok takes.texts text.now);
        taken = taken;
        stand = rw front stand;
        rest = ap (λ (xs : List ℕ). drop (done + 1) xs) now ∙ drop-set-lt (done + 1) so_far done symbol (omega arith) ∙ drop_more_same so_far before done takes.rest;
        same_length = ap length now ∙ length-set so_far done symbol ∙ takes.same_length;
      }
    where
      is_text : (it : GivenText) → IsGiven it (Ok text) → it ≡ Ok text.now
      is_text (Ok bytes) h = ap (λ (b : List ℕ). Ok b) (sym h.1)
      is_text (Err why) h = absurd h

  -- where what is given is refused, the call ends so
  stopped : (started : ℕ) (new : AnyInterner) (status : Status) (outcome : Result (Unit {0}) Status) → outcome ≡ Err status → (it : GivenText) × (slice_get given done ≡ Some it) × Refuses it mid status new
      → InternsMany given (old, before, started) outcome (new, so_far, done)
  stopped started new status outcome is refused = rw is (inl (mid, takes, refused.0, refused.1, refused.2))

  -- where it is no text
  pub given_refused : (started : ℕ) (status : Status) (outcome : Result (Unit {0}) Status) → outcome ≡ Err status → IfSome (slice_get given done) (λ it. IsGiven it (Err status)) → InternsMany given (old, before, started) outcome (mid, so_far, done)
  given_refused started status outcome is known =
      let it = given-at given done (λ it. IsGiven it (Err status)) within known in
      stopped started mid status outcome is (it.0, it.1, of it.0 status it.2)
    where
      of : (it : GivenText) (status : Status) → IsGiven it (Err status) → Refuses it mid status mid
      of (Err why) status h = (h, refl)
      of (Ok bytes) BadText h = (h, refl)
      of (Ok bytes) BadEnds h = absurd h
      of (Ok bytes) NoMemory h = absurd h
      of (Ok bytes) NoSymbol h = absurd h
      of (Ok bytes) Nothing h = absurd h
      of (Ok bytes) NoRoom h = absurd h
      of (Ok bytes) BadKind h = absurd h
      of (Ok bytes) NotAList h = absurd h
      of (Ok bytes) NotAText h = absurd h
      of (Ok bytes) Repeated h = absurd h
      of (Ok bytes) BadHasher h = absurd h

  -- where it is a text that is refused
  pub text_refused : (started : ℕ) (text : Bor Text) → IfSome (slice_get given done) (λ it. IsGiven it (Ok text)) → (new : AnyInterner) (error : InternError) (status : Status) (outcome : Result (Unit {0}) Status)
      → outcome ≡ Err status → status ≡ status_of error → InternsAny mid text.now (Err error) new → InternsMany given (old, before, started) outcome (new, so_far, done)
  text_refused started text known new error status outcome is told call =
      let it = given-at given done (λ it. IsGiven it (Ok text)) within known in
      stopped started new (status_of error) outcome (is ∙ ap (λ (s : Status). Err s) told) (it.0, it.1, of it.0 error it.2 call)
    where
      of : (it : GivenText) (error : InternError) → IsGiven it (Ok text) → InternsAny mid text.now (Err error) new → Refuses it mid (status_of error) new
      of (Ok bytes) InternNoSymbol h call = (h.0, subst (λ (t : Text). InternsAny mid t (Err InternNoSymbol) new) h.1 call)
      of (Ok bytes) (Memory e) h call = (h.0, subst (λ (t : Text). InternsAny mid t (Err (Memory e)) new) h.1 call)
      of (Err why) error h call = absurd h

-- as many parts are given as there are ends
pub parts-length : (bytes : List ℕ) (from : ℕ) (ends : List ℕ) → length (parts bytes from ends) ≡ length ends
parts-length bytes from [] = refl
parts-length bytes from (end ∷ ends) = ap suc (parts-length bytes end ends)

-- where a part begins, if the first begins here
abbrev begin_of : ℕ → List ℕ → ℕ → ℕ
begin_of from ends zero = from
begin_of from ends (suc i) = slice_index ends i

part-is : (bytes : List ℕ) (from : ℕ) (ends : List ℕ) (i : ℕ) → i < length ends → get_or (parts bytes from ends) i (Err BadEnds) ≡ cut bytes (begin_of from ends i) (slice_index ends i)
part-is bytes from [] i within = absurd (omega (arith, within))
part-is bytes from (end ∷ ends) zero within = refl
part-is bytes from (end ∷ ends) (suc i) within = part-is bytes end ends i (omega (arith, within)) ∙ ap (λ (n : ℕ). cut bytes n (slice_index ends i)) (of i)
  where
    of : (i : ℕ) → begin_of end ends i ≡ slice_index (end ∷ ends) i
    of zero = refl
    of (suc i) = refl

begin-start : (ends : List ℕ) (i : ℕ) → begin_of 0 ends i ≡ start_at ends i
begin-start ends zero = refl
begin-start ends (suc i) = refl

-- what is so of the bytes between its ends is so of a part
pub part-at : (bytes ends : List ℕ) (i : ℕ) (bounds : ℕ × ℕ) (P : GivenText → Type 0) → i < length ends → bounds ≡ span_of ends i → P (cut bytes bounds.0 bounds.1) → IfSome (slice_get (parts bytes 0 ends) i) P
part-at bytes ends i bounds P within are h =
    let count = parts-length bytes 0 ends in
    let is : slice_get (parts bytes 0 ends) i ≡ Some (cut bytes bounds.0 bounds.1) =
    slice_get-get_or (parts bytes 0 ends) i (Err BadEnds) (omega (arith, count, within)) ∙ ap (λ (it : GivenText). Some it) (part-is bytes 0 ends i within ∙ ap (λ (n : ℕ). cut bytes n (slice_index ends i)) (begin-start ends i) ∙ ap (λ (b : ℕ × ℕ). cut bytes b.0 b.1) (sym are)) in
    rw is h
