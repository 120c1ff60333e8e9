-- Interning many texts, in a list or end to end, with their symbols in a list.
-- Cited by `intern_list` and `intern_joined` of `AnyInterner`, and by their exports.
use Rattle.std.specs.Prelude.{◌≡◌, ℕ, ◌<◌, ◌≤◌, ◌&&◌, ◌⊎◌, List, [], ◌∷◌, length, map, take, drop, slice_get, slice_range, nat_le, if◌then◌else◌, Some, Result, Ok, Err}
use Rattle.std.specs.Borrow.{Bor}
use Rattle.string_interner.specs.Text.{Text}
use Rattle.string_interner.specs.StandsFor.{StandInOrder}
use Rattle.string_interner.specs.Extend.{TakesIn}
use Rattle.string_interner.specs.Interner.{InternerContents}
use Rattle.string_interner.specs.Numbering.{Numbering}
use Rattle.handles.specs.Any.{any_of, contents, kind_of, numbering_of, texts_in}
use Rattle.handles.specs.Calls.{InternsBytes, IsTextOf}
use Rattle.handles.specs.Kind.{numbering_in}
use Rattle.handles.specs.declared.any.AnyInterner.{AnyInterner}
use Rattle.handles.specs.declared.kind.Kind.{Kind}
use Rattle.handles.specs.declared.text.Text.{Text as LentText}
use Rattle.handles.specs.declared.status.Status.{Status}
use Rattle.handles.specs.declared.status.Status.TheVariants.{NoRoom, BadEnds}

-- what a caller gives for a text: bytes, or a status that says why there are none
abbrev pub GivenText : Type 0
GivenText = Result (List ℕ) Status

-- the texts of a list
abbrev pub listed : List LentText → List GivenText
listed texts = map (λ text. Ok text.bytes.now) texts

-- the bytes from one end to the next, unless the next is less, or passes the bytes
abbrev pub cut : List ℕ → ℕ → ℕ → GivenText
cut bytes from end = if nat_le from end && nat_le end (length bytes) then Ok (slice_range bytes from end) else Err BadEnds

-- the texts that are end to end in the bytes: the first begins here, and each goes up to its end
abbrev pub parts : List ℕ → ℕ → List ℕ → List GivenText
parts bytes from [] = []
parts bytes from (end ∷ ends) = cut bytes from end ∷ parts bytes end ends

-- What is given is a text, or this is why it is none.
abbrev pub IsGiven : GivenText → Result (Bor Text) Status → Type 0
IsGiven (Ok bytes) text = IsTextOf bytes text
IsGiven (Err why) (Ok _) = ⊥
IsGiven (Err why) (Err status) = status ≡ why

-- The first of the given texts, so many of them, are interned, and their symbols are at the front of a list, whose rest stays. It
-- has room for as many symbols as texts are given.
pub record TakesFirst (given : List GivenText) (old : AnyInterner × List ℕ) (done : ℕ) (new : AnyInterner × List ℕ) : Type 0 where
  pub fits : length given ≤ length old.1
  pub kind : kind_of new.0 ≡ kind_of old.0
  pub texts : List Text
  pub texts_are : take done given ≡ map Ok texts
  pub taken : TakesIn (numbering_of old.0) (contents old.0) texts (contents new.0)
  pub stand : StandInOrder (numbering_of old.0) (texts_in new.0) (take done new.1) texts
  pub rest : drop done new.1 ≡ drop done old.1
  pub same_length : length new.1 ≡ length old.1

-- A given text is refused: as its bytes are, or since there are none, and then nothing changes.
abbrev pub Refuses : GivenText → AnyInterner → Status → AnyInterner → Type 0
Refuses (Ok bytes) old status new = InternsBytes bytes old (Err status) new
Refuses (Err why) old status new = (status ≡ why) × (new ≡ old)

-- Given texts are interned: all of them, or those before the first that is refused; or the list has no room for their symbols, and
-- nothing changes. What changes is the interner, the list of symbols, and how many texts are done, which is counted from 0.
abbrev pub InternsMany : List GivenText → AnyInterner × List ℕ × ℕ → Result (Unit {0}) Status → AnyInterner × List ℕ × ℕ → Type 0
InternsMany given (old, before, _) (Ok _) (new, after, done) = (done ≡ length given) × TakesFirst given (old, before) done (new, after)
InternsMany given (old, before, _) (Err status) (new, after, done) =
    ((mid : AnyInterner) × TakesFirst given (old, before) done (mid, after)
    × (next : GivenText) × (slice_get given done ≡ Some next) × Refuses next mid status new)
    ⊎ ((status ≡ NoRoom) × (length before < length given) × (done ≡ 0) × (new ≡ old) × (after ≡ before))

-- What changes as many texts are interned, with the outcome.
abbrev pub ManyChange : Type 0 → Type 1
ManyChange I = I × List ℕ × ℕ → Result (Unit {0}) Status → I × List ℕ × ℕ → Type 0

-- Contents change as an interner of each kind that numbers so.
abbrev pub InKindsOf : Numbering ℕ → ManyChange AnyInterner → ManyChange InternerContents
InKindsOf numbering change (old, before, was) outcome (new, after, done) =
    (kind : Kind) → numbering_in kind ≡ numbering → change (any_of kind old, before, was) outcome (any_of kind new, after, done)
