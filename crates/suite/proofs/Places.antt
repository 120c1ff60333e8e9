-- Where the entry of a text begins that was put last.
use Rattle.std.proofs.Common.{◌≡◌, ℕ, ◌<◌, List, [], ◌∷◌, length, take, sym, arith, Some, Ok}
use Rattle.std.specs.Prelude.{◌^◌}
use Rattle.std.proofs.lemmas.List.{length_push, take-append-le, take_all}
use Rattle.string_interner.specs.Text.{Text}
use Rattle.std.proofs.lemmas.Option.{slice_get_within}
use Rattle.string_interner.specs.Numbering.{Numbering}
use Rattle.string_interner.specs.Backend.{Appends, IsPlace}
use Rattle.string_interner.specs.StandsFor.{StandsFor}

-- the number of the symbol that was returned is a place
pub appended-place : {S : Type 0} (numbering : Numbering S)
    → ((i : ℕ) (s : S) → numbering.symbol_of i ≡ Some s → (numbering.number s ≡ i) × (i < 2 ^ 64))
    → (old new : List Text) (text : Text) (s : S) → Appends numbering.symbol_of numbering.place old text (Ok s) new → IsPlace numbering.place new (numbering.number s)
appended-place numbering numbered old new text s h =
    let n : numbering.number s ≡ numbering.place old = (numbered (numbering.place old) s h.0).0 in
    let t : take (length old) new ≡ old = rw (h.1, take-append-le (length old) old (text ∷ []) (omega arith)) (take_all (length old) old (omega arith)) in
    (length old, record { within = rw h.1 (omega (arith, length_push old text)); begins = rw t (sym n) })

-- and so is that of a symbol that stands for a text
pub standing-place : {S : Type 0} (numbering : Numbering S)
    → ((i : ℕ) (s : S) → numbering.symbol_of i ≡ Some s → (numbering.number s ≡ i) × (i < 2 ^ 64))
    → (texts : List Text) (s : S) (text : Text) → StandsFor numbering texts s text → IsPlace numbering.place texts (numbering.number s)
standing-place numbering numbered texts s text stands = (
  stands.index,
  record {
    within = slice_get_within texts stands.index text stands.entry;
    begins = sym (numbered (numbering.place (take stands.index texts)) s stands.symbol_is).0;
  },
)
