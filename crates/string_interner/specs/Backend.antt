-- What holds of every backend: where its entries begin, what its list satisfies, appending a text, and spare capacity.
-- Cited by the trait `Backend`, its implementations, and all that stands on a backend.
use Rattle.std.specs.Prelude.{◌≡◌, ℕ, ◌+◌, ◌<◌, ◌≤◌, ◌^◌, List, [], ◌∷◌, ◌++◌, length, take, All, Option, Some, None, IsSome, Result, Ok, Err, IsOk, OnOk, OnErr}
use Rattle.std.specs.Str.{IsUtf8}
use Rattle.string_interner.specs.Text.{Text}
use Rattle.string_interner.specs.Numbering.{Numbering}
use Rattle.string_interner.specs.declared.backend.InternError.{InternError}
use Rattle.string_interner.specs.declared.backend.InternError.TheVariants.{NoSymbol, Memory}

-- what contracts see of a backend that has no buckets
pub record Contents : Type 0 where
  pub texts : List Text
  pub room : ℕ

-- a bucket: the requested capacity in bytes, and the bytes stored in it
pub record Bucket : Type 0 where
  pub capacity : ℕ
  pub bytes : List ℕ

-- the entry `i` begins at the place `at`
pub record BeginsAt (place : List Text → ℕ) (texts : List Text) (at i : ℕ) : Type 0 where
  pub within : i < length texts
  pub begins : place (take i texts) ≡ at

-- some entry begins at the place
abbrev pub IsPlace : (List Text → ℕ) → List Text → ℕ → Type 0
IsPlace place texts at = (i : ℕ) × BeginsAt place texts at i

-- what the list of every backend satisfies: its entries are UTF-8, each has a symbol, and the next place fits a `usize`
pub record IsValidList {S : Type 0} (symbol_of : ℕ → Option S) (place : List Text → ℕ) (texts : List Text) : Type 0 where
  pub utf8 : All IsUtf8 texts
  pub has_symbols : (i : ℕ) → i < length texts → IsSome (symbol_of (place (take i texts)))
  pub fits : place texts < 2 ^ 64

-- Appending a text to the old list, without looking for an equal one, has this outcome and gives this new list.
abbrev pub Appends : {S : Type 0} → (ℕ → Option S) → (List Text → ℕ) → List Text → Text → Result S InternError → List Text → Type 0
-- `Ok` has the symbol of the next place
Appends symbol_of place old text (Ok symbol) new = (symbol_of (place old) ≡ Some symbol) × (new ≡ old ++ text ∷ [])
-- `NoSymbol`: the next place has no symbol
Appends symbol_of place old text (Err NoSymbol) new = (symbol_of (place old) ≡ None) × (new ≡ old)
-- `Memory`: it has one
Appends symbol_of place old text (Err (Memory _)) new = IsSome (symbol_of (place old)) × (new ≡ old)

-- Appending a text of this cost does not fail for memory within the old spare capacity, if there is a symbol. It takes
-- at most its cost of the spare capacity, and nothing on `Err`.
pub record UsesRoom {T E : Type 0} (has_symbol : Type 0) (cost old new : ℕ) (outcome : Result T E) : Type 0 where
  pub granted : has_symbol → cost ≤ old → IsOk outcome
  pub spent : OnOk outcome (old ≤ new + cost)
  pub unspent : OnErr outcome (old ≤ new)

-- The same of a backend that has these texts, buckets and spare capacity. On `Err` the buckets are unchanged.
pub record AppendsInto {S B : Type 0} (numbering : Numbering S) (texts_of : B → List Text)
    (buckets_of : B → List Bucket) (room_of : B → ℕ) (old : B) (text : Text) (outcome : Result S InternError) (new : B) : Type 0 where
  pub appends : Appends numbering.symbol_of numbering.place (texts_of old) text outcome (texts_of new)
  pub valid : IsValidList numbering.symbol_of numbering.place (texts_of new)
  pub buckets : OnErr outcome (buckets_of new ≡ buckets_of old)
  -- within the spare capacity it does not fail for memory
  pub room : UsesRoom (IsSome (numbering.symbol_of (numbering.place (texts_of old)))) (numbering.cost text) (room_of old) (room_of new) outcome

-- the texts are unchanged, with no more spare capacity than there was, and none if there are no texts
pub record Shrinks (old new : Contents) : Type 0 where
  pub texts : new.texts ≡ old.texts
  pub room : new.room ≤ old.room
  pub frees : old.texts ≡ [] → new.room ≡ 0
