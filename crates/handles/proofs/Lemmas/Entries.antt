-- Listing the entries of an interner from a cursor on.
use Rattle.std.proofs.Common.{◌≡◌, ℕ, ◌+◌, ◌<◌, List, [], ◌∷◌, ◌++◌, length, map, take, drop, set, get_or, sym, ap, ◌∙◌, subst, arith, lit≤, inl, inr, refl, Option, Some}
use Rattle.std.specs.Prelude.{◌^◌, ◌-◌, IsSome, slice_get, option_and_then}
use Rattle.std.proofs.lemmas.Bool.{cases_lt}
use Rattle.std.proofs.lemmas.Grind.{common_steps, drop_more_same}
use Rattle.std.proofs.lemmas.List.{append_assoc, map_push, take_more, take_more_set, drop-set-lt, length_push, take_all, length-take-le}
use Rattle.std.proofs.lemmas.List.Sums.{sum_by_push}
use Rattle.std.proofs.lemmas.Option.{get_or_from_slice_get, slice_get-get_or}
use Rattle.string_interner.specs.Text.{Text}
use Rattle.string_interner.specs.Backend.{IsValidList}
use Rattle.string_interner.specs.BufferBackend.{entry_len}
use Rattle.string_interner.specs.BufferLaws.{reads_at_place}
use Rattle.string_interner.specs.ByIndexLaws.{reads_at_length}
use Rattle.string_interner.specs.Numbering.{Numbering}
use Rattle.string_interner.specs.Interner.{InternerContents, IsInternerList}
use Rattle.string_interner.specs.Iter.{entries}
use Rattle.string_interner.specs.Symbol.{number_below, number_below-some}
use Rattle.string_interner.proofs.Lemmas.Backend.Entries.{entries-drop}
use Rattle.handles.specs.Any.{any_of, kind_of, numbering_of, text_at, texts_in}
use Rattle.handles.specs.Entries.{AreRead, IsCursor, IsEntryAt, ListsPiece, step_of, symbol_and_text}
use Rattle.handles.specs.Kind.{numbering_in, symbol_of}
use Rattle.handles.specs.declared.any.AnyInterner.{AnyInterner}
use Rattle.handles.specs.declared.kind.Kind.{Kind}
use Rattle.handles.specs.declared.kind.Kind.TheVariants.{String, Bucket, Buffer}
use Rattle.handles.specs.declared.text.Cursor.{Cursor}
use Rattle.handles.specs.declared.text.Entry.{Entry}

-- an interner of any kind, made of contents that are numbered so
module _ (numbering : Numbering ℕ) (of : InternerContents) where
  -- what is read at a symbol by an interner of a kind that numbers so
  pub read_as : (symbol number : ℕ) (found : Option Text) → symbol_of symbol ≡ Some number → found ≡ numbering.read of.texts (numbering.number number)
      → (kind : Kind) → numbering_in kind ≡ numbering → found ≡ text_at (any_of kind of) symbol
  read_as symbol number found some read String is = subst (λ (n : Numbering ℕ). found ≡ n.read of.texts (n.number number)) (sym is) read ∙ sym (ap (option_and_then ((numbering_in String).read of.texts)) some)
  read_as symbol number found some read Bucket is = subst (λ (n : Numbering ℕ). found ≡ n.read of.texts (n.number number)) (sym is) read ∙ sym (ap (option_and_then ((numbering_in Bucket).read of.texts)) some)
  read_as symbol number found some read Buffer is = subst (λ (n : Numbering ℕ). found ≡ n.read of.texts (n.number number)) (sym is) read ∙ sym (ap (option_and_then ((numbering_in Buffer).read of.texts)) some)

  -- its texts are those of an interner
  pub list_as : IsInternerList numbering of.texts → (kind : Kind) → numbering_in kind ≡ numbering → IsInternerList (numbering_of (any_of kind of)) (texts_in (any_of kind of))
  list_as list String is = subst (λ (n : Numbering ℕ). IsInternerList n of.texts) (sym is) list
  list_as list Bucket is = subst (λ (n : Numbering ℕ). IsInternerList n of.texts) (sym is) list
  list_as list Buffer is = subst (λ (n : Numbering ℕ). IsInternerList n of.texts) (sym is) list

  -- they are the contents' texts
  pub texts_as : (kind : Kind) → texts_in (any_of kind of) ≡ of.texts
  texts_as String = refl
  texts_as Bucket = refl
  texts_as Buffer = refl

  -- it has that kind
  pub kind_as : (kind : Kind) → kind_of (any_of kind of) ≡ kind
  kind_as String = refl
  kind_as Bucket = refl
  kind_as Buffer = refl

some_below : (limit n : ℕ) → IsSome (number_below limit n) → number_below limit n ≡ Some n
some_below limit n some = grind (arith, common_steps)

below_some : (limit n : ℕ) → IsSome (number_below limit n) → n < limit
below_some limit n some = grind (arith, common_steps)

module _ (kind : Kind) (texts : List Text) (valid : IsValidList symbol_of (numbering_in kind).place texts) (i : ℕ) (text : Text) (within : i < length texts) (at : slice_get texts i ≡ Some text) where
  -- its text is read at its place
  pub reads_there : option_and_then ((numbering_in kind).read texts) (symbol_of ((numbering_in kind).place (take i texts))) ≡ Some text
  reads_there = ap (option_and_then ((numbering_in kind).read texts)) (some_below (2 ^ 32 - 1) ((numbering_in kind).place (take i texts)) (valid.has_symbols i within)) ∙ of kind valid ∙ at
    where
      of : (kind : Kind) → IsValidList symbol_of (numbering_in kind).place texts → (numbering_in kind).read texts ((numbering_in kind).place (take i texts)) ≡ slice_get texts i
      of String valid = reads_at_length texts i within
      of Bucket valid = reads_at_length texts i within
      of Buffer valid = reads_at_place symbol_of texts i valid within

  -- the next place
  pub place_next : (numbering_in kind).place (take (i + 1) texts) ≡ (numbering_in kind).place (take i texts) + step_of kind (length text)
  place_next = ap (λ (ts : List Text). (numbering_in kind).place ts) (take_more texts i text within ∙ ap (λ (t : Text). take i texts ++ t ∷ []) (get_or_from_slice_get texts i text text at)) ∙ of kind (take i texts)
    where
      of : (kind : Kind) (texts : List Text) → (numbering_in kind).place (texts ++ text ∷ []) ≡ (numbering_in kind).place texts + step_of kind (length text)
      of String texts = length_push texts text
      of Bucket texts = length_push texts text
      of Buffer texts = sum_by_push entry_len texts text

-- an interner of the kind `String` reads each text at its index
pub reads_text : (of : InternerContents) → IsInternerList (numbering_in String) of.texts → (i : ℕ) (text : Text) → i < length of.texts → slice_get of.texts i ≡ Some text → text_at (any_of String of) i ≡ Some text
reads_text of list i text within at =
    subst (λ (n : ℕ). option_and_then ((numbering_in String).read of.texts) (symbol_of n) ≡ Some text) (length-take-le i of.texts (omega (arith, within))) (reads_there String of.texts list.valid i text within at)

-- and each index has 32 bits
pub index_fits : (of : InternerContents) → IsInternerList (numbering_in String) of.texts → (i : ℕ) → i < length of.texts → i < 2 ^ 32
index_fits of list i within =
    let n : length (take i of.texts) ≡ i = length-take-le i of.texts (omega (arith, within)) in
    let some : IsSome (number_below (2 ^ 32 - 1) i) = subst (λ (n : ℕ). IsSome (symbol_of n)) n (list.valid.has_symbols i within) in
    omega (arith, below_some (2 ^ 32 - 1) i some)

-- one more entry is listed
pub listed-more : (all ahead rest : List (Option ℕ × Text)) (room after : List Entry) (index : ℕ) (entry : Entry) → map symbol_and_text (take index room) ++ ahead ≡ all → ahead ≡ symbol_and_text entry ∷ rest → index < length room → after ≡ set room index entry
    → map symbol_and_text (take (index + 1) after) ++ rest ≡ all
listed-more all ahead rest room after index entry before first fits now =
    let front : take (index + 1) after ≡ take index room ++ entry ∷ [] = ap (λ (es : List Entry). take (index + 1) es) now ∙ take_more_set room index entry fits in
    ap (λ (es : List Entry). map symbol_and_text es ++ rest) front
    ∙ ap (λ (es : List (Option ℕ × Text)). es ++ rest) (map_push symbol_and_text (take index room) entry)
    ∙ append_assoc (map symbol_and_text (take index room)) (symbol_and_text entry ∷ []) rest
    ∙ ap (λ (es : List (Option ℕ × Text)). map symbol_and_text (take index room) ++ es) (sym first)
    ∙ before

-- it has the text that is read at its symbol
pub read-more : (any : AnyInterner) (place index : ℕ) (room after : List Entry) (entry : Entry) → AreRead any (take index room) → IsEntryAt any place (Some entry) → index < length room → after ≡ set room index entry → AreRead any (take (index + 1) after)
read-more any place index room after entry before is fits now =
    let read : text_at any entry.symbol ≡ Some entry.text.bytes.now = ap (λ (n : ℕ). text_at any n) is.0 ∙ is.1 in
    let front : take (index + 1) after ≡ take index room ++ entry ∷ [] = ap (λ (es : List Entry). take (index + 1) es) now ∙ take_more_set room index entry fits in
    subst (λ (es : List Entry). AreRead any es) (sym front)
    (map_push (λ (e : Entry). text_at any e.symbol) (take index room) entry ∙ (λ i. before i ++ read i ∷ []) ∙ sym (map_push (λ (e : Entry). Some e.text.bytes.now) (take index room) entry))

-- and the rest of the room stays
pub rest-more : (room before after : List Entry) (index : ℕ) (entry : Entry) → drop index room ≡ drop index before → after ≡ set room index entry → drop (index + 1) after ≡ drop (index + 1) before
rest-more room before after index entry same now = ap (λ (es : List Entry). drop (index + 1) es) now ∙ drop-set-lt (index + 1) room index entry (omega arith) ∙ drop_more_same room before index same

symbols_in : (kind : Kind) (texts : List Text) → IsValidList (numbering_in kind).symbol_of (numbering_in kind).place texts → IsValidList symbol_of (numbering_in kind).place texts
symbols_in String texts valid = valid
symbols_in Bucket texts valid = valid
symbols_in Buffer texts valid = valid

module _ (any : AnyInterner) (list : IsInternerList (numbering_of any) (texts_in any)) (at : Cursor) (here : IsCursor any at) (within : at.index < length (texts_in any)) where
  abbrev pub there : Text
  there = get_or (texts_in any) at.index []

  there_is : slice_get (texts_in any) at.index ≡ Some there
  there_is = slice_get-get_or (texts_in any) at.index [] within

  valid : IsValidList symbol_of (numbering_of any).place (texts_in any)
  valid = symbols_in (kind_of any) (texts_in any) list.valid

  -- a text is read where the cursor is
  pub some_there : text_at any at.place ≡ Some there
  some_there = ap (λ (n : ℕ). text_at any n) (sym here.place) ∙ reads_there (kind_of any) (texts_in any) valid at.index there within there_is

  next_fits : (to : ℕ) → to ≡ at.index + 1 → (numbering_of any).place (take to (texts_in any)) < 2 ^ 64
  next_fits to next = elim (cases_lt to (length (texts_in any))) [
    | inl lt ↦ let there = (numbering_of any).place (take to (texts_in any)) in (number_below-some (2 ^ 32 - 1) (lit≤ tt) there there (some_below (2 ^ 32 - 1) there (valid.has_symbols to lt))).1
    | inr all ↦ rw (take_all to (texts_in any) all) valid.fits
  ]

  -- it is listed, and the cursor moves behind it
  pub piece-more : (from to : Cursor) (count : ℕ) (room after : List Entry) (entry : Entry) → ListsPiece any from count room at → IsEntryAt any at.place (Some entry) → count < length room → after ≡ set room count entry
      → to.index ≡ at.index + 1 → (at.place + step_of (kind_of any) (length entry.text.bytes.now) < 2 ^ 64 → to.place ≡ at.place + step_of (kind_of any) (length entry.text.bytes.now)) → ListsPiece any from (count + 1) after to
  piece-more from to count room after entry piece is fits now next moves =
      let text : Text = entry.text.bytes.now in
      let text_is : slice_get (texts_in any) at.index ≡ Some text = there_is ∙ sym some_there ∙ is.1 in
      let next_is : (numbering_of any).place (take to.index (texts_in any)) ≡ at.place + step_of (kind_of any) (length text) =
      ap (λ (n : ℕ). (numbering_of any).place (take n (texts_in any))) next ∙ place_next (kind_of any) (texts_in any) valid at.index text within text_is ∙ ap (λ (n : ℕ). n + step_of (kind_of any) (length text)) here.place in
      let symbol_is : symbol_of ((numbering_of any).place (take at.index (texts_in any))) ≡ Some entry.symbol = some_below (2 ^ 32 - 1) ((numbering_of any).place (take at.index (texts_in any))) (valid.has_symbols at.index within) ∙ ap Some (here.place ∙ sym is.0) in
      record {
        cursor = record { within = omega (arith, next, within); place = next_is ∙ sym (moves (subst (λ (n : ℕ). n < 2 ^ 64) next_is (next_fits to.index next))) };
        index = omega (arith, next, piece.index);
        listed = listed-more _ _ _ room after count entry piece.listed (of (kind_of any) (texts_in any) at.index to.index entry.symbol text within next symbol_is text_is) fits now;
      }
    where
      of : (kind : Kind) (texts : List Text) (i j s : ℕ) (t : Text) → i < length texts → j ≡ i + 1 → symbol_of ((numbering_in kind).place (take i texts)) ≡ Some s → slice_get texts i ≡ Some t
          → entries (numbering_in kind) (take i texts) (drop i texts) ≡ (Some s, t) ∷ entries (numbering_in kind) (take j texts) (drop j texts)
      of String = entries-drop (numbering_in String)
      of Bucket = entries-drop (numbering_in Bucket)
      of Buffer = entries-drop (numbering_in Buffer)
