use Rattle.std.proofs.Common.{◌≡◌, ℕ, List, [], length, sym, ap, subst, ◌∙◌, arith}
use Rattle.std.specs.Prelude.{slice_range}
use Rattle.std.specs.Str.{IsUtf8}
use Rattle.std.proofs.lemmas.List.{take_rest}
use Rattle.std.proofs.lemmas.List.Elements.{All-get_or}
use Rattle.std.proofs.lemmas.Option.{slice_get-get_or}
use Rattle.string_interner.specs.Text.{Text}
use Rattle.string_interner.specs.Backend.{BeginsAt}
use Rattle.string_interner.specs.BufferBackend.{bytes_of, place_of}
use Rattle.string_interner.proofs.Lemmas.BufferBackend.Reads.{place_within, some_there, IsEntryRead, entry_has, entry_read}
use Rattle.string_interner.proofs.backend.buffer.text_and_next.Goals as goal
use Rattle.string_interner.proofs.backend.buffer.text_and_next.Goals.{After-unwrap-spelled}

pub slice_bounds-front-count : goal.slice_bounds-front-count
slice_bounds-front-count c = place_within c.args.bytes.now c.requires.texts c.args.at c.requires.place.0 c.requires.bytes_are c.requires.place.1

pub slice_bounds-front-start : goal.slice_bounds-front-start
slice_bounds-front-start c = omega (arith, place_within c.args.bytes.now c.requires.texts c.args.at c.requires.place.0 c.requires.bytes_are c.requires.place.1)

pub unwrap-spelled-requires : goal.unwrap-spelled-requires
unwrap-spelled-requires c =
    some_there c.number_at.result _ _ c.number_at.ensures (rw take_rest (entry_has c.args.bytes.now c.requires.texts c.args.at c.requires.place.0 c.requires.bytes_are c.requires.place.1 (omega arith)))

-- `&bytes[from..]`
abbrev rest : List ℕ → ℕ → List ℕ
rest bytes from = slice_range bytes from (length bytes)

-- the entry of these texts that begins at the place was read
read : (c : After-unwrap-spelled) (texts : List Text) (i : ℕ) → c.args.bytes.now ≡ bytes_of texts → BeginsAt place_of texts c.args.at i → IsEntryRead c.args.bytes.now texts c.args.at i c.unwrap-spelled.result.len c.unwrap-spelled.result.number (rest (rest c.args.bytes.now c.args.at) c.unwrap-spelled.result.len)
read c texts i e b = entry_read c.args.bytes.now texts c.args.at i e b (omega arith) c.number_at.result c.unwrap-spelled.result _ _ (take_rest c.args.bytes.now c.args.at) c.number_at.ensures c.unwrap-spelled.ensures (take_rest _ c.unwrap-spelled.result.len)

pub slice_bounds-text-end : goal.slice_bounds-text-end
slice_bounds-text-end c =
    let r = read (goal.at.slice_bounds-text-end c).After-unwrap-spelled c.requires.texts c.requires.place.0 c.requires.bytes_are c.requires.place.1 in
    r.number_is ∙ sym (ap length r.text_is)

pub from_utf8_unchecked-requires : goal.from_utf8_unchecked-requires
from_utf8_unchecked-requires c =
    let r = read (goal.at.from_utf8_unchecked-requires c).After-unwrap-spelled c.requires.texts c.requires.place.0 c.requires.bytes_are c.requires.place.1 in
    subst IsUtf8 (sym r.text_is) (All-get_or IsUtf8 c.requires.texts c.requires.place.0 [] c.requires.place.1.within c.requires.utf8)

pub overflow_add-result-2 : goal.overflow_add-result-2
overflow_add-result-2 c =
    let r = read (goal.at.overflow_add-result-2 c).After-unwrap-spelled c.requires.texts c.requires.place.0 c.requires.bytes_are c.requires.place.1 in
    omega arith

pub returns-clause-text : goal.returns-clause-text
returns-clause-text c = λ texts i e b.
    let r = read (goal.at.returns-clause-text c).After-unwrap-spelled texts i e b in
    rw (c.from_utf8_unchecked.ensures, r.text_is) (slice_get-get_or texts i [] b.within)

pub returns-clause-next : goal.returns-clause-next
returns-clause-next c = λ texts i e b. (read (goal.at.returns-clause-next c).After-unwrap-spelled texts i e b).next
