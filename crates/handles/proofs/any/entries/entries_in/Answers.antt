use Rattle.std.proofs.Common.{◌∙◌, ◌<◌, refl, sym, arith, length}
use Rattle.std.proofs.lemmas.List.{length-set}
use Rattle.std.proofs.lemmas.Option.{none-some}
use Rattle.handles.specs.Any.{any_of, texts_in}
use Rattle.handles.proofs.Lemmas.Entries.{kind_as, list_as, texts_as, piece-more, read-more, rest-more, some_there}
use Rattle.handles.proofs.any.entries.entries_in.Goals as goal

pub loop-index-init : goal.loop-index-init
loop-index-init g c = record { room = refl; rest = refl; cursor = omega arith; read = refl; piece = λ here. record { cursor = here; index = omega arith; listed = refl } }

pub loop-index-preserved : goal.loop-index-preserved
loop-index-preserved g c =
    let so_far = c.loop-index.invariant in
    let any = any_of c.args.kind c.args.interner.now in
    let list = list_as g.B.Store.numbering c.args.interner.now c.len.ensures.holds.texts c.args.kind c.requires in
    let texts = texts_as g.B.Store.numbering c.args.interner.now c.args.kind in
    let within : c.loop-index.cursor.index < length (texts_in any) = rw texts (omega (arith, so_far.cursor, c.loop-index-test.true, c.len.ensures.value, c.saturating_sub.ensures, c.min-many.ensures)) in
    let fits : c.loop-index.index < length c.loop-index.room = omega (arith, so_far.room, c.loop-index-test.true, c.min-many.ensures) in
    record {
      room = rw (length-set c.loop-index.room c.loop-index.index c.in-Some.entry) so_far.room;
      rest = rest-more c.loop-index.room c.args.room.now _ c.loop-index.index c.in-Some.entry so_far.rest refl;
      cursor = omega (arith, so_far.cursor);
      read = read-more any c.loop-index.cursor.place c.loop-index.index c.loop-index.room _ c.in-Some.entry so_far.read c.in-Some.ensures fits refl;
      piece = λ here. piece-more any list c.loop-index.cursor (so_far.piece here).cursor within c.args.cursor.now _ c.loop-index.index c.loop-index.room _ c.in-Some.entry (so_far.piece here) c.in-Some.ensures fits refl refl
          (rw (kind_as g.B.Store.numbering c.args.interner.now c.args.kind) c.place_after-cursor.ensures);
    }

pub returns-in-None : goal.returns-in-None
returns-in-None g c =
    let so_far = c.loop-index.invariant in
    let any = any_of c.args.kind c.args.interner.now in
    let list = list_as g.B.Store.numbering c.args.interner.now c.len.ensures.holds.texts c.args.kind c.requires in
    let texts = texts_as g.B.Store.numbering c.args.interner.now c.args.kind in
    let within : c.loop-index.cursor.index < length (texts_in any) = rw texts (omega (arith, so_far.cursor, c.loop-index-test.true, c.len.ensures.value, c.saturating_sub.ensures, c.min-many.ensures)) in
    record {
      fits = omega (arith, c.loop-index-test.true, c.min-many.ensures);
      same_length = so_far.room;
      rest = so_far.rest;
      read = so_far.read;
      piece = so_far.piece;
      many = λ here. absurd (none-some _ (sym c.in-None.ensures ∙ some_there any list c.loop-index.cursor (so_far.piece here).cursor within));
    }
