use Rattle.std.proofs.Common.{◌∙◌, subst, ap, arith, rules}
use Rattle.std.proofs.lemmas.List.Sums.{sum_by_more_le}
use Rattle.string_interner.specs.BucketBackend.{buckets_of, interned_len, after_piece, PushesCopy}
use Rattle.string_interner.specs.declared.backend.bucket.interned_str.InternedStr.{InternedStr}
use Rattle.string_interner.proofs.Lemmas.BucketBackend.AreCopies.{AreCopies-step}
use Rattle.string_interner.proofs.Lemmas.BucketBackend.Piece.{piece-none}
use Rattle.string_interner.proofs.backend.bucket.copies.copies_of.Goals as goal

pub push_copy-requires-clause-room : goal.push_copy-requires-clause-room
push_copy-requires-clause-room c = omega (arith, c.loop-index.invariant.capacity, c.loop-index.invariant.copies.filled, c.requires.room, sum_by_more_le interned_len c.args.entries.now.items c.loop-index.index c.get-interned.result (omega (arith, c.loop-index-test.true, c.len-index-end.ensures)), ap interned_len c.get-interned.ensures)

pub loop-index-init : goal.loop-index-init
loop-index-init c =
    let none = piece-none c.args.full.now c.args.head.now c.in_ok-bucket.bucket c.in_ok-copies.copies.items c.bucket_text.result.now c.bucket_text.utf8 (search rules) (search rules) (search rules) in
    record { capacity = search rules; piece = none.0; copies = none.1 }

pub loop-index-preserved : goal.loop-index-preserved
loop-index-preserved c =
    let buckets = buckets_of c.args.full.now c.args.head.now in
    let old = after_piece buckets c.loop-index.piece c.loop-index.bucket in
    let new = after_piece buckets c.push_copy.new.piece c.push_copy.new.bucket in
    let pushed = subst (λ (e : InternedStr). PushesCopy buckets e old new c.loop-index.copies.items c.push_copy.new.copies.items) c.get-interned.ensures c.in_ok-push_copy.ensures.pushes in
    let made = AreCopies-step buckets c.args.entries.now.items c.loop-index.copies.items c.push_copy.new.copies.items old new c.loop-index.index c.get-interned.result (omega (arith, c.loop-index-test.true, c.len-index-end.ensures)) c.requires.entries c.requires.utf8 c.loop-index.invariant.copies pushed in
    record {
      capacity = made.0 ∙ c.loop-index.invariant.capacity;
      piece = c.in_ok-push_copy.ensures.piece;
      copies = made.1;
    }
