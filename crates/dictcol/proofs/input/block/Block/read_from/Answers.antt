use Rattle.std.proofs.Common.{◌+◌, ◌-◌, ◌≤◌, ◌++◌, length, take, sym, ap, ◌∙◌, arith}
use Rattle.std.proofs.lemmas.List.{with_items_is}
use borrow.Rule.Slice.PartMut.{put_mid, post_of}
use Rattle.dictcol.proofs.Taken.{held-more, length-put}
use Rattle.dictcol.proofs.input.block.Block.read_from.Goals as goal

pub returns-clause-ok : goal.returns-clause-ok
returns-clause-ok g c =
    let w = c.args.self.now in
    let all = c.deref_mut.result.now in
    let count = c.in_ok-count.count in
    let part = c.read.new.buf in
    let few = c.in_ok-count.ensures.bound in
    let within : w.end ≤ length all = omega (arith, w.within, ap length c.deref_mut.ensures.value) in
    let behind = post_of w.end (length all - w.end) all in
    let put = with_items_is w.bytes (put_mid w.end (length all - w.end) all part) (length-put all part w.end within c.read.auto.buf ∙ ap length c.deref_mut.ensures.value ∙ sym w.bytes.ok.0) in (
      take count part,
      sym few.1,
      ap (take (w.end + count)) put ∙ held-more all part behind w.end count within few.0 ∙ ap (λ xs. take w.end xs ++ take count part) c.deref_mut.ensures.value,
      c.in_ok-count.ensures.bytes.0,
    )
