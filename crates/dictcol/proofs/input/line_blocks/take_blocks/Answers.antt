use Rattle.std.proofs.Common.{◌≡◌, ◌+◌, ◌<◌, ◌++◌, length, take, slice_set, refl, ap, ◌∙◌, arith, rules}
use Rattle.std.proofs.lemmas.Result.{err_from_is_err_and, IfErr-weaker}
use Rattle.dictcol.proofs.Waits.{block-filled, block-more, waits-begin, waits-block, waits-end, waits-on, waits-one, waits-refused, waits-refused-one}
use Rattle.dictcol.proofs.input.line_blocks.take_blocks.Goals as goal

pub loop-line-init : goal.loop-line-init
loop-line-init g c = record { waits = waits-begin g.T.Taker.has_taken _ _ _ (search rules); room = (omega arith, search rules); same = refl }

pub loop-line-preserved-then-count_entries-lt-FEWEST_FOR_BLOCKS : goal.loop-line-preserved-then-count_entries-lt-FEWEST_FOR_BLOCKS
loop-line-preserved-then-count_entries-lt-FEWEST_FOR_BLOCKS g c =
    let inv = c.loop-line.invariant in
    let empty : c.loop-line.len ≡ 0 = search rules in
    let none = ap (λ n. take n c.loop-line.block) empty in
    record {
      waits = waits-one g.T.Taker.has_taken _ _ _ _ _ _ _ _ c.in-Some.line.now none none c.in-Some.ensures.steps inv.waits c.in_ok-add.ensures.taken;
      room = inv.room;
      same = c.in_ok-add.ensures.same ∙ inv.same;
    }

pub loop-line-preserved-then-len-eq-BLOCK_LEN : goal.loop-line-preserved-then-len-eq-BLOCK_LEN
loop-line-preserved-then-len-eq-BLOCK_LEN g c =
    let inv = c.loop-line.invariant in
    let full : c.loop-line.len + 1 ≡ length c.loop-line.block = search rules in
    let block = slice_set c.loop-line.block c.loop-line.len c.in-Some.line in
    record {
      waits = waits-block g.T.Taker.has_taken _ _ _ _ block _ _ refl (waits-on g.T.Taker.has_taken _ _ _ _ block _ _ c.in-Some.line (block-filled c.loop-line.block c.loop-line.len c.in-Some.line full) c.in-Some.ensures.steps inv.waits) c.in_ok-add_block.ensures.taken;
      room = (omega arith, search rules);
      same = c.in_ok-add_block.ensures.same ∙ inv.same;
    }

pub loop-line-preserved : goal.loop-line-preserved
loop-line-preserved g c =
    let inv = c.loop-line.invariant in
    let room : c.loop-line.len < length c.loop-line.block = search rules in
    record {
      waits = waits-on g.T.Taker.has_taken _ _ _ _ _ _ _ c.in-Some.line (block-more c.loop-line.block c.loop-line.len c.in-Some.line room) c.in-Some.ensures.steps inv.waits;
      room = (search rules, search rules);
      same = inv.same;
    }

pub returns-in_err-add-clause-fault : goal.returns-in_err-add-clause-fault
returns-in_err-add-clause-fault g c lines has =
    let inv = c.loop-line.invariant in
    let empty : c.loop-line.len ≡ 0 = search rules in
    let none = ap (λ n. take n c.loop-line.block) empty in
    let p = err_from_is_err_and c.from_residual.result c.from_residual.ensures.1 in
    rw (p.1, p.2) (waits-refused-one g.T.Taker.has_taken _ _ g.T.Taker.refuses _ _ _ _ c.in-Some.line.now _ none c.in-Some.ensures.steps inv.waits lines (c.in_err-add.ensures.fault (lines ++ inv.waits.front) (inv.waits.taken lines has)))

pub returns-in_err-add_block-clause-fault : goal.returns-in_err-add_block-clause-fault
returns-in_err-add_block-clause-fault g c lines has =
    let inv = c.loop-line.invariant in
    let full : c.loop-line.len + 1 ≡ length c.loop-line.block = search rules in
    let block = slice_set c.loop-line.block c.loop-line.len c.in-Some.line in
    let before = waits-on g.T.Taker.has_taken _ _ _ _ block _ _ c.in-Some.line (block-filled c.loop-line.block c.loop-line.len c.in-Some.line full) c.in-Some.ensures.steps inv.waits in
    let p = err_from_is_err_and c.from_residual-in_err-add_block.result c.from_residual-in_err-add_block.ensures.1 in
    rw (p.1, p.2) (waits-refused g.T.Taker.has_taken _ _ g.T.Taker.refuses _ block _ _ before lines (c.in_err-add_block.ensures.fault (lines ++ before.front) (before.taken lines has)))

pub returns-clause-ok : goal.returns-clause-ok
returns-clause-ok g c = waits-end g.T.Taker.has_taken _ _ _ _ c.add_block-2.result _ _ (search rules) c.loop-line.invariant.waits c.add_block-2.ensures.taken

pub returns-clause-fault : goal.returns-clause-fault
returns-clause-fault g c lines has =
    let inv = c.loop-line.invariant in
    IfErr-weaker c.add_block-2.result _ _ (λ fault. waits-refused g.T.Taker.has_taken _ _ g.T.Taker.refuses _ _ _ fault inv.waits lines) (c.add_block-2.ensures.fault (lines ++ inv.waits.front) (inv.waits.taken lines has))
