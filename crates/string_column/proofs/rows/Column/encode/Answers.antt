use Rattle.std.proofs.Common.{◌≡◌, ℕ, List, refl, rules, arith, sym, ap, subst, ◌∙◌, ◌++◌, [], ◌∷◌, Ok, None, slice_set, take}
use Rattle.std.proofs.lemmas.List.{append-nil}
use Rattle.string_interner.specs.Extend.{YieldedBy}
use Rattle.string_interner.proofs.Lemmas.Interner.InternsEach.{filled}
use Rattle.string_interner.proofs.Lemmas.Interner.Extends.{yields-more, yielded-front, drained-by}
use Rattle.string_column.proofs.Lemmas.Blocks.{rows-more, rows-last, rows-stopped}
use Rattle.string_column.proofs.rows.Column.encode.Goals as goal

pub loop-text-init : goal.loop-text-init
loop-text-init g c = ([], refl, sym (append-nil c.args.self.now), omega arith, refl)

-- where the block is empty, all items so far have rows
all-in : {X : Type 0} (items done block : List X) (len : ℕ) → items ≡ done ++ take len block → len ≡ 0 → items ≡ done
all-in items done block len is empty = is ∙ ap (λ n. done ++ take n block) empty ∙ append-nil done

pub loop-text-preserved-then-distinct-lt-FEWEST_FOR_BLOCKS : goal.loop-text-preserved-then-distinct-lt-FEWEST_FOR_BLOCKS
loop-text-preserved-then-distinct-lt-FEWEST_FOR_BLOCKS g c =
    let inv = c.loop-text.invariant in let block = c.in-Some.text ∷ [] in let empty : c.loop-text.len ≡ 0 = search rules in (
      inv.0 ++ block,
      ap (λ xs. xs ++ block) (all-in c.loop-text.yielded inv.0 c.loop-text.block c.loop-text.len inv.1 empty) ∙ sym (all-in _ (inv.0 ++ block) c.loop-text.block c.loop-text.len refl empty),
      rows-more g.B.Store.numbering c.args.self.now c.loop-text.self c.push.new.self inv.0 block (Ok tt) refl inv.2 (block, c.in_ok-push.ensures.1, refl),
      inv.3,
      inv.4,
    )

pub returns-in_err-push_block : goal.returns-in_err-push_block
returns-in_err-push_block g c =
    let inv = c.loop-text.invariant in let block = slice_set c.loop-text.block c.loop-text.len c.in-Some.text in
    rows-stopped g.B.Store.numbering (YieldedBy g.T.IntoIterator g.T.IntoIter.Iterator c.args.texts) c.args.self.now c.loop-text.self c.push_block.new.self inv.0 block c.in_err-push_block.field-0.0 c.from_residual-in_err-push_block.result (search rules)
    (yielded-front g.T.IntoIterator.into_iter_gives g.T.IntoIter.Iterator.next_gives c.args.texts c.into_iter-text-iterator.result c.next.new.self inv.0 block (c.loop-text.yielded ++ c.in-Some.text ∷ []) c.into_iter-text-iterator.ensures.into_iter_gives
    (filled c.loop-text.yielded inv.0 c.loop-text.block c.loop-text.len c.in-Some.text inv.1 (search rules))
    (yields-more g.T.IntoIter.Iterator.next_gives c.loop-text.yielded c.in-Some.text c.into_iter-text-iterator.result _ c.next.new.self c.loop-text.yielded_by c.in-Some.ensures.steps))
    inv.2 c.in_err-push_block.ensures

pub loop-text-preserved-then-len-eq-BLOCK_LEN : goal.loop-text-preserved-then-len-eq-BLOCK_LEN
loop-text-preserved-then-len-eq-BLOCK_LEN g c =
    let inv = c.loop-text.invariant in let block = slice_set c.loop-text.block c.loop-text.len c.in-Some.text in (
      inv.0 ++ block,
      filled c.loop-text.yielded inv.0 c.loop-text.block c.loop-text.len c.in-Some.text inv.1 (search rules) ∙ sym (append-nil (inv.0 ++ block)),
      rows-more g.B.Store.numbering c.args.self.now c.loop-text.self c.push_block.new.self inv.0 block (Ok tt) refl inv.2 c.in_ok-push_block.ensures,
      omega arith,
      search rules,
    )

pub returns : goal.returns
returns g c =
    let inv = c.loop-text.invariant in let block = take c.loop-text.len c.loop-text.block in
    let by = YieldedBy g.T.IntoIterator g.T.IntoIter.Iterator c.args.texts in
    rows-last g.B.Store.numbering by c.args.self.now c.loop-text.self _ inv.0 block c.push_block-2.result
    (λ ok. subst (λ xs. by xs None) inv.1 (drained-by g.T.IntoIterator.into_iter_gives g.T.IntoIter.Iterator.next_gives c.args.texts c.into_iter-text-iterator.result c.loop-text.yielded c.into_iter-text-iterator.ensures.into_iter_gives (search rules)))
    (yielded-front g.T.IntoIterator.into_iter_gives g.T.IntoIter.Iterator.next_gives c.args.texts c.into_iter-text-iterator.result _ inv.0 block c.loop-text.yielded c.into_iter-text-iterator.ensures.into_iter_gives inv.1 c.loop-text.yielded_by)
    inv.2 c.push_block-2.ensures
