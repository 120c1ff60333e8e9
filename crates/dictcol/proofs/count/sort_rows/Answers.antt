use Rattle.std.proofs.Common.{rules}
use Rattle.std.specs.Cmp.{IsStrictWeakOrder}
use Rattle.std.proofs.lemmas.List.Sorted.{answers_always, IsStrictWeakOrder-by_number, IsStrictWeakOrder-flip}
use Rattle.dictcol.proofs.CountRows.{is_more_of, sorted-rows, is_more-compared}
use Rattle.dictcol.proofs.count.sort_rows.Goals as goal

pub returns-in-Ok-clause-sorted : goal.returns-in-Ok-clause-sorted
returns-in-Ok-clause-sorted c =
    let order : IsStrictWeakOrder is_more_of = IsStrictWeakOrder-flip _ (IsStrictWeakOrder-by_number (λ pair. pair.0)) in
    sorted-rows c.args.rows.now.items c.sort_by.new.self.items c.sort_by.ensures.permutation
    (c.in-Ok.ensures.sorted is_more_of order (answers_always _ _ _ (λ f a r f' called. is_more-compared a.0.now a.1.0.now r (search rules))))
    (c.sort_by.ensures.stable is_more_of order (answers_always _ _ _ (λ f a r f' called. is_more-compared a.0.now a.1.0.now r (search rules))))
