use Rattle.std.proofs.Common.{◌<◌, ◌^◌, map, length, take, ap, subst, ◌∙◌, min, arith, rules}
use Rattle.std.specs.List.{filter, zip}
use Rattle.std.proofs.lemmas.List.{take_all, take_min}
use Rattle.dictcol.specs.Counts.{AreOrdered, AreSorted, is_often, row_of}
use Rattle.dictcol.proofs.CountRows.{first-rows, rows-written}
use Rattle.dictcol.proofs.count.write_counted.Goals as goal
use Rattle.dictcol.proofs.count.write_counted.Goals.{in-Frequency, in-Top}

pub returns-clause-written : goal.returns-clause-written
returns-clause-written g c lines are =
    let often = is_often c.args.asked.at_least in
    let rows = filter often (zip c.args.counts.now c.args.texts.now.texts) in
    let pairs = c.sort_rows.new.rows.items in
    let top = c.match-asked.top in
    let first = map row_of (take (min top (length pairs)) pairs) in
    let sorted : AreSorted rows (map row_of pairs) = search rules in
    let few : length pairs < 2 ^ 64 = search rules in
    let ordered : AreOrdered c.args.asked.order rows first =
    elim c.match-asked.branch as (λ _. AreOrdered c.args.asked.order rows first) [
      | in-Frequency w ↦
          let all = ap (map row_of) (take_min top pairs ∙ take_all top pairs (omega (arith, few, w.top-is))) in
          rw (w.in-Frequency.is, all) sorted
      | in-Top w ↦
          rw w.in-Top.is (map row_of pairs, sorted, first-rows top pairs ∙ ap (λ n. take n (map row_of pairs)) (w.top-is ∙ w.get-top.ensures.value))
    ] in
    rows-written c.write_rows.result c.args.asked first _ _ lines (subst (λ all. AreOrdered c.args.asked.order (filter often all) first) are ordered) (search rules)
