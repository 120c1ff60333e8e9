use Rattle.std.specs.List.{filter, zip}
use Rattle.dictcol.specs.Counts.{is_often}
use Rattle.dictcol.proofs.CountRows.{WritesTexts}
use Rattle.dictcol.proofs.count.write_texts.Given as goal

-- the rows so far were written
abbrev pub invariant-loop-text : goal.invariant-loop-text
invariant-loop-text g l =
    let test = is_often l.at_least in
    WritesTexts test (g.W.Write.contents l.initial.output) (g.W.Write.contents l.output) l.counts (filter test (zip l.counts l.texts.texts)) l.at l.text-iterator.ahead
