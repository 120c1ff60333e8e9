use Rattle.std.proofs.Common.{◌≡◌, ◌++◌, ◌-◌, ◌<◌, ◌∷◌, length, take, drop, sym, ap, ◌∙◌, arith, rules}
use Rattle.std.proofs.lemmas.List.{take_all, length-drop}
use Rattle.dictcol.specs.Lines.{utf8_lines, whole_lines}
use Rattle.dictcol.proofs.WholeLines.{first-ended, first-last, line-kept, line-skipped, told-good, told-bad}
use Rattle.dictcol.proofs.input.mend.keep_good_lines.Goals as goal
use Rattle.dictcol.proofs.input.mend.keep_good_lines.Goals.{in-Some, in-None, then-is_ok+in_ok-extend_from_slice, else-is_ok}

pub loop-rest-preserved : goal.loop-rest-preserved
loop-rest-preserved c =
    let rest = c.loop-rest.rest.now in
    let end = c.match-memchr.end in
    let some : 0 < length rest = search rules in
    let first : whole_lines rest ≡ take end rest ∷ whole_lines (drop end rest) = elim c.match-memchr.branch [
      | in-Some w ↦ first-ended rest w.in-Some.at end w.in-Some.ensures.0 w.in-Some.ensures.1 w.end-is
      | in-None w ↦ first-last rest end w.in-None.ensures some w.end-is
    ] in
    let behind : take (length rest - end) (drop end rest) ≡ drop end rest = take_all (length rest - end) (drop end rest) (omega (arith, length-drop end rest)) in
    elim c.if-is_ok.branch [
      | then-is_ok+in_ok-extend_from_slice w ↦ record {
        so_far = ap (λ it. c.if-is_ok.kept.items ++ utf8_lines it) behind
            ∙ line-kept c.loop-rest.kept.items c.if-is_ok.kept.items rest (take end rest) (drop end rest) _ c.loop-rest.invariant.so_far first
            (told-good _ (take end rest) c.from_utf8.result c.from_utf8.ensures (sym c.is_ok.ensures.value ∙ w.if-is_ok.true))
            (ap (λ it. it.items) w.kept-is ∙ w.in_ok-extend_from_slice.ensures.items);
        within = omega (arith, ap length behind, length-drop end rest, c.loop-rest.invariant.within);
      }
      | else-is_ok w ↦ record {
        so_far = ap (λ it. c.if-is_ok.kept.items ++ utf8_lines it) behind
            ∙ line-skipped c.loop-rest.kept.items c.if-is_ok.kept.items rest (take end rest) (drop end rest) _ c.loop-rest.invariant.so_far first
            (told-bad _ (take end rest) c.from_utf8.result c.from_utf8.ensures (sym c.is_ok.ensures.value ∙ w.if-is_ok.false))
            (ap (λ it. it.items) w.kept-is);
        within = omega (arith, ap length behind, length-drop end rest, c.loop-rest.invariant.within);
      }
    ]
