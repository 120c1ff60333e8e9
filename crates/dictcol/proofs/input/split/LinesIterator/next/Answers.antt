use Rattle.std.proofs.Common.{◌≡◌, ◌+◌, Some, None, subst, ◌∙◌, rules}
use Rattle.std.specs.Str.{IsCharBoundary}
use Rattle.std.specs.List.{slice_split}
use Rattle.memchr.specs.Find.{is_byte, IsFirstByte}
use Rattle.dictcol.specs.Lines.{is_newline}
use Rattle.dictcol.proofs.Cut.{cut-first, cut-none, boundary-behind, goes-on}
use Rattle.dictcol.proofs.input.split.LinesIterator.next.Goals as goal

pub range_from-requires : goal.range_from-requires
range_from-requires c _ =
    let found : IsFirstByte (is_byte 10) c.as_bytes.result.now (Some c.in-Some.end) = search rules in
    subst (λ text. IsCharBoundary text (c.in-Some.end + 1)) c.as_bytes.ensures.value (boundary-behind _ c.in-Some.end c.as_bytes.ensures.utf8 found)

pub returns-in-Some-clause-steps : goal.returns-in-Some-clause-steps
returns-in-Some-clause-steps c =
    let text = c.in_ok-text.text.now in
    let ahead : c.self.inside.ahead ≡ Some c.in_ok-text.text = search rules in
    let found : IsFirstByte (is_byte 10) text (Some c.in-Some.end) = search rules in
    let whole : c.args.self.now ≡ slice_split is_newline text = search rules in
    let cut = whole ∙ cut-first text c.in-Some.end found in
    search rules

pub returns-in-Some-clause-goes : goal.returns-in-Some-clause-goes
returns-in-Some-clause-goes c = goes-on _ (λ _. tt) _ _ _ (returns-in-Some-clause-steps c)

pub returns-in-None-clause-steps : goal.returns-in-None-clause-steps
returns-in-None-clause-steps c =
    let text = c.in_ok-text.text.now in
    let whole : c.args.self.now ≡ slice_split is_newline text = search rules in
    let found : IsFirstByte (is_byte 10) text None = search rules in
    whole ∙ cut-none text found
