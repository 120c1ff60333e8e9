use Rattle.std.proofs.Common.{◌≡◌, ◌≢◌, ◌+◌, ◌∷◌, [], Some, None, sym, subst, ◌∙◌, rules}
use Rattle.std.specs.Str.{IsCharBoundary}
use Rattle.memchr.specs.Find.{is_byte, IsFirstByte}
use Rattle.intern.specs.Lines.{lines_of}
use Rattle.intern.proofs.Cut.{cut-first, cut-none, boundary-behind, goes-on}
use Rattle.intern.proofs.split.LinesIterator.next.Goals as goal

pub range_from-self-inside-requires : goal.range_from-self-inside-requires
range_from-self-inside-requires c _ =
    let found : IsFirstByte (is_byte 10) c.as_bytes.result.now (Some c.in-Some.end) = search rules in
    subst (λ text. IsCharBoundary text (c.in-Some.end + 1)) c.as_bytes.ensures.value (boundary-behind _ c.in-Some.end c.as_bytes.ensures.utf8 found)

pub returns-in-Some-clause-steps : goal.returns-in-Some-clause-steps
returns-in-Some-clause-steps c =
    let text = c.self.inside.ahead.now in
    let found : IsFirstByte (is_byte 10) text (Some c.in-Some.end) = search rules in
    let cut = sym c.self.view_is ∙ cut-first text c.in-Some.end found in
    search rules

pub returns-in-Some-clause-goes : goal.returns-in-Some-clause-goes
returns-in-Some-clause-goes c =
    let text = c.self.inside.ahead.now in
    let found : IsFirstByte (is_byte 10) text (Some c.in-Some.end) = search rules in
    let cut = sym c.self.view_is ∙ cut-first text c.in-Some.end found in
    let step : c.args.self.now ≡ c.range.result.now ∷ lines_of c.range_from-self-inside.result.now = search rules in
    goes-on _ (λ _. tt) _ _ _ step

pub returns-in-None-clause-steps : goal.returns-in-None-clause-steps
returns-in-None-clause-steps c =
    let text = c.self.inside.ahead.now in
    let found : IsFirstByte (is_byte 10) text None = search rules in
    let some : text ≢ [] = λ e. search rules in
    sym c.self.view_is ∙ cut-none text some found
