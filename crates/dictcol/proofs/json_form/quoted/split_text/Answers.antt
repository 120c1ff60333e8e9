use Rattle.std.proofs.Common.{◌≡◌, ◌<◌, ◌∷◌, ◌+◌, Some, false, length, get_or, take, drop, ap, sym, ◌∙◌, arith, rules}
use Rattle.std.specs.List.{list_any}
use Rattle.std.proofs.lemmas.Str.{IsCharBoundary-after_ascii}
use Rattle.memchr.specs.Find.{is_byte2, IsFirstByte}
use Rattle.dictcol.specs.Lines.{has_newline}
use Rattle.dictcol.proofs.StringTokens.{is_control, first-rest, no-newline, split-last, split-before}
use Rattle.dictcol.proofs.json_form.quoted.split_text.Goals as goal

pub range_from-quoted-requires : goal.range_from-quoted-requires
range_from-quoted-requires c _ =
    let some : 0 < length c.args.list.now = search rules in
    let quote : get_or c.args.list.now 0 0 ≡ 34 = search rules in
    IsCharBoundary-after_ascii c.args.list.now 0 c.utf8.list some (omega (arith, quote))

pub range_from-behind-requires : goal.range_from-behind-requires
range_from-behind-requires c _ =
    let quoted = c.range_from-quoted.result.now in
    let within : c.in_ok-end.end < length c.range_from-quoted.result.now = search rules in
    let quote : get_or c.range_from-quoted.result.now c.in_ok-end.end 0 ≡ 34 = search rules in
    IsCharBoundary-after_ascii quoted c.in_ok-end.end c.range_from-quoted.utf8 within (omega (arith, quote))

pub returns-then-next-eq93-clause-token : goal.returns-then-next-eq93-clause-token
returns-then-next-eq93-clause-token c =
    let list = c.args.list.now in
    let quoted = c.range_from-quoted.result.now in
    let end = c.in_ok-end.end in
    let text = c.range-text.result.now in
    let behind = c.range_from-behind.result.now in
    let some : 0 < length c.args.list.now = search rules in
    let quote : get_or c.args.list.now 0 0 ≡ 34 = search rules in
    let quoted_is : c.range_from-quoted.result.now ≡ drop 1 c.args.list.now = search rules in
    let first : IsFirstByte (is_byte2 34 92) c.range_from-quoted.result.now (Some c.in_ok-end.end) = search rules in
    let closes : get_or c.range_from-quoted.result.now c.in_ok-end.end 0 ≡ 34 = search rules in
    let none : list_any is_control (take c.in_ok-end.end c.range_from-quoted.result.now) ≡ false = search rules in
    let text_is : c.range-text.result.now ≡ take c.in_ok-end.end c.range_from-quoted.result.now = search rules in
    let behind_is : c.range_from-behind.result.now ≡ drop (c.in_ok-end.end + 1) c.range_from-quoted.result.now = search rules in
    let more : 0 < length c.range_from-behind.result.now = search rules in
    let bracket : get_or c.range_from-behind.result.now 0 0 ≡ 93 = search rules in
    split-last list quoted text behind end (first-rest list 34 some quote ∙ ap (λ t. 34 ∷ t) (sym quoted_is)) first closes none text_is behind_is more bracket

pub returns-then-next-eq93-clause-plain : goal.returns-then-next-eq93-clause-plain
returns-then-next-eq93-clause-plain c =
    let none : list_any is_control (take c.in_ok-end.end c.range_from-quoted.result.now) ≡ false = search rules in
    let text_is : c.range-text.result.now ≡ take c.in_ok-end.end c.range_from-quoted.result.now = search rules in
    ap has_newline text_is ∙ no-newline (take c.in_ok-end.end c.range_from-quoted.result.now) none

pub returns-then-next-eq34-clause-token : goal.returns-then-next-eq34-clause-token
returns-then-next-eq34-clause-token c =
    let list = c.args.list.now in
    let quoted = c.range_from-quoted.result.now in
    let end = c.in_ok-end.end in
    let text = c.range-text.result.now in
    let behind = c.range_from-behind.result.now in
    let some : 0 < length c.args.list.now = search rules in
    let quote : get_or c.args.list.now 0 0 ≡ 34 = search rules in
    let quoted_is : c.range_from-quoted.result.now ≡ drop 1 c.args.list.now = search rules in
    let first : IsFirstByte (is_byte2 34 92) c.range_from-quoted.result.now (Some c.in_ok-end.end) = search rules in
    let closes : get_or c.range_from-quoted.result.now c.in_ok-end.end 0 ≡ 34 = search rules in
    let none : list_any is_control (take c.in_ok-end.end c.range_from-quoted.result.now) ≡ false = search rules in
    let text_is : c.range-text.result.now ≡ take c.in_ok-end.end c.range_from-quoted.result.now = search rules in
    let behind_is : c.range_from-behind.result.now ≡ drop (c.in_ok-end.end + 1) c.range_from-quoted.result.now = search rules in
    let more : 1 < length c.range_from-behind.result.now = search rules in
    let comma : get_or c.range_from-behind.result.now 0 0 ≡ 44 = search rules in
    let next : get_or c.range_from-behind.result.now 1 0 ≡ 34 = search rules in
    let rest_is : c.range_from.result.now ≡ drop 1 c.range_from-behind.result.now = search rules in
    split-before list quoted text behind end (first-rest list 34 some quote ∙ ap (λ t. 34 ∷ t) (sym quoted_is)) first closes none text_is behind_is c.range_from.result.now more comma next rest_is

pub returns-then-next-eq34-clause-plain : goal.returns-then-next-eq34-clause-plain
returns-then-next-eq34-clause-plain c =
    let none : list_any is_control (take c.in_ok-end.end c.range_from-quoted.result.now) ≡ false = search rules in
    let text_is : c.range-text.result.now ≡ take c.in_ok-end.end c.range_from-quoted.result.now = search rules in
    ap has_newline text_is ∙ no-newline (take c.in_ok-end.end c.range_from-quoted.result.now) none
