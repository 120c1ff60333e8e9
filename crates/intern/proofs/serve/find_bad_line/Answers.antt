use Rattle.std.proofs.Common.{ℕ, List, Option, Some, None, MatchOption, All, ◌<◌, length, rules}
use Rattle.std.proofs.lemmas.Iterator.{IsFirst-from_position}
use Rattle.std.proofs.lemmas.Iterator.Consumers.{YieldsList-from_first}
use Rattle.std.proofs.lemmas.List.Elements.{All-from_all_within}
use Rattle.std.specs.List.{AllWithin, HoldsAt}
use borrow.Author.Tests.{tests}
use Rattle.intern.specs.Lines.{IsBad, IsFirstBad, IsStated, lines_of}
use Rattle.intern.proofs.serve.find_bad_line.Goals as goal

found : (lines : List (List ℕ)) (r : Option ℕ)
    → MatchOption r (AllWithin IsStated lines 0 (length lines)) (λ i. (i < length lines) × HoldsAt IsBad lines i × AllWithin IsStated lines 0 i)
    → MatchOption r (All IsStated lines) (IsFirstBad lines)
found lines None h = All-from_all_within IsStated lines h
found lines (Some i) h = h

pub returns-clause-first : goal.returns-clause-first
returns-clause-first c =
    let given = YieldsList-from_first (λ line. line.now) (λ lines. lines) (lines_of c.args.text.now) c.new.ensures.lines in
    found (lines_of c.args.text.now) c.position.result
    (IsFirst-from_position c.position.new.self _ c.position.result IsBad IsStated c.position.ensures.ran given (λ x q k. search (rules, tests)) (λ x q k. search (rules, tests)))
