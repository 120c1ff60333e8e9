use Rattle.std.proofs.Common.{rules, ◌≡◌, ◌<◌, ◌≤◌, get_or, length, subst}
use Rattle.std.specs.Prelude.{All}
use Rattle.std.proofs.lemmas.List.{take_all}
use Rattle.dictcol.proofs.Excerpt.{within-more}
use Rattle.dictcol.proofs.plain.excerpt.Excerpt.find_outside.Goals as goal

pub loop-row-preserved : goal.loop-row-preserved
loop-row-preserved c =
    let inside : c.loop-row.row < length c.args.self.now.codes.items = search rules in
    let read : c.index.result.now ≡ get_or c.args.self.now.codes.items c.loop-row.row c.index.result.now = search rules in
    let below : c.index.result.now < c.args.self.now.total = search rules in
    within-more c.args.self.now.codes.items c.loop-row.row c.index.result.now c.args.self.now.total c.loop-row.invariant inside read below

pub returns : goal.returns
returns c =
    let all : length c.args.self.now.codes.items ≤ c.loop-row.row = search rules in
    subst (All (λ code. code < c.args.self.now.total)) (take_all c.loop-row.row c.args.self.now.codes.items all) c.loop-row.invariant
