use Rattle.std.proofs.Common.{◌≡◌, ◌<◌, ◌≤◌, [], ◌∷◌, ◌++◌, length, ◌∙◌, rules}
use Rattle.dictcol.proofs.CountBlocks.{code-again, code-new, codes-begin, codes-end}
use Rattle.dictcol.proofs.count.count_codes.Goals as goal

pub loop-at-init : goal.loop-at-init
loop-at-init c = λ lines more by. codes-begin lines more _ _ by

pub loop-at-preserved-then-code-len : goal.loop-at-preserved-then-code-len
loop-at-preserved-then-code-len c = λ lines more by.
    let within : c.loop-at.at < length c.args.codes.now.items = search rules in
    let inside : c.at-code.result < length c.loop-at.counts.items = search rules in
    code-again lines more _ c.args.codes.now.items c.loop-at.counts.items c.loop-at.at c.at-code.result by (c.loop-at.invariant lines more by) within c.at-code.ensures c.index.result.now c.saturating_add.result inside c.index.ensures c.saturating_add.ensures

pub loop-at-preserved : goal.loop-at-preserved
loop-at-preserved c = λ lines more by.
    let within : c.loop-at.at < length c.args.codes.now.items = search rules in
    let behind : length c.loop-at.counts.items ≤ c.at-code.result = search rules in
    let put : c.push.new.self.items ≡ c.loop-at.counts.items ++ 1 ∷ [] = search rules in
    put ∙ code-new lines more _ c.args.codes.now.items c.loop-at.counts.items c.loop-at.at c.at-code.result by (c.loop-at.invariant lines more by) within c.at-code.ensures behind

pub returns : goal.returns
returns c = λ lines more by.
    codes-end lines more _ c.loop-at.counts.items c.args.codes.now.items c.loop-at.at (search rules) by (c.loop-at.invariant lines more by)
