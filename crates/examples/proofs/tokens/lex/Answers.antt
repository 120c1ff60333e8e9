use Rattle.std.proofs.Common.{lit<}
use Rattle.std.proofs.lemmas.Iterator.{items_from_drains}
use Rattle.std.proofs.lemmas.Iterator.Splits.{YieldsList-from_str_split}
use Rattle.examples.proofs.tokens.lex.Goals as goal

pub returns-clause-tokens : goal.returns-clause-tokens
returns-clause-tokens g c =
    let h = c.in_ok-intern_all.ensures in
    let then = rw h.3.0.1 at h.3.0.3 in
    let split = YieldsList-from_str_split {s = c.split.result} 32 c.args.source.now (lit< tt) c.split.ensures.text c.split.ensures.has_more c.split.ensures.pattern in
    let words = items_from_drains h.0 (then.0, then.1, λ _. (h.3.0.2, then.2)) split in
    rw (h.3.1, h.2.appended, c.new-tokens.ensures.items, ← words) h.2.stand
