use Rattle.std.proofs.Common.{◌<◌, arith, ap, length, get_or, None, Some, sym, ◌∙◌}
use Rattle.std.proofs.lemmas.List.{get_or_read}
use Rattle.string_interner.proofs.Lemmas.TaggedSlots.IsTagged.{slot_empty, slot_filled}
use Rattle.string_interner.proofs.dedup.tagged.TaggedSlots.item_at.Goals as goal

pub returns-then-index-eq0 : goal.returns-then-index-eq0
returns-then-index-eq0 g c =
    let same = c.self.view_is in let n = ap length same in let a = c.self.invariant.counted in let r = c.requires in
    let l : c.args.at < c.self.inside.count = omega arith in let t = c.self.invariant.ahead (omega arith) in
    sym (ap (λ xs. get_or xs c.args.at None) (sym same) ∙ slot_empty c.self.inside.count c.self.inside.tags.items c.self.inside.items.items _ c.self.invariant c.args.at l
    (sym (get_or_read c.self.inside.tags.items c.args.at c.index.result.now (omega arith) c.index.ensures 0) ∙ c.if-index-eq0.true))

pub returns : goal.returns
returns g c =
    let same = c.self.view_is in let n = ap length same in let a = c.self.invariant.counted in let r = c.requires in
    let l : c.args.at < c.self.inside.count = omega arith in let t = c.self.invariant.ahead (omega arith) in
    let there = slot_filled c.self.inside.count c.self.inside.tags.items c.self.inside.items.items _ c.self.invariant c.args.at l
    (λ z. c.if-index-eq0.false (get_or_read c.self.inside.tags.items c.args.at c.index.result.now (omega arith) c.index.ensures 0 ∙ z)) in
    sym (ap (λ xs. get_or xs c.args.at None) (sym same) ∙ there.filled ∙ ap Some (sym (c.index-2.ensures ∙ there.is c.index-2.result.now)))
