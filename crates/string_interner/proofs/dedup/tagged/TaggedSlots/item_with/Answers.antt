use Rattle.std.proofs.Common.{◌≡◌, ◌<◌, arith, ap, length, get_or, None, Some, sym, ◌∙◌}
use Rattle.std.proofs.lemmas.List.{get_or_read}
use Rattle.string_interner.proofs.Lemmas.TaggedSlots.IsTagged.{slot_filled, within_set}
use Rattle.string_interner.proofs.dedup.tagged.TaggedSlots.item_with.Goals as goal
use Rattle.string_interner.proofs.dedup.tagged.TaggedSlots.item_with.Goals.{After-index}
use Rattle.string_interner.proofs.dedup.tagged.TaggedSlots.item_with.Given.{Over}

-- the tag that is read
is_tag : (g : Over) (c : After-index g) → c.index.result.now ≡ get_or c.self.inside.tags.items c.args.at 0
is_tag g c =
    let n = ap length c.self.view_is in let a = c.self.invariant.counted in let r = c.requires in let t = c.self.invariant.ahead (omega arith) in
    get_or_read c.self.inside.tags.items c.args.at c.index.result.now (omega arith) c.index.ensures 0

pub returns-then-index-tag-clause-filled : goal.returns-then-index-tag-clause-filled
returns-then-index-tag-clause-filled g c =
    let n = ap length c.self.view_is in let a = c.self.invariant.counted in let r = c.requires in let is = sym (is_tag g (goal.at.returns-then-index-tag-clause-filled g c).After-index) ∙ c.if-index-tag.true in
    let l : c.args.at < c.self.inside.count = within_set c.self.inside.count c.self.inside.tags.items c.self.inside.items.items _ c.self.invariant c.args.at c.args.tag (omega arith) c.requires.set is in
    let there = slot_filled c.self.inside.count c.self.inside.tags.items c.self.inside.items.items _ c.self.invariant c.args.at l (λ z. omega arith) in
    ap (λ xs. get_or xs c.args.at None) (sym c.self.view_is) ∙ there.filled ∙ ap Some (sym (c.index-then-index-tag.ensures ∙ there.is c.index-then-index-tag.result.now))

pub returns-clause-other : goal.returns-clause-other
returns-clause-other g c item e f =
    c.if-index-tag.false (is_tag g (goal.at.returns-clause-other g c).After-index ∙ c.self.invariant.tag c.args.at item (ap (λ xs. get_or xs c.args.at None) c.self.view_is ∙ e) ∙ f)
