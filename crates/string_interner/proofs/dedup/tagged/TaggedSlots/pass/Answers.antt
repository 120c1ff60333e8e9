use Rattle.std.proofs.Common.{◌+◌, ◌≤◌, arith, ap, length}
use Rattle.string_interner.proofs.Lemmas.TaggedSlots.IsTagged.{others_passed, within_unset}
use Rattle.string_interner.proofs.dedup.tagged.TaggedSlots.pass.Goals as goal
use Rattle.string_interner.proofs.dedup.tagged.TaggedSlots.pass.Goals.{After-lanes_passed}
use Rattle.string_interner.proofs.dedup.tagged.TaggedSlots.pass.Given.{Over}

within : (g : Over) (c : After-lanes_passed g) → c.args.at + c.lanes_passed.result ≤ c.self.inside.count
within g c =
    let n = ap length c.self.view_is in let a = c.self.invariant.counted in let r = c.requires in
    within_unset c.self.inside.tags.items c.args.at c.lanes_passed.result c.self.inside.count (omega arith) c.self.invariant.end (rw c.deref.ensures.value at c.lanes_passed.ensures.filled)

pub returns-clause-within : goal.returns-clause-within
returns-clause-within g c =
    let n = ap length c.self.view_is in let a = c.self.invariant.counted in let l = within g (goal.at.returns-clause-within g c).After-lanes_passed in
    omega arith

pub returns-clause-passed : goal.returns-clause-passed
returns-clause-passed g c k from l =
    let other = others_passed c.self.inside.count c.self.inside.tags.items c.self.inside.items.items _ c.self.invariant c.args.tag c.args.at c.lanes_passed.result
    (within g (goal.at.returns-clause-passed g c).After-lanes_passed) (rw c.deref.ensures.value at c.lanes_passed.ensures.other) (rw c.deref.ensures.value at c.lanes_passed.ensures.filled) k from (omega arith) in
    rw c.self.view_is at other
