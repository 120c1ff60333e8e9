use Rattle.string_interner.proofs.Lemmas.TaggedSlots.Tags.{stops-le, unset}
use Rattle.string_interner.proofs.dedup.tagged.tags.lanes_passed.Goals as goal

pub returns-clause-at_most : goal.returns-clause-at_most
returns-clause-at_most c = stops-le c.lanes_with.result c.lanes_with-2.result c.lanes_with.type_inv c.lanes_with-2.type_inv

pub returns-clause-other : goal.returns-clause-other
returns-clause-other c k l =
    let b = unset c.lanes_with.result c.lanes_with-2.result c.lanes_with.type_inv c.lanes_with-2.type_inv k l in
    c.lanes_with.ensures k b.within b.first

pub returns-clause-filled : goal.returns-clause-filled
returns-clause-filled c k l =
    let b = unset c.lanes_with.result c.lanes_with-2.result c.lanes_with.type_inv c.lanes_with-2.type_inv k l in
    c.lanes_with-2.ensures k b.within b.second
