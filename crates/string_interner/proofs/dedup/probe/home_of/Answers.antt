use Rattle.string_interner.proofs.Lemmas.Index.SlotCount.{masked}
use Rattle.string_interner.proofs.dedup.probe.home_of.Goals as goal

pub returns : goal.returns
returns c = masked c.args.code c.args.slots c.requires.some c.requires.count
