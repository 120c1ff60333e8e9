use Rattle.std.proofs.Common.{arith, ◌<◌, length}
use Rattle.handles.proofs.Lemmas.InternMany.{parts-length, part-at}
use Rattle.handles.proofs.any.intern_many.PartsTexts.text_at.Goals as goal

pub bounds_of-from-requires : goal.bounds_of-from-requires
bounds_of-from-requires c = let count = parts-length c.args.self.now.bytes.now 0 c.args.self.now.ends.now in omega (arith, c.requires, count)

pub returns : goal.returns
returns c =
    let count = parts-length c.args.self.now.bytes.now 0 c.args.self.now.ends.now in
    let within : c.args.index < length c.args.self.now.ends.now = omega (arith, c.requires, count) in
    part-at c.args.self.now.bytes.now c.args.self.now.ends.now c.args.index c.bounds_of-from.result _ within c.bounds_of-from.ensures c.text_between.ensures
