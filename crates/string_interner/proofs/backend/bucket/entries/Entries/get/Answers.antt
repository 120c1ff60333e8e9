use Rattle.std.proofs.Common.{◌<◌, length, get_or, ap, arith, ◌∙◌}
use Rattle.std.proofs.lemmas.List.{length-map}
use Rattle.string_interner.specs.BucketEntries.{EntryList, unpack}
use Rattle.string_interner.proofs.Lemmas.BucketEntries.{long-there, long-at}
use Rattle.string_interner.proofs.backend.bucket.entries.Entries.get.Goals as goal

pub index-requires-in-Long : goal.index-requires-in-Long
index-requires-in-Long c =
    let within : c.args.index < length c.self.inside.packed.items = omega (arith, c.requires, ap (λ (e : EntryList). length e.items) c.self.view_is, length-map c.self.inside.packed.items (unpack c.self.inside.long.items)) in
    omega (arith, long-there c.self.inside.long.items c.self.inside.packed.items c.args.index c.index.result.now c.in-Long.at c.self.invariant within c.index.ensures c.in-Long.is, c.self.inside.long.ok.0)

pub returns-in-Long : goal.returns-in-Long
returns-in-Long c =
    let within : c.args.index < length c.self.inside.packed.items = omega (arith, c.requires, ap (λ (e : EntryList). length e.items) c.self.view_is, length-map c.self.inside.packed.items (unpack c.self.inside.long.items)) in
    let entry = c.index-in-Long.result.now in
    long-at c.self.inside.long.items c.self.inside.packed.items c.args.index c.index.result.now c.in-Long.at entry entry c.self.invariant within c.index.ensures c.in-Long.is c.index-in-Long.ensures
    ∙ ap (λ (e : EntryList). get_or e.items c.args.index entry) c.self.view_is
