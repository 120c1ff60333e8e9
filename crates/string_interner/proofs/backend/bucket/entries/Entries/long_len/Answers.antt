use Rattle.std.proofs.Common.{length, ap, arith}
use Rattle.std.proofs.lemmas.List.{length-map}
use Rattle.string_interner.specs.BucketEntries.{EntryList, unpack}
use Rattle.string_interner.proofs.Lemmas.BucketEntries.{count-within}
use Rattle.string_interner.proofs.backend.bucket.entries.Entries.long_len.Goals as goal

pub returns : goal.returns
returns c = omega (arith, c.len.ensures, c.self.inside.long.ok.0, c.self.invariant.count, count-within c.self.inside.packed.items, length-map c.self.inside.packed.items (unpack c.self.inside.long.items), ap (λ (e : EntryList). length e.items) c.self.view_is)
