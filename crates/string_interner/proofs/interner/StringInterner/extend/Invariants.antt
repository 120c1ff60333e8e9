use Rattle.std.proofs.Common.{length}
use Rattle.string_interner.specs.SlotRule.{IsLoaded, GrowsFor}
use Rattle.string_interner.specs.Extend.{texts_of, TakesIn}
use Rattle.string_interner.proofs.interner.StringInterner.extend.Given as goal

-- the items so far went in, the slots grew for the texts, and they are loaded as those of every interner
abbrev pub invariant-loop-text : goal.invariant-loop-text
invariant-loop-text g l = record {
  taken : TakesIn g.B.Store.numbering l.fn.self (texts_of l.yielded) l.self;
  grown : GrowsFor g.I.TextIndex.rule (length l.self.texts) l.fn.self.slot_count l.self.slot_count;
  loaded : IsLoaded g.I.TextIndex.rule l.self.slot_count (length l.self.texts);
}
