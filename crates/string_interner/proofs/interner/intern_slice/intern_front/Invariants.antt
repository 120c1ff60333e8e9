use Rattle.std.proofs.Common.{length}
use Rattle.string_interner.specs.SlotRule.{IsLoaded}
use Rattle.string_interner.specs.Interner.{IsSoundInterner, contents_of}
use Rattle.string_interner.specs.InternAll.{InternsFront, LooksAhead}
use Rattle.string_interner.proofs.interner.intern_slice.intern_front.Given as goal

-- the texts so far went in and gave their numbers, the parts are those of an interner, the slots are loaded as its are, and what
-- was found ahead is known
abbrev pub invariant-loop-at : goal.invariant-loop-at
invariant-loop-at g l = record {
  front : InternsFront g.B.Store.numbering g.I.TextIndex.rule
      (contents_of (g.B.Store.texts l.fn.backend) (g.B.Store.buckets l.fn.backend) (g.B.Store.room l.fn.backend) (g.I.TextIndex.slots l.fn.index)) l.fn.numbers l.texts l.at
      (contents_of (g.B.Store.texts l.backend) (g.B.Store.buckets l.backend) (g.B.Store.room l.backend) (g.I.TextIndex.slots l.index)) l.numbers;
  sound : IsSoundInterner g.B.Store.numbering (λ entry. g.I.TextIndex.indexes l.index entry (g.H.TextHasher.code l.hasher)) (g.I.TextIndex.entries l.index) (g.B.Store.texts l.backend);
  loaded : IsLoaded g.I.TextIndex.rule (g.I.TextIndex.slots l.index) (length (g.B.Store.texts l.backend));
  ahead : LooksAhead (g.H.TextHasher.code l.hasher) g.B.Symbol.Symbol.symbol_of g.B.Store.numbering (g.B.Store.texts l.backend) l.texts l.at l.ahead;
}
