use Rattle.std.proofs.Common.{◌≡◌, List, ◌++◌, ◌+◌, vec_capacity, ◌≤◌, ◌<◌, length, take, Bor}
use Rattle.std.specs.Prelude.{◌≢◌}
use Rattle.string_interner.specs.Text.{Text}
use Rattle.string_interner.specs.Extend.{texts_of}
use Rattle.string_interner.specs.InternAll.{AppendsSymbols}
use Rattle.string_interner.proofs.interner.StringInterner.intern_all.Given as goal

-- The items so far went in and gave their symbols, but for those that wait in the front of the block, which is not full. The
-- list of symbols holds no less than it did, and has room for one more than these.
abbrev pub invariant-loop-text : goal.invariant-loop-text
invariant-loop-text g l = (done : List (Bor Text)) × (l.yielded ≡ done ++ take l.len l.block)
    × AppendsSymbols g.B.Store.numbering g.I.TextIndex.rule l.fn.self l.fn.symbols.items (texts_of done) l.self l.symbols.items
    × (vec_capacity l.fn.symbols ≤ vec_capacity l.symbols) × (l.len < 32) × (length l.block ≡ 32)
    × (l.len ≢ 0 → length l.symbols.items + l.len < vec_capacity l.symbols)
