use Rattle.std.proofs.Common.{◌≡◌, ◌<◌, List, ◌++◌, length, take, Bor}
use Rattle.string_interner.specs.Text.{Text}
use Rattle.string_interner.specs.Extend.{texts_of}
use Rattle.string_column.proofs.rows.Column.encode.Given as goal

-- there is a row for each text so far, but for those that wait in the front of the block, which is not full
abbrev pub invariant-loop-text : goal.invariant-loop-text
invariant-loop-text g l = (done : List (Bor Text)) × (l.yielded ≡ done ++ take l.len l.block) × (l.self ≡ l.fn.self ++ texts_of done)
    × (l.len < 256) × (length l.block ≡ 256)
