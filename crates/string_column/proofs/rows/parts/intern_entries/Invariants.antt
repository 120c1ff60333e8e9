use Rattle.std.proofs.Common.{◌≡◌, take}
use Rattle.string_interner.specs.Text.{IsDistinct}
use Rattle.string_interner.specs.Extend.{texts_of}
use Rattle.string_column.proofs.rows.parts.intern_entries.Given as goal

-- the texts so far are the entries, and are distinct
abbrev pub invariant-loop-index : goal.invariant-loop-index
invariant-loop-index g l = record {
  so_far : l.entries ≡ take l.index (texts_of l.texts);
  distinct : IsDistinct (take l.index (texts_of l.texts));
}
