use Rattle.std.proofs.Common.{take}
use Rattle.string_interner.specs.Extend.{texts_of}
use Rattle.string_column.specs.Column.{IsColumn}
use Rattle.dictcol.proofs.plain.find.Sought.new.Given as goal

-- the texts so far have indexes
abbrev pub invariant-loop-text : goal.invariant-loop-text
invariant-loop-text g l = IsColumn l.texts l.codes.items (texts_of (take l.text-index l.asked))
