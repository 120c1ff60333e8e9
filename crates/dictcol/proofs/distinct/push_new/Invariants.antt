use Rattle.std.proofs.Common.{List, ◌≤◌}
use Rattle.string_interner.specs.Text.{Text}
use Rattle.string_interner.specs.Extend.{texts_of}
use Rattle.dictcol.specs.Distinct.{IsCodedBy}
use Rattle.dictcol.proofs.HasMet.{HasPushed}
use Rattle.dictcol.proofs.distinct.push_new.Given as goal

-- the new ones of the lines so far were appended
abbrev pub invariant-loop-at : goal.invariant-loop-at
invariant-loop-at l = record {
  few : l.new ≤ l.at;
  pushed : (lines : List Text) → IsCodedBy lines (texts_of l.block) l.known l.codes.items → HasPushed l.fn.waiting.items l.waiting.items lines (texts_of l.block) l.at l.new;
}
