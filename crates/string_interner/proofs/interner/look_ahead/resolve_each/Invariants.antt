use Rattle.std.proofs.Common.{◌≡◌, ℕ, ◌<◌, length, Bor}
use Rattle.std.specs.Prelude.{slice_index_or, None}
use Rattle.string_interner.specs.Text.{Text}
use Rattle.string_interner.specs.Entry.{entry_text}
use Rattle.string_interner.specs.InternAll.{IsResolved}
use Rattle.string_interner.proofs.interner.look_ahead.resolve_each.Given as goal

-- the texts so far are those of the numbers so far
abbrev pub invariant-loop-at : goal.invariant-loop-at
invariant-loop-at g l = record {
  count : length l.found ≡ length l.guesses;
  found : (k : ℕ) → k < l.at → (text : Bor Text)
      → IsResolved g.B.Symbol.Symbol.symbol_of (entry_text g.B.Store.numbering (g.B.Store.texts l.backend)) (slice_index_or l.guesses k None) (slice_index_or l.found k text).now;
}
