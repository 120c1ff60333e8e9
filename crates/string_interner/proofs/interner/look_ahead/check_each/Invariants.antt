use Rattle.std.proofs.Common.{◌≡◌, ℕ, ◌<◌, ◌≤◌, length, Bor}
use Rattle.std.specs.Prelude.{slice_index_or, None}
use Rattle.string_interner.specs.Text.{Text}
use Rattle.string_interner.specs.Entry.{entry_text}
use Rattle.string_interner.specs.InternAll.{IsKnown, IsResolved}
use Rattle.string_interner.proofs.interner.look_ahead.check_each.Given as goal

-- the numbers so far are known of the texts so far, and those of the others have the texts that were found
abbrev pub invariant-loop-at : goal.invariant-loop-at
invariant-loop-at g l = record {
  count : length l.guesses ≡ length l.texts;
  found_count : length l.found ≡ length l.texts;
  found : (k : ℕ) → l.at ≤ k → k < length l.guesses → (text : Bor Text)
      → IsResolved g.B.Symbol.Symbol.symbol_of (entry_text g.B.Store.numbering (g.B.Store.texts l.backend)) (slice_index_or l.guesses k None) (slice_index_or l.found k text).now;
  known : (k : ℕ) → k < l.at → (text : Bor Text)
      → IsKnown g.B.Symbol.Symbol.symbol_of g.B.Store.numbering (g.B.Store.texts l.backend) (slice_index_or l.texts k text).now (slice_index_or l.guesses k None);
}
