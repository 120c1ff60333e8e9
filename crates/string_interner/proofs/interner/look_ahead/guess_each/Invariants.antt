use Rattle.std.proofs.Common.{◌≡◌, ℕ, ◌<◌, length}
use Rattle.std.specs.Prelude.{slice_index_or, None}
use Rattle.string_interner.specs.Entry.{entry_text}
use Rattle.string_interner.specs.InternAll.{IsGuess}
use Rattle.string_interner.proofs.interner.look_ahead.guess_each.Given as goal

-- the numbers so far are guesses
abbrev pub invariant-loop-at : goal.invariant-loop-at
invariant-loop-at g l = record {
  count : length l.guesses ≡ length l.codes;
  guesses : (k : ℕ) → k < l.at
      → IsGuess g.B.Symbol.Symbol.symbol_of (entry_text g.B.Store.numbering (g.B.Store.texts l.backend)) (slice_index_or l.guesses k None);
}
