use Rattle.std.proofs.Common.{◌≡◌, ℕ, ◌<◌, length, Bor}
use Rattle.std.specs.Prelude.{slice_index_or}
use Rattle.string_interner.specs.Text.{Text}
use Rattle.string_interner.proofs.interner.look_ahead.hash_each.Given as goal

-- the codes so far are those of the texts so far
abbrev pub invariant-loop-at : goal.invariant-loop-at
invariant-loop-at g l = record {
  count : length l.codes ≡ length l.texts;
  codes : (k : ℕ) → k < l.at → (text : Bor Text) → slice_index_or l.codes k 0 ≡ g.H.TextHasher.code l.hasher (slice_index_or l.texts k text).now;
}
