-- What a step writes.
-- Cited by `block_writer`, `count`, `decode`, `encode`, `file`, `format`, `merge` and `npy`.
use Rattle.std.specs.Prelude.{ℕ, List, Option}
use Rattle.std.specs.Io.KnownBytes.{Appends, append_known}
use Rattle.string_interner.specs.Text.{Text}

-- the known bytes of the output grow by a text of which this is true
abbrev pub Writes : (Text → Type 0) → Option (List ℕ) → Option (List ℕ) → Type 0
Writes Is old new = (text : Text) × Is text × Appends old new text

-- the known bytes of the output, and behind them those that are held for it, grow by some bytes
abbrev pub Puts : Option (List ℕ) → Text → Option (List ℕ) → Text → Text → Type 0
Puts old old_held new new_held bytes = Appends (append_known old old_held) (append_known new new_held) bytes
