-- Lines in shards: what the output of each shard gets, and what says how they were mixed.
-- Cited by `folder` and `shards`.
use Rattle.std.specs.Prelude.{◌≡◌, ◌%◌, ℕ, ◌==◌, ◌<◌, ◌≤◌, List, [], length, map, decimal, slice_index_or, Option, Some, None, IsSome}
use Rattle.std.specs.Io.KnownBytes.{append_known}
use Rattle.std.specs.List.{filter}
use Rattle.string_interner.specs.Text.{Text}
use Rattle.dictcol.specs.Lines.{ended_text}
use Rattle.dictcol.specs.declared.shards.Shard.{Shard}
use Rattle.dictcol.specs.declared.shards.Shards.{Shards}

-- the shard of a text with this hash code, out of so many
abbrev pub shard_of : (Text → ℕ) → ℕ → Text → ℕ
shard_of code count text = code text % count

-- the lines of a shard, out of so many, in their order
abbrev pub shard_lines : (Text → ℕ) → ℕ → ℕ → List Text → List Text
shard_lines code count shard lines = filter (λ line. shard_of code count line == shard) lines

-- the number of each line's shard, as lines
abbrev pub order_lines : (Text → ℕ) → ℕ → List Text → List Text
order_lines code count lines = map (λ line. decimal (shard_of code count line)) lines

-- The outputs hold the lines: each output those of its shard, and one more the numbers of their shards.
pub record AreShards (code : Text → ℕ) (outputs : List (Option Text)) (order : Option Text) (lines : List Text) : Type 0 where
  pub each : (shard : ℕ) → shard < length outputs → slice_index_or outputs shard None ≡ Some (ended_text (shard_lines code (length outputs) shard lines))
  pub order_is : order ≡ Some (ended_text (order_lines code (length outputs) lines))

-- the bytes that a writer of this type holds are always known
abbrev pub IsKnown : {W : Type 0} → (W → Option Text) → Type 0
IsKnown {W} contents = (writer : W) → IsSome (contents writer)

-- no more than so many bytes wait for an output
abbrev pub WaitsAtMost : {W : Type 0} → ℕ → Shard W → Type 0
WaitsAtMost most shard = length shard.waiting.items ≤ most

-- nothing waits for an output
abbrev pub IsWritten : {W : Type 0} → Shard W → Type 0
IsWritten shard = shard.waiting.items ≡ []

-- what an output has, and what waits for it
abbrev pub held_by : {W : Type 0} → (W → Option Text) → Shard W → Option Text
held_by contents shard = append_known (contents shard.output) shard.waiting.items

-- These lines were taken: outputs whose bytes are known hold them, with what waits.
pub record HasSharded {H W : Type 0} (code : H → Text → ℕ) (contents : W → Option Text) (shards : Shards H W) (lines : List Text) : Type 0 where
  pub total_is : shards.total ≡ length lines
  pub held_are : IsKnown contents → AreShards (code shards.hasher) (map (held_by contents) shards.shards.items) (held_by contents shards.order) lines

-- the same of what the outputs have
abbrev pub HoldShards : {H W : Type 0} → (H → Text → ℕ) → (W → Option Text) → Shards H W → List Text → Type 0
HoldShards code contents shards lines = IsKnown contents → AreShards (code shards.hasher) (map (λ shard. contents shard.output) shards.shards.items) (contents shards.order.output) lines
