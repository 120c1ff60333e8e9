-- The hashers of handles: their codes in C, and the code of a text under a hasher that is chosen when an interner is made.
-- Cited by `HasherKind`, by `ChosenHasher` and by `Options`.
use Rattle.std.specs.Prelude.{◌≡◌, ℕ, Option, Some, None}
use Rattle.std.specs.Hash.BuildHasherDefault.{initial_hasher}
use Rattle.std.specs.Hash.DefaultHasher as sip
use Rattle.std.specs.Hash.FoldHasher as folding
use Rattle.string_interner.specs.Text.{Text}
use Rattle.string_interner.specs.Hasher.{one_write}
use Rattle.string_interner.specs.SeededHash as seeded
use Rattle.handles.specs.declared.hasher.ChosenHasher.{ChosenHasher}
use Rattle.handles.specs.declared.hasher.ChosenHasher.TheVariants as chosen
use Rattle.handles.specs.declared.hasher.HasherKind.{HasherKind}
use Rattle.handles.specs.declared.hasher.HasherKind.TheVariants.{Fixed, SipHash, Seeded}

-- the code of a hasher in C
abbrev pub code_of_hasher : HasherKind → ℕ
code_of_hasher Fixed = 0
code_of_hasher SipHash = 1
code_of_hasher Seeded = 2

-- The hasher has this code, or no hasher has it.
abbrev pub HasHasherCode : ℕ → Option HasherKind → Type 0
HasHasherCode code (Some kind) = code_of_hasher kind ≡ code
HasHasherCode code None = (kind : HasherKind) → ¬ (code_of_hasher kind ≡ code)

-- under the hasher of the standard library's maps, which has no key
abbrev pub fold_code : Text → ℕ
fold_code text = one_write folding.write folding.finish folding.initial text

-- under SipHash-1-3 with these keys
abbrev pub sip_code : ℕ → ℕ → Text → ℕ
sip_code key0 key1 text = one_write sip.write sip.finish (sip.with_keys key0 key1) text

-- under the seeded hasher with these keys
abbrev pub seeded_code : ℕ → ℕ → Text → ℕ
seeded_code key0 key1 text = one_write seeded.write seeded.finish (seeded.with_keys (record { key0 = key0; key1 = key1 })) text

-- under the hasher of this kind with these keys
abbrev pub code_by : HasherKind → ℕ → ℕ → Text → ℕ
code_by Fixed key0 key1 = fold_code
code_by SipHash key0 key1 = sip_code key0 key1
code_by Seeded key0 key1 = seeded_code key0 key1

-- under the hasher that was chosen
abbrev pub chosen_code : ChosenHasher → Text → ℕ
chosen_code (chosen.Fixed hasher) text = one_write folding.write folding.finish (initial_hasher hasher.builder) text
chosen_code (chosen.Keyed key0 key1) text = sip_code key0 key1 text
chosen_code (chosen.Seeded hasher) text = seeded_code hasher.builder.key0 hasher.builder.key1 text
