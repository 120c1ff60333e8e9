-- What it means that bytes lie at an address for good.
-- Cited by the model and the contracts of `Lasting`, and by what is stored of a static text.
use Rattle.std.specs.Prelude.{◌≡◌, ℕ, List, []}
use base.Fml.{Fml}
use denote.Builtin.{u8}
use denote.RawPtr.{Ptr, block_ptr, block_of, count_of}
use denote.Ref.{Bor}
use denote.Slice.{elements_shared}

-- the address is inside a block
abbrev pub IsPlaced : Ptr → Type 0
IsPlaced at = at ≡ block_ptr (block_of at) (count_of at)

-- these bytes may be read at this address for good
abbrev pub lasts : Ptr → List ℕ → Fml
lasts at bytes = elements_shared u8 bytes (block_of at) (count_of at) []

-- the reference to these bytes at this address
abbrev pub reference_at : Ptr → List ℕ → Bor (List ℕ)
reference_at at bytes = record { ref_ptr = (block_of at, count_of at); now = bytes }
