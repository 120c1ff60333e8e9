-- How the symbol types of the library are ordered and hashed.
-- Cited by `order_law`.
use Rattle.std.specs.Prelude.{◌≡◌, ℕ, List}
use Rattle.std.specs.Ordering.{nat_cmp}
use Rattle.std.specs.declared.cmp.Ordering.{Ordering}
use Rattle.std.specs.Hash as fed
use Rattle.string_interner.specs.contracts.symbol.SymbolU16Ord.TheImpl as ord_u16
use Rattle.string_interner.specs.contracts.symbol.SymbolU32Ord.TheImpl as ord_u32
use Rattle.string_interner.specs.contracts.symbol.SymbolUsizeOrd.TheImpl as ord_usize
use Rattle.string_interner.specs.contracts.symbol.SymbolU16Hash.TheImpl as hash_u16
use Rattle.string_interner.specs.contracts.symbol.SymbolU32Hash.TheImpl as hash_u32
use Rattle.string_interner.specs.contracts.symbol.SymbolUsizeHash.TheImpl as hash_usize

-- order and hash are those of the number
pub record IsByNumber (cmp : ℕ → ℕ → Ordering) (hash_input number_input : ℕ → List (List ℕ)) : Type 0 where
  pub order : (a b : ℕ) → cmp a b ≡ nat_cmp a b
  pub hash : (a : ℕ) → hash_input a ≡ number_input a

abbrev pub U16IsByNumber : Type 0
U16IsByNumber = IsByNumber (ord_u16.ghosts).cmp (hash_u16.ghosts).hash_input fed.u16

abbrev pub U32IsByNumber : Type 0
U32IsByNumber = IsByNumber (ord_u32.ghosts).cmp (hash_u32.ghosts).hash_input fed.u32

abbrev pub UsizeIsByNumber : Type 0
UsizeIsByNumber = IsByNumber (ord_usize.ghosts).cmp (hash_usize.ghosts).hash_input fed.usize
