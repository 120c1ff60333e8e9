-- The machine values of a `Handle`. Assumes `Logic`.
use Rattle.std.proofs.Common.{◌≡◌, ℕ, List, [], ◌∷◌}
use seplogic.Ra.Ura.{Ura}
use mir.Val.{Val, vptr}
use types.Logic.{Logic}
use types.Kit.{Item, Goal, Seq, Step, ‵}
use denote.RawPtr.{block_ptr, ptr_val}
use denote.Param.{layout}
use denote.Struct.Struct.{Shape}
use denote.Struct.Owning.{shape}
use Rattle.core.proofs.cell.Inside.{Good}
use Rattle.std.specs.Box.Ownership.{box_owns}
use Rattle.std.specs.contracts.alloc.Global as heap
use Rattle.std.proofs.alloc.Global.TheLaws as heap_laws
use Rattle.std.specs.contracts.impls.GlobalAllocator.TheImpl.{ghosts}
use Rattle.handles.proofs.Lemmas.Loose.{both, box_out, pair_in}
use Rattle.handles.specs.Owns.{Inner, freed}
use Rattle.handles.specs.declared.handle.Handle.{Handle}
use Rattle.handles.specs.contracts.handle.Handle.{the_row as R, the_type}

abbrev S : Shape
S = shape the_type

module _ {M : Type 1} {𝓤 : Ura M} {𝓛 : Logic 𝓤} {K : Type 0} {Γ : List (Item 𝓤)} {G : Goal 𝓤 𝓛.H} where
  -- a handle of its pieces
  pub handle_in : K → (d : Handle) (h : Val)
      → Step K 𝓛 (‵ (R.own_val d (both (ptr_val d.at) h ∷ [])) ∷ Γ) G (‵ (box_owns (freed d.alloc) Inner d.at d.value) ∷ ‵ (heap.the_row.own_val d.alloc (h ∷ [])) ∷ Γ) G
  handle_in t d h = pair_in Inner heap.the_row heap_laws.the_row_laws ghosts S.name S.args S.types t d.at d.alloc (box_owns (freed d.alloc) Inner d.at d.value) h

  -- the pieces of a handle
  pub handle_out : K → (d : Handle) (vs : List Val)
      → ((b o : ℕ) (h : Val) → d.at ≡ block_ptr b o → vs ≡ both (vptr b o) h ∷ [] → Good (layout heap.the_row) h
      → Seq K 𝓛 (‵ (box_owns (freed d.alloc) Inner (block_ptr b o) d.value) ∷ ‵ (heap.the_row.own_val d.alloc (h ∷ [])) ∷ Γ) G)
      → Seq K 𝓛 (‵ (R.own_val d vs) ∷ Γ) G
  handle_out t d vs k = box_out Inner heap.the_row heap_laws.the_row_laws ghosts S.name S.args S.types t d.at d.alloc d.value vs k
