-- The machine values of a `Slot` and of a `Returned`. Assumes `Logic`.
use Rattle.std.proofs.Common.{◌≡◌, ℕ, List, [], ◌∷◌, refl}
use Rattle.std.specs.Ptr.{if_non_null}
use seplogic.Ra.Ura.{Ura}
use mir.Raw.{raw as bare}
use mir.Val.{Val}
use base.Logic.{ent, guard, via, snd∗, guard_i}
use types.Logic.{Logic, sem}
use types.Kit.{Item, Goal, Seq, Step, ‵, given, ◌$◌, drop, learn, use1}
use contract.Monad.{fact_use}
use denote.Memory.{lone}
use denote.RattleType.{RattleType}
use denote.RawPtr.{Ptr, block_ptr, null_ptr, ptr_val, lies_at, Testable}
use denote.Param.{layout}
use denote.Struct.Struct.{Shape}
use denote.Struct.Owning.{shape}
use base.Fraction.{full_share}
use Rattle.core.proofs.cell.Inside.{Good}
use Rattle.std.proofs.GlobalToken.{dealloc_token-Testable}
use Rattle.std.specs.Box.Ownership.{box_owns}
use Rattle.std.specs.declared.alloc.Global.{Global}
use Rattle.std.specs.contracts.alloc.Global as heap
use Rattle.std.proofs.alloc.Global.TheLaws as heap_laws
use Rattle.std.specs.contracts.impls.GlobalAllocator.TheImpl.{ghosts}
use Rattle.handles.proofs.Lemmas.Loose.{both, pair_in, pair_out}
use Rattle.handles.specs.Owns.{freed}
use Rattle.handles.specs.Address.{Behind, leads}
use Rattle.handles.specs.declared.address.Slot.{Slot}
use Rattle.handles.specs.declared.address.Returned.{Returned}
use Rattle.handles.specs.contracts.address.Slot as slot
use Rattle.handles.specs.contracts.address.Returned as returned

abbrev S : Shape
S = shape slot.the_type

abbrev T : Shape
T = shape returned.the_type

module _ {M : Type 1} {𝓤 : Ura M} (𝓛 : Logic 𝓤) (R : RattleType) (a : Global) (p : Ptr) (x : R.Denot) where
  -- the owner of a box may compare its pointer with null
  pub box-testable : ent 𝓤 (sem 𝓛 (box_owns (freed a) R p x)) (guard 𝓤 (Testable p) (sem 𝓛 (box_owns (freed a) R p x)))
  box-testable = fact_use 𝓤 (Testable p) (via 𝓤 _ (snd∗ 𝓤 (sem 𝓛 (lies_at R full_share p x)) (sem 𝓛 (freed a (bare (lone R.mir)) p))) (dealloc_token-Testable 𝓛 a (bare (lone R.mir)) p)) (guard_i 𝓤 (Testable p) (sem 𝓛 (box_owns (freed a) R p x)))

module _ {M : Type 1} {𝓤 : Ura M} {𝓛 : Logic 𝓤} {K : Type 0} {Γ : List (Item 𝓤)} {G : Goal 𝓤 𝓛.H} where
  -- a slot of its pieces
  pub slot_in : K → (d : Slot) (h : Val)
      → Step K 𝓛 (‵ (slot.the_row.own_val d (both (ptr_val d.at) h ∷ [])) ∷ Γ) G (‵ (leads (freed d.alloc) Behind d.at d.held) ∷ ‵ (heap.the_row.own_val d.alloc (h ∷ [])) ∷ Γ) G
  slot_in t d h = pair_in Behind heap.the_row heap_laws.the_row_laws ghosts S.name S.args S.types t d.at d.alloc (leads (freed d.alloc) Behind d.at d.held) h

  -- the pieces of an address that C gave back
  pub returned_out : K → (d : Returned) (vs : List Val)
      → ((h : Val) → vs ≡ both (ptr_val d.at) h ∷ [] → Good (layout heap.the_row) h
      → Seq K 𝓛 (‵ (if_non_null d.at (box_owns (freed d.alloc) Behind d.at d.value)) ∷ ‵ (heap.the_row.own_val d.alloc (h ∷ [])) ∷ Γ) G)
      → Seq K 𝓛 (‵ (returned.the_row.own_val d vs) ∷ Γ) G
  returned_out t d vs k = pair_out Behind heap.the_row heap_laws.the_row_laws ghosts T.name T.args T.types t d.at d.alloc (if_non_null d.at (box_owns (freed d.alloc) Behind d.at d.value)) vs k

  -- it is null, or leads to a box
  pub null_or_box : K → (R : RattleType) (a : Global) (p : Ptr) (x : R.Denot)
      → (p ≡ null_ptr → Seq K 𝓛 Γ G)
      → ((b o : ℕ) → p ≡ block_ptr b o → Testable (block_ptr b o) → Seq K 𝓛 (‵ (box_owns (freed a) R (block_ptr b o) x) ∷ Γ) G)
      → Seq K 𝓛 (‵ (if_non_null p (box_owns (freed a) R p x)) ∷ Γ) G
  null_or_box t R a null_ptr x none one = drop t $ none refl
  null_or_box t R a (block_ptr b o) x none one =
      use1 𝓛 (given (Testable (block_ptr b o)) (‵ (box_owns (freed a) R (block_ptr b o) x))) (box-testable 𝓛 R a (block_ptr b o) x) $ learn t (λ may. one b o refl may)
