-- The machine values of a `Loose`, and of every struct of a pointer and an allocator that owns memory. Assumes `Logic`.
use Rattle.std.proofs.Common.{◌≡◌, ℕ, List, [], ◌∷◌, ◌++◌, refl, ap, ◌∙◌}
use mathlib.Core.Bool.{true, ◌&&◌}
use lib.Dec.{T}
use seplogic.Ra.Ura.{Ura}
use mir.Syntax.{Sym, Lifetime, impl, tnil, dnil}
use mir.Raw.{raw as bare}
use mir.Val.{Val, vptr, vstruct, vcons, vnil, of_list, has_ty, WT}
use base.Fml.{Fml, fsep}
use base.Logic.{never, fst∗}
use types.Logic.{Logic, sem}
use types.Kit.{Item, Goal, Seq, Step, step, ‵, ◌$◌, move, drop, fsplit, fjoin, fpick, fpack, feq_i, feq_l}
use denote.RattleType.{RattleType, Valss}
use denote.Builtin.{RawPtr}
use denote.Memory.{lone}
use denote.RawPtr.{Ptr, block_ptr, null_ptr, ptr_val, in_a_block}
use denote.Steps.{nothing}
use denote.Param.{layout}
use denote.Param.Laws.{Laws}
use denote.Struct.Struct.{Struct, Shape, within}
use denote.Struct.Owning.{shape}
use Rattle.core.specs.declared.alloc.Allocator.{Ghosts}
use Rattle.core.proofs.alloc.Calls.{Al, handle_tells}
use Rattle.core.proofs.cell.Inside.{Good}
use Rattle.std.specs.Box.Ownership.{box_owns}
use Rattle.std_alloc.proofs.ResultValues.{and_tt}
use Rattle.handles.specs.contracts.loose.Loose as loose

abbrev pub both : Val → Val → Val
both v w = vstruct (vcons v (vcons w vnil))

module _ (R Z : RattleType) (L : Laws Z) (g : Ghosts Z.Denot) where
  abbrev al : Al
  al = record { row = Z; laws = L; g = g; d = impl [] tnil dnil; drops = impl [] tnil dnil }

  abbrev pub Loose : RattleType
  Loose = loose.the_row R Z g

  pub loose_good : (b o : ℕ) (h : Val) → Good (layout Z) h → T (has_ty (layout Z) h && true) × WT (both (vptr b o) h)
  loose_good b o h fits = (and_tt (has_ty (layout Z) h) fits.0, (tt, (fits.1, tt)))

  -- the shape of such a struct
  abbrev pub pair : Sym → List Lifetime → List RattleType → Shape
  pair name args types = record { name = name; args = args; types = types; fields = RawPtr ∷ Z ∷ [] }

  module _ {M : Type 1} {𝓤 : Ura M} {𝓛 : Logic 𝓤} {K : Type 0} {Γ : List (Item 𝓤)} {G : Goal 𝓤 𝓛.H} (name : Sym) (args : List Lifetime) (types : List RattleType) where
    -- such a struct taken apart, with what it owns
    pub pair_out : K → (p : Ptr) (a : Z.Denot) (F : Fml) (vs : List Val)
        → ((h : Val) → vs ≡ both (ptr_val p) h ∷ [] → Good (layout Z) h → Seq K 𝓛 (‵ F ∷ ‵ (Z.own_val a (h ∷ [])) ∷ Γ) G)
        → Seq K 𝓛 (‵ (fsep ((Struct (pair name args types)).own_val (p, (a, tt)) vs) F) ∷ Γ) G
    pair_out t p a F vs k =
        fsplit t $ fpick t (λ vss. fsplit t $ feq_l t (λ ev. fsplit t $ feq_l t (λ ep. fsplit t $ handle_tells al t a vss.1.0 (λ h ea fits. move t (1 ∷ []) $ drop t $ move t (1 ∷ []) $
        k h (ev ∙ (λ i. vstruct (of_list (ep i ++ (ea i ++ []))) ∷ [])) fits))))

    -- the same where what it owns is a box
    pub box_out : K → (p : Ptr) (a : Z.Denot) (x : R.Denot) (vs : List Val)
        → ((b o : ℕ) (h : Val) → p ≡ block_ptr b o → vs ≡ both (vptr b o) h ∷ [] → Good (layout Z) h → Seq K 𝓛 (‵ (box_owns (g.dealloc_token a) R (block_ptr b o) x) ∷ ‵ (Z.own_val a (h ∷ [])) ∷ Γ) G)
        → Seq K 𝓛 (‵ (fsep ((Struct (pair name args types)).own_val (p, (a, tt)) vs) (box_owns (g.dealloc_token a) R p x)) ∷ Γ) G
    box_out t p a x vs k =
        pair_out t p a (box_owns (g.dealloc_token a) R p x) vs (λ h ws fits.
        in_a_block t p (λ (p : Ptr). box_owns (g.dealloc_token a) R p x) (fst∗ 𝓤 (never 𝓤) (sem 𝓛 (g.dealloc_token a (bare (lone R.mir)) null_ptr))) (λ b o e.
        k b o h e (ws ∙ ap (λ (p : Ptr). both (ptr_val p) h ∷ []) e) fits))

    -- such a struct put together
    pub pair_in : K → (p : Ptr) (a : Z.Denot) (F : Fml) (h : Val)
        → Step K 𝓛 (‵ (fsep ((Struct (pair name args types)).own_val (p, (a, tt)) (both (ptr_val p) h ∷ [])) F) ∷ Γ) G (‵ F ∷ ‵ (Z.own_val a (h ∷ [])) ∷ Γ) G
    pair_in t p a F h = step (λ s. let v : Val = both (ptr_val p) h in
        nothing t $ move t (2 ∷ 0 ∷ []) $ fjoin t $ feq_i t (List Val) (ptr_val p ∷ []) (ptr_val p ∷ []) refl $ fjoin t $ feq_i t (List Val) (v ∷ []) (v ∷ []) refl $ fjoin t $
        fpack t (Valss (RawPtr ∷ Z ∷ [])) (within (pair name args types) (p, (a, tt)) (v ∷ [])) (ptr_val p ∷ [], (h ∷ [], tt)) $ fjoin t $ s)

  abbrev S : Shape
  S = shape (loose.the_type R Z g)

  module _ {M : Type 1} {𝓤 : Ura M} {𝓛 : Logic 𝓤} {K : Type 0} {Γ : List (Item 𝓤)} {G : Goal 𝓤 𝓛.H} where
    pub loose_out : K → (d : Loose.Denot) (vs : List Val)
        → ((b o : ℕ) (h : Val) → d.at ≡ block_ptr b o → vs ≡ both (vptr b o) h ∷ [] → Good (layout Z) h → Seq K 𝓛 (‵ (box_owns (g.dealloc_token d.alloc) R (block_ptr b o) d.value) ∷ ‵ (Z.own_val d.alloc (h ∷ [])) ∷ Γ) G)
        → Seq K 𝓛 (‵ (Loose.own_val d vs) ∷ Γ) G
    loose_out t d vs k = box_out S.name S.args S.types t d.at d.alloc d.value vs k

    pub loose_in : K → (b o : ℕ) (h : Val) (a : Z.Denot) (x : R.Denot)
        → Step K 𝓛 (‵ (Loose.own_val (record { at = block_ptr b o; alloc = a; value = x }) (both (vptr b o) h ∷ [])) ∷ Γ) G (‵ (box_owns (g.dealloc_token a) R (block_ptr b o) x) ∷ ‵ (Z.own_val a (h ∷ [])) ∷ Γ) G
    loose_in t b o h a x = pair_in S.name S.args S.types t (block_ptr b o) a (box_owns (g.dealloc_token a) R (block_ptr b o) x) h
