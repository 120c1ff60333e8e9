-- The layers of a list, and the law of leaving.
use Rattle.std.proofs.Common.{◌≡◌, ℕ, suc, List, [], ◌∷◌, ◌++◌, length, take, drop, reverse, refl, ap, ◌∙◌, arith, Option, Some, None, Result, Ok, Err}
use Rattle.std.specs.Prelude.{MatchOption, OnOk}
use Rattle.std.proofs.lemmas.List.{take-append-drop, take-append-le, drop-append-le, take_all, drop_all, reverse-append, length-append}
use Rattle.string_interner.specs.Text.{Text, first}
use Rattle.string_interner.specs.Backend.{Appends}
use Rattle.string_interner.specs.Interner.{Interns, entry_symbol}
use Rattle.string_interner.specs.Scopes.{Layer, joined_layers, LayerStep, stays, enters, declares, leaves, StepsAbove, none, one_more, LeavingGivesBack, top_layer, layers_below, AreStarts}
use Rattle.string_interner.specs.declared.backend.InternError.{InternError}
use Rattle.string_interner.proofs.Laws.{refused-keeps}
use Rattle.string_interner.specs.Numbering.{Numbering}

-- the layers of a list, joined, are the list
pub joined_layers-of_list : (starts : List ℕ) (texts : List Text) → joined_layers (top_layer starts texts ∷ layers_below starts texts) ≡ texts
joined_layers-of_list [] texts = refl
joined_layers-of_list (start ∷ starts) texts = ap (λ (below : List Text). below ++ drop start texts) (joined_layers-of_list starts (take start texts)) ∙ take-append-drop start texts

-- one layer for each start, over one more
pub layers-count : (starts : List ℕ) (texts : List Text) → length (layers_below starts texts) ≡ length starts
layers-count [] texts = refl
layers-count (start ∷ starts) texts = ap (λ n. suc n) (layers-count starts (take start texts))

-- where nothing changes that is a step, and so is a new empty layer
pub step-stays : (old new : List Layer) → new ≡ old → LayerStep old new
step-stays old new e = rw e stays

pub step-enters : (old new : List Layer) → new ≡ [] ∷ old → LayerStep old new
step-enters old new e = rw e enters

-- where a scope was opened, an empty layer is on top
pub opened : (starts more : List ℕ) (len : ℕ) (texts : List Text) → more ≡ starts ++ len ∷ [] → len ≡ length texts
    → (top_layer (reverse more) texts ∷ layers_below (reverse more) texts) ≡ [] ∷ top_layer (reverse starts) texts ∷ layers_below (reverse starts) texts
opened starts more len texts e l =
    rw (e, l, reverse-append starts (length texts ∷ []), drop_all (length texts) texts (omega arith), take_all (length texts) texts (omega arith)) refl

-- where a list is cut at the last start, its top layer goes
pub step-leaves : (starts fewer : List ℕ) (start : ℕ) (texts front : List Text) → starts ≡ fewer ++ start ∷ [] → front ≡ take start texts
    → LayerStep (top_layer (reverse starts) texts ∷ layers_below (reverse starts) texts) (top_layer (reverse fewer) front ∷ layers_below (reverse fewer) front)
step-leaves starts fewer start texts front e f = rw (e, f, reverse-append fewer (start ∷ [])) leaves

-- the layers that are then left are those that were below
pub left_below : (below : List Layer) (starts fewer : List ℕ) (start : ℕ) (texts front : List Text) → layers_below (reverse starts) texts ≡ below → starts ≡ fewer ++ start ∷ [] → front ≡ take start texts
    → below ≡ top_layer (reverse fewer) front ∷ layers_below (reverse fewer) front
left_below below starts fewer start texts front is e f = rw (← is, e, f, reverse-append fewer (start ∷ [])) refl

-- a text that is put last goes to the end of the top layer
declares-top : (starts : List ℕ) (texts : List Text) (text : Text) → AreStarts starts (length texts) → top_layer starts (texts ++ text ∷ []) ≡ top_layer starts texts ++ text ∷ []
declares-top [] texts text are = refl
declares-top (start ∷ starts) texts text are = drop-append-le start texts (text ∷ []) are.0

declares-below : (starts : List ℕ) (texts : List Text) (text : Text) → AreStarts starts (length texts) → layers_below starts (texts ++ text ∷ []) ≡ layers_below starts texts
declares-below [] texts text are = refl
declares-below (start ∷ starts) texts text are = rw (take-append-le start texts (text ∷ []) are.0) refl

module _ {S : Type 0} (numbering : Numbering S) (starts : List ℕ) (old : List Text) (are : AreStarts starts (length old)) where
  -- where a new text is interned, it goes to the end of the top layer
  pub top-gains : (text : Text) (outcome : Result S InternError) (new : List Text) → Interns numbering old text outcome new → first old text ≡ None → OnOk outcome (top_layer starts new ≡ top_layer starts old ++ text ∷ [])
  top-gains text (Ok symbol) new interns is = let put = rw is at interns in rw put.1 (declares-top starts old text are)
  top-gains text (Err error) new interns is = tt

  -- the layers of a list in which a text is interned are a step from what they were
  pub step-declares : (text : Text) (outcome : Result S InternError) (new : List Text) → Interns numbering old text outcome new
      → LayerStep (top_layer starts old ∷ layers_below starts old) (top_layer starts new ∷ layers_below starts new)
  step-declares text (Err error) new interns = rw (refused-keeps numbering old new text error interns) stays
  step-declares text (Ok symbol) new interns = of (first old text) interns
    where
      of : (o : Option ℕ) → MatchOption o (Appends numbering.symbol_of numbering.place old text (Ok symbol) new) (λ i. (entry_symbol numbering old i ≡ Some symbol) × (new ≡ old))
          → LayerStep (top_layer starts old ∷ layers_below starts old) (top_layer starts new ∷ layers_below starts new)
      of None put = rw (put.1, declares-top starts old text are, declares-below starts old text are) (declares text)
      of (Some i) known = rw known.1 stays

-- a step from a layer or more above the stack leaves the stack there
step-above : (stack top old new : List Layer) (p : Layer) → old ≡ p ∷ (top ++ stack) → LayerStep old new → (above : List Layer) × (new ≡ above ++ stack)
step-above stack top old new p e stays = (p ∷ top, e)
step-above stack top old new p e enters = ([] ∷ p ∷ top, ap (λ (s : List Layer). [] ∷ s) e)
step-above stack top _ _ p e (declares {top = t} {below = b} text) = let is : b ≡ top ++ stack = cc in ((t ++ text ∷ []) ∷ top, ap (λ (s : List Layer). (t ++ text ∷ []) ∷ s) is)
step-above stack top old new p e leaves = (top, (cc))

-- and so do steps with a layer or more above it before each
steps-above : (floor : ℕ) (stack top old new : List Layer) → floor ≡ length stack → old ≡ top ++ stack → StepsAbove floor old new → (above : List Layer) × (new ≡ above ++ stack)
steps-above floor stack top old new f e none = (top, e)
steps-above floor stack [] old new f e (one_more above step steps) = absurd (omega (arith, ap length e))
steps-above floor stack (p ∷ top) old new f e (one_more {mid = mid} above step steps) =
    let s = step-above stack top old mid p e step in steps-above floor stack s.0 mid new f s.1 steps

-- as many layers as the stack has, above which none stands, are the stack
no-layer-above : (stack above end : List Layer) → end ≡ above ++ stack → length end ≡ length stack → end ≡ stack
no-layer-above stack [] end e same = e
no-layer-above stack (p ∷ above) end e same = absurd (omega (arith, ap length e, length-append above stack))

pub leaving-gives-back : LeavingGivesBack
leaving-gives-back stack end steps same = let s = steps-above (length stack) stack ([] ∷ []) ([] ∷ stack) end refl refl steps in no-layer-above stack s.0 end s.1 same
