-- A stack of layers of texts, and what a call may do to it.
-- Cited by `Scopes`.
use Rattle.std.specs.Prelude.{◌≡◌, ℕ, ◌<◌, ◌≤◌, Bool, true, false, List, [], ◌∷◌, ◌++◌, length, take, drop, ⊤}
use Rattle.string_interner.specs.Text.{Text}
use Rattle.string_interner.specs.Backend.{Bucket}
use Rattle.string_interner.specs.Interner.{InternerContents}

-- the texts of one scope, in insertion order
abbrev pub Layer : Type 0
Layer = List Text

-- what contracts see of an interner in scopes: a stack of layers, which is never empty, and the interner's buckets,
-- room and slot count
pub record ScopesContents : Type 0 where
  -- the layer to which new texts are appended
  pub top : Layer
  -- the layers below it, the nearest first: as many as there are open scopes
  pub below : List Layer
  pub buckets : List Bucket
  pub room : ℕ
  pub slot_count : ℕ

-- the whole stack, the top layer first
abbrev pub layers : ScopesContents → List Layer
layers scopes = scopes.top ∷ scopes.below

-- the layers joined, from the bottom to the top
abbrev pub joined_layers : List Layer → List Text
joined_layers [] = []
joined_layers (top ∷ below) = joined_layers below ++ top

-- the interner, whose list is the layers joined
abbrev pub as_interner : ScopesContents → InternerContents
as_interner scopes = record { texts = joined_layers (layers scopes); buckets = scopes.buckets; room = scopes.room; slot_count = scopes.slot_count }

-- Leaving a scope: the top layer goes, unless it is the only one, and the flag says which.
abbrev pub Leaves : List Layer → Bool → List Layer → Type 0
Leaves (top ∷ next ∷ below) left new = (left ≡ true) × (new ≡ next ∷ below)
Leaves old left new = (left ≡ false) × (new ≡ old)

-- what one call may do to the layers
pub data LayerStep : List Layer → List Layer → Type 0 where
  -- nothing changes
  stays : {stack : List Layer} → LayerStep stack stack
  -- an empty layer is pushed
  enters : {stack : List Layer} → LayerStep stack ([] ∷ stack)
  -- a text is appended to the top layer
  declares : {top : Layer} {below : List Layer} (text : Text) → LayerStep (top ∷ below) ((top ++ text ∷ []) ∷ below)
  -- the top layer of two or more is popped
  leaves : {top next : Layer} {below : List Layer} → LayerStep (top ∷ next ∷ below) (next ∷ below)

-- a list of layer steps, with more layers than the floor before each
pub data StepsAbove (floor : ℕ) : List Layer → List Layer → Type 0 where
  none : {stack : List Layer} → StepsAbove floor stack stack
  one_more : {old mid new : List Layer} → floor < length old → LayerStep old mid → StepsAbove floor mid new → StepsAbove floor old new

-- The law of leaving: steps from a stack with an empty layer pushed, with more layers than the stack before each step,
-- back to as many layers as the stack, end at the stack.
abbrev pub LeavingGivesBack : Type 0
LeavingGivesBack = (stack end : List Layer) → StepsAbove (length stack) ([] ∷ stack) end → length end ≡ length stack → end ≡ stack

-- The layers of a list, from its length when each open scope was entered, the last first: the top layer is what was
-- appended since the last, and those below it are the layers of the list before that.
abbrev pub top_layer : List ℕ → List Text → Layer
top_layer [] texts = texts
top_layer (start ∷ starts) texts = drop start texts

abbrev pub layers_below : List ℕ → List Text → List Layer
layers_below [] texts = []
layers_below (start ∷ starts) texts = top_layer starts (take start texts) ∷ layers_below starts (take start texts)

-- no scope was entered with a longer list than a later one, or than the list is now
abbrev pub AreStarts : List ℕ → ℕ → Type 0
AreStarts [] len = ⊤
AreStarts (start ∷ starts) len = (start ≤ len) × AreStarts starts start
