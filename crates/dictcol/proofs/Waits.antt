-- Lines that wait until their block is full.
use Rattle.std.proofs.Common.{◌≡◌, ℕ, ◌+◌, ◌<◌, List, [], ◌∷◌, ◌++◌, length, take, Bor, Result, Ok, Err, refl, sym, ap, subst, ◌∙◌, arith}
use Rattle.std.specs.Prelude.{slice_set, OnOk}
use Rattle.std.proofs.lemmas.List.{append-nil, append_assoc, map-append, take_all, take_more_set, length-set}
use Rattle.string_interner.specs.Text.{Text}
use Rattle.string_interner.specs.Extend.{texts_of}
use Rattle.dictcol.specs.Fault.{IsTakeFault}
use Rattle.dictcol.specs.TooMany.{HasRefused}
use Rattle.dictcol.specs.declared.fault.Fault.{Fault}
use Rattle.dictcol.proofs.TooMany.{more-refused, take-weaker}

-- the lines in front were taken, and behind them are those that wait, and those that are ahead
pub record Waits {S : Type 0} (has_taken : S → List Text → Type 0) (old now : S) (waiting : List (Bor Text)) (ahead all : List Text) : Type 0 where
  pub front : List Text
  pub taken : (lines : List Text) → has_taken old lines → has_taken now (lines ++ front)
  pub whole : (front ++ texts_of waiting) ++ ahead ≡ all

module _ {S : Type 0} (has_taken : S → List Text → Type 0) (old : S) (all : List Text) where
  pub waits-begin : (ahead : List Text) → ahead ≡ all → Waits has_taken old old [] ahead all
  waits-begin ahead is = record { front = []; taken = λ lines has. subst (has_taken old) (sym (append-nil lines)) has; whole = is }

  -- the next one is taken, where none waits
  pub waits-one : (mid new : S) (waiting still : List (Bor Text)) (ahead rest : List Text) (line : Text) → waiting ≡ [] → still ≡ [] → ahead ≡ line ∷ rest → Waits has_taken old mid waiting ahead all
      → ((lines : List Text) → has_taken mid lines → has_taken new (lines ++ line ∷ [])) → Waits has_taken old new still rest all
  waits-one mid new waiting still ahead rest line none nor first before one = record {
    front = before.front ++ line ∷ [];
    taken = λ lines has. subst (has_taken new) (append_assoc lines before.front (line ∷ [])) (one (lines ++ before.front) (before.taken lines has));
    whole = ap (λ ls. ls ++ rest) (ap (λ ws. (before.front ++ line ∷ []) ++ texts_of ws) nor ∙ append-nil (before.front ++ line ∷ [])) ∙ append_assoc before.front (line ∷ []) rest
        ∙ ap (λ ls. ls ++ line ∷ rest) (sym (append-nil before.front) ∙ ap (λ ws. before.front ++ texts_of ws) (sym none)) ∙ ap (λ ls. (before.front ++ texts_of waiting) ++ ls) (sym first) ∙ before.whole;
  }

  -- the next one waits
  pub waits-on : (now : S) (waiting more : List (Bor Text)) (ahead rest : List Text) (line : Bor Text) → more ≡ waiting ++ line ∷ [] → ahead ≡ line.now ∷ rest → Waits has_taken old now waiting ahead all → Waits has_taken old now more rest all
  waits-on now waiting more ahead rest line longer first before = record {
    front = before.front;
    taken = before.taken;
    whole = ap (λ ws. (before.front ++ ws) ++ rest) (ap texts_of longer ∙ map-append (λ (item : Bor Text). item.now) waiting (line ∷ []))
        ∙ ap (λ ls. ls ++ rest) (sym (append_assoc before.front (texts_of waiting) (line.now ∷ []))) ∙ append_assoc (before.front ++ texts_of waiting) (line.now ∷ []) rest
        ∙ ap (λ ls. (before.front ++ texts_of waiting) ++ ls) (sym first) ∙ before.whole;
  }

  -- those that wait are taken
  pub waits-block : (mid new : S) (waiting still : List (Bor Text)) (ahead : List Text) → still ≡ [] → Waits has_taken old mid waiting ahead all
      → ((lines : List Text) → has_taken mid lines → has_taken new (lines ++ texts_of waiting)) → Waits has_taken old new still ahead all
  waits-block mid new waiting still ahead none before block = record {
    front = before.front ++ texts_of waiting;
    taken = λ lines has. subst (has_taken new) (append_assoc lines before.front (texts_of waiting)) (block (lines ++ before.front) (before.taken lines has));
    whole = ap (λ ws. ((before.front ++ texts_of waiting) ++ texts_of ws) ++ ahead) none ∙ ap (λ ls. ls ++ ahead) (append-nil (before.front ++ texts_of waiting)) ∙ before.whole;
  }

  -- those that wait are the last
  pub waits-end : {E : Type 0} (mid new : S) (result : Result (Unit {0}) E) (waiting : List (Bor Text)) (ahead : List Text) → ahead ≡ [] → Waits has_taken old mid waiting ahead all
      → OnOk result ((lines : List Text) → has_taken mid lines → has_taken new (lines ++ texts_of waiting)) → OnOk result ((lines : List Text) → has_taken old lines → has_taken new (lines ++ all))
  waits-end mid new (Err error) waiting ahead none before block = tt
  waits-end mid new (Ok done) waiting ahead none before block = λ lines has.
      let last = waits-block mid new waiting [] ahead refl before block in
      let are : last.front ≡ all = sym (append-nil last.front) ∙ sym (append-nil (last.front ++ [])) ∙ ap (λ ls. (last.front ++ []) ++ ls) (sym none) ∙ last.whole in
      subst (λ ls. has_taken new (lines ++ ls)) are (last.taken lines has)

  -- ---- one of them is refused

  module _ (Refuses : List Text → Text → Type 0) where
    -- the next one, where none waits
    pub waits-refused-one : (mid : S) (waiting : List (Bor Text)) (ahead rest : List Text) (line : Text) (fault : Fault) → waiting ≡ [] → ahead ≡ line ∷ rest → (before : Waits has_taken old mid waiting ahead all)
        → (lines : List Text) → IsTakeFault (Refuses (lines ++ before.front) line) fault → IsTakeFault (HasRefused Refuses (lines ++ all)) fault
    waits-refused-one mid waiting ahead rest line fault none first before lines =
        take-weaker fault (λ refused. (
          lines ++ before.front,
          line,
          rest,
          ap (λ ls. lines ++ ls) (sym before.whole ∙ ap (λ ws. (before.front ++ texts_of ws) ++ ahead) none ∙ ap (λ ls. ls ++ ahead) (append-nil before.front) ∙ ap (λ ls. before.front ++ ls) first)
              ∙ sym (append_assoc lines before.front (line ∷ rest)),
          refused,
        ))

    -- one of those that wait
    pub waits-refused : (mid : S) (waiting : List (Bor Text)) (ahead : List Text) (fault : Fault) → (before : Waits has_taken old mid waiting ahead all)
        → (lines : List Text) → IsTakeFault (HasRefused Refuses ((lines ++ before.front) ++ texts_of waiting)) fault → IsTakeFault (HasRefused Refuses (lines ++ all)) fault
    waits-refused mid waiting ahead fault before lines =
        take-weaker fault (λ refused. subst (HasRefused Refuses)
        (ap (λ ls. ls ++ ahead) (append_assoc lines before.front (texts_of waiting)) ∙ append_assoc lines (before.front ++ texts_of waiting) ahead ∙ ap (λ ls. lines ++ ls) before.whole)
        (more-refused Refuses ((lines ++ before.front) ++ texts_of waiting) ahead refused))

-- ---- the block

-- what waits in the front of a block, with one line more
pub block-more : (block : List (Bor Text)) (len : ℕ) (line : Bor Text) → len < length block → take (len + 1) (slice_set block len line) ≡ take len block ++ line ∷ []
block-more block len line within = take_more_set block len line within

-- and where this one fills it
pub block-filled : (block : List (Bor Text)) (len : ℕ) (line : Bor Text) → len + 1 ≡ length block → slice_set block len line ≡ take len block ++ line ∷ []
block-filled block len line full = sym (take_all (len + 1) (slice_set block len line) (omega (arith, full, length-set block len line))) ∙ take_more_set block len line (omega (arith, full))
