-- Lines in shards: one line more, and what is written of what waits.
use Rattle.std.proofs.Common.{◌≡◌, ◌≢◌, ℕ, ◌==◌, ◌<◌, Bool, true, false, List, [], ◌∷◌, ◌++◌, length, map, get_or, Option, Some, None, Result, Ok, Err, refl, sym, ap, ap₂, subst, ◌∙◌, arith, eqb-true, eq-eqb}
use Rattle.std.proofs.lemmas.Bool.{true≢false}
use Rattle.std.specs.Prelude.{decimal, slice_set, IsSome, IfSome, OnOk}
use Rattle.std.specs.List.{All, AllByRecursion}
use Rattle.std.specs.Io.KnownBytes.{append_known, Keeps}
use Rattle.std.proofs.lemmas.List.{append-nil, append_assoc, length-set, get_or-set_same, get_or-set_other, nil_from_length}
use Rattle.std.proofs.lemmas.List.Elements.{filter-append, recursion_from_All}
use Rattle.string_interner.specs.Text.{Text}
use Rattle.dictcol.specs.Shards.{shard_of, shard_lines, order_lines, AreShards, IsKnown, held_by, HasSharded, HoldShards, IsWritten, WaitsAtMost}
use Rattle.dictcol.specs.Blocks.{IsTextOf}
use Rattle.dictcol.specs.Lines.{ended_text, lines_of}
use Rattle.dictcol.specs.declared.fault.Fault.{Fault}
use Rattle.dictcol.specs.declared.shards.Shard.{Shard}
use Rattle.dictcol.specs.declared.shards.Shards.{Shards}
use Rattle.dictcol.proofs.TextLines.{ended-push, ended-first}

map-push : (f : Text → Text) (xs : List Text) (x : Text) → map f (xs ++ x ∷ []) ≡ map f xs ++ f x ∷ []
map-push f [] x = refl
map-push f (y ∷ xs) x = ap (λ ys. f y ∷ ys) (map-push f xs x)

module _ (code : Text → ℕ) (count : ℕ) where
  -- a line more of a shard
  shard-push : (shard : ℕ) (lines : List Text) (line : Text) → (shard_of code count line == shard) ≡ true
      → ended_text (shard_lines code count shard (lines ++ line ∷ [])) ≡ ended_text (shard_lines code count shard lines) ++ (line ++ 10 ∷ [])
  shard-push shard lines line is =
      let one : shard_lines code count shard (line ∷ []) ≡ line ∷ [] = rw is refl in
      ap ended_text (filter-append (λ l. shard_of code count l == shard) lines (line ∷ []) ∙ ap (λ more. shard_lines code count shard lines ++ more) one)
      ∙ ended-push (shard_lines code count shard lines) line

  -- a line of another one
  shard-same : (shard : ℕ) (lines : List Text) (line : Text) → (shard_of code count line == shard) ≡ false
      → ended_text (shard_lines code count shard (lines ++ line ∷ [])) ≡ ended_text (shard_lines code count shard lines)
  shard-same shard lines line is =
      let none : shard_lines code count shard (line ∷ []) ≡ [] = rw is refl in
      ap ended_text (filter-append (λ l. shard_of code count l == shard) lines (line ∷ []) ∙ ap (λ more. shard_lines code count shard lines ++ more) none ∙ append-nil (shard_lines code count shard lines))

  order-push : (lines : List Text) (line : Text)
      → ended_text (order_lines code count (lines ++ line ∷ [])) ≡ ended_text (order_lines code count lines) ++ (decimal (shard_of code count line) ++ 10 ∷ [])
  order-push lines line =
      ap ended_text (map-push (λ l. decimal (shard_of code count l)) lines line) ∙ ended-push (order_lines code count lines) (decimal (shard_of code count line))

-- one line more
pub shards-push : (code : Text → ℕ) (outputs : List (Option Text)) (order : Option Text) (lines : List Text) (line : Text) (at : ℕ) (output numbered : Option Text)
    → at < length outputs → at ≡ shard_of code (length outputs) line
    → output ≡ append_known (get_or outputs at None) (line ++ 10 ∷ []) → numbered ≡ append_known order (decimal at ++ 10 ∷ [])
    → AreShards code outputs order lines → AreShards code (slice_set outputs at output) numbered (lines ++ line ∷ [])
shards-push code outputs order lines line at output numbered within is put told are =
    let count = length outputs in
    let long = length-set outputs at output in
    record {
      each = λ shard less. subst (λ (n : ℕ). get_or (slice_set outputs at output) shard None ≡ Some (ended_text (shard_lines code n shard (lines ++ line ∷ [])))) (sym long)
          (of shard (omega (arith, less, long)) (shard_of code count line == shard) refl);
      order_is = told ∙ ap (λ o. append_known o (decimal at ++ 10 ∷ [])) are.order_is
          ∙ ap Some (ap (λ (n : ℕ). ended_text (order_lines code count lines) ++ (decimal n ++ 10 ∷ [])) is ∙ sym (order-push code count lines line)
          ∙ ap (λ (n : ℕ). ended_text (order_lines code n (lines ++ line ∷ []))) (sym long));
    }
  where
    of : (shard : ℕ) → shard < length outputs → (b : Bool) → (shard_of code (length outputs) line == shard) ≡ b
        → get_or (slice_set outputs at output) shard None ≡ Some (ended_text (shard_lines code (length outputs) shard (lines ++ line ∷ [])))
    of shard less true same =
        let here : at ≡ shard = is ∙ eqb-true (shard_of code (length outputs) line) shard same in
        subst (λ (k : ℕ). get_or (slice_set outputs at output) k None ≡ Some (ended_text (shard_lines code (length outputs) shard (lines ++ line ∷ [])))) here
        (get_or-set_same outputs at output None within ∙ put
        ∙ ap (λ (k : ℕ). append_known (get_or outputs k None) (line ++ 10 ∷ [])) here ∙ ap (λ o. append_known o (line ++ 10 ∷ [])) (are.each shard less)
        ∙ ap Some (sym (shard-push code (length outputs) shard lines line same)))
    of shard less false other =
        let apart : shard ≢ at = λ e. differs (shard_of code (length outputs) line) shard other (sym (e ∙ is)) in
        get_or-set_other outputs at shard output None apart ∙ are.each shard less ∙ ap Some (sym (shard-same code (length outputs) shard lines line other))
      where
        differs : (a b : ℕ) → (a == b) ≡ false → a ≡ b → ⊥
        differs a b other e = true≢false (sym (eq-eqb a b e) ∙ other)

-- what is written behind known bytes, in two steps
known-append : (known : Option Text) (a b : Text) → append_known known (a ++ b) ≡ append_known (append_known known a) b
known-append None a b = refl
known-append (Some xs) a b = ap Some (sym (append_assoc xs a b))

known-nil : (known : Option Text) → append_known known [] ≡ known
known-nil None = refl
known-nil (Some xs) = ap Some (append-nil xs)

-- known bytes that are kept are the same
known-kept : (old new : Option Text) → IsSome old → Keeps old new → new ≡ old
known-kept None new known kept = cc
known-kept (Some xs) None known kept = absurd kept
known-kept (Some xs) (Some ys) known kept = ap Some kept

known-with : (known : Option Text) (bytes : Text) → IsSome known → IsSome (append_known known bytes)
known-with None bytes known = known
known-with (Some xs) bytes known = refl

module _ {W : Type 0} (contents : W → Option Text) where
  -- a line more waits
  pub held-push : (old new : Shard W) (line : Text) → new.output ≡ old.output → new.waiting.items ≡ old.waiting.items ++ line ++ 10 ∷ []
      → held_by contents new ≡ append_known (held_by contents old) (line ++ 10 ∷ [])
  held-push old new line same pushed =
      ap₂ (λ output. append_known (contents output)) same (pushed ∙ append_assoc old.waiting.items line (10 ∷ []))
      ∙ known-append (contents old.output) old.waiting.items (line ++ 10 ∷ [])

  -- what waited was written
  pub held-kept : IsKnown contents → (old new : Shard W) → Keeps (held_by contents old) (held_by contents new) → held_by contents new ≡ held_by contents old
  held-kept known old new kept = known-kept (held_by contents old) (held_by contents new) (known-with (contents old.output) old.waiting.items (known old.output)) kept

  -- nothing waits
  pub held-none : (shard : Shard W) → IsWritten shard → held_by contents shard ≡ contents shard.output
  held-none shard none = ap (append_known (contents shard.output)) none ∙ known-nil (contents shard.output)

  -- none of these waits
  all-none : (shards : List (Shard W)) → AllByRecursion IsWritten shards → map (held_by contents) shards ≡ map (λ shard. contents shard.output) shards
  all-none [] none = refl
  all-none (shard ∷ shards) none = ap₂ (λ o os. o ∷ os) (held-none shard none.0) (all-none shards none.1)

  -- what outputs hold is what they have, if nothing waits
  pub held-all : (code : Text → ℕ) (shards : List (Shard W)) (order : Shard W) (lines : List Text) → All IsWritten shards → IsWritten order
      → AreShards code (map (λ shard. contents shard.output) shards) (contents order.output) lines → AreShards code (map (held_by contents) shards) (held_by contents order) lines
  held-all code shards order lines none order_none are = rw (all-none shards (recursion_from_All _ shards none), held-none order order_none) are

  -- and the other way
  written-all : (code : Text → ℕ) (shards : List (Shard W)) (order : Shard W) (lines : List Text) → All IsWritten shards → IsWritten order
      → AreShards code (map (held_by contents) shards) (held_by contents order) lines → AreShards code (map (λ shard. contents shard.output) shards) (contents order.output) lines
  written-all code shards order lines none order_none are = rw (← all-none shards (recursion_from_All _ shards none), ← held-none order order_none) are

at-most-none : {W : Type 0} (shard : Shard W) → WaitsAtMost 0 shard → IsWritten shard
at-most-none shard few = nil_from_length shard.waiting.items (omega (arith, few))

-- the lines that were read from an input, and the rest, are those of all that it yields
pub written-input : {H W : Type 0} (code : H → Text → ℕ) (contents : W → Option Text) (input : Option Text) (result : Result (Unit {0}) Fault) (old new : Shards H W) (seen : List Text) (rest : Text)
    → IsTextOf input seen rest → HasSharded code contents old (seen ++ lines_of rest)
    → OnOk result ((lines : List Text) → HasSharded code contents old lines → HasSharded code contents new lines) → OnOk result (All (WaitsAtMost 0) new.shards.items × WaitsAtMost 0 new.order)
    → OnOk result (IfSome input (λ all. HoldShards code contents new (lines_of all)))
written-input code contents input (Err fault) old new seen rest is taken same none = tt
written-input code contents None (Ok done) old new seen rest is taken same none = tt
written-input code contents (Some all) (Ok done) old new seen rest is taken same none =
    λ known. written-all contents (code new.hasher) new.shards.items new.order (lines_of all) (λ i d within. at-most-none (get_or new.shards.items i d) (none.0 i d within)) (at-most-none new.order none.1)
    (subst (AreShards (code new.hasher) (map (held_by contents) new.shards.items) (held_by contents new.order)) (sym (ap lines_of is.whole ∙ ended-first seen rest is.plain))
    ((same (seen ++ lines_of rest) taken).held_are known))
