-- The file that a line is of: the last of several that fewer lines begin before.
use Rattle.std.proofs.Common.{◌≡◌, ℕ, zero, suc, ◌+◌, ◌-◌, ◌<◌, ◌≤◌, List, ◌∷◌, ◌++◌, length, get_or, take, drop, sym, ap, subst, ◌∙◌, arith}
use Rattle.std.specs.Prelude.{All}
use Rattle.std.proofs.lemmas.List.{drop_more, get_or-drop, length-drop, take-append-drop}
use Rattle.std.proofs.lemmas.Option.{same_Some, slice_get-get_or}
use Rattle.dictcol.specs.Inputs.{IsLineOf}
use Rattle.dictcol.specs.declared.input.inputs.Begin.{Begin}

module _ (begins : List Begin) (line : ℕ) where
  abbrev pub BeginLater : List Begin → Type 0
  BeginLater later = All (λ begin. line ≤ begin.lines) later

  at-any : (i : ℕ) (begin d : Begin) → i < length begins → begin ≡ get_or begins i begin → get_or begins i d ≡ begin
  at-any i begin d within is = same_Some _ _ (sym (slice_get-get_or begins i d within) ∙ slice_get-get_or begins i begin within) ∙ sym is

  pub one-later : (count later : ℕ) (begin : Begin) → count ≡ length begins → later < count → begin ≡ get_or begins (count - 1 - later) begin → line ≤ begin.lines
      → BeginLater (drop (count - later) begins) → BeginLater (drop (count - (later + 1)) begins)
  one-later count later begin is below at behind rest zero d inside =
      let n : count - (later + 1) + 0 ≡ count - 1 - later = omega arith in
      let same = get_or-drop (count - (later + 1)) begins 0 d ∙ ap (λ (i : ℕ). get_or begins i d) n ∙ at-any (count - 1 - later) begin d (omega (arith, is, below)) at in
      subst (λ (b : Begin). line ≤ b.lines) (sym same) behind
  one-later count later begin is below at behind rest (suc k) d inside =
      let n : count - (later + 1) + suc k ≡ count - later + k = omega (arith, below) in
      let same = get_or-drop (count - (later + 1)) begins (suc k) d ∙ ap (λ (i : ℕ). get_or begins i d) n ∙ sym (get_or-drop (count - later) begins k d) in
      let long = length-drop (count - later) begins in
      let before = length-drop (count - (later + 1)) begins in
      subst (λ (b : Begin). line ≤ b.lines) (sym same) (rest k d (omega (arith, inside, long, before, is, below)))

  pub last-before : (count later : ℕ) (begin : Begin) → count ≡ length begins → later < count → begin ≡ get_or begins (count - 1 - later) begin → begin.lines < line
      → BeginLater (drop (count - later) begins) → IsLineOf begins line begin
  last-before count later begin is below at begun rest =
      let i = count - 1 - later in
      let within : count - 1 - later < length begins = omega (arith, is, below) in
      let next : count - later ≡ count - 1 - later + 1 = omega (arith, below) in record {
        earlier = take i begins;
        later = drop (i + 1) begins;
        stands = sym (take-append-drop i begins)
            ∙ ap (λ (rest : List Begin). take i begins ++ rest) (drop_more begins i begin within ∙ ap (λ (b : Begin). b ∷ drop (i + 1) begins) (sym at));
        begun = begun;
        last = subst (λ (n : ℕ). BeginLater (drop n begins)) next rest;
      }
