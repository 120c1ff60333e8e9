use Rattle.std.proofs.Common.{◌≡◌, Bool, List, [], ◌∷◌, Option, Some, None, true, sym, ap, subst, ◌∙◌, refl}
use Rattle.std.specs.Option.{option_eq}
use Rattle.std.proofs.lemmas.List.{append-nil}
use Rattle.string_interner.specs.Text.{Text}
use Rattle.string_interner.specs.Interner.{InternerContents}
use Rattle.string_interner.specs.Numbering.{Numbering}
use Rattle.string_interner.specs.Scopes.{ScopesContents, as_interner, joined_layers, layers}
use Rattle.string_interner.specs.StandsFor.{StandsFor, FindsSymbol, KeepsSymbols, TellsApart}
use Rattle.examples.proofs.lines.nested_scopes.Goals as goal

module _ {S : Type 0} (numbering : Numbering S) (eq : S → S → Bool) (texts : List Text) (text : Text) (symbol : S) (apart : TellsApart numbering eq texts) (stands : StandsFor numbering texts symbol text) where
  -- a symbol that is found for a text is equal to one that stands for it
  found_is : (found : Option S) → FindsSymbol numbering texts text found → option_eq eq found (Some symbol) ≡ true
  found_is None none = absurd (none symbol stands)
  found_is (Some other) o = (apart other symbol text text o stands).1 refl

-- a name that was declared is found in a block that was entered after that
seen : {S : Type 0} (numbering : Numbering S) (eq : S → S → Bool) (outer entered inner : ScopesContents) (told : InternerContents) (text : Text) (symbol : S) (found : Option S)
    → layers entered ≡ [] ∷ layers outer → StandsFor numbering (joined_layers (layers outer)) symbol text → KeepsSymbols numbering (joined_layers (layers entered)) (joined_layers (layers inner))
    → told ≡ as_interner inner → TellsApart numbering eq told.texts → FindsSymbol numbering (joined_layers (layers inner)) text found → option_eq eq found (Some symbol) ≡ true
seen numbering eq outer entered inner told text symbol found enters stands keeps is apart finds =
    let joined = ap joined_layers enters ∙ append-nil (joined_layers (layers outer)) in
    found_is numbering eq (joined_layers (layers inner)) text symbol (subst (λ texts. TellsApart numbering eq texts) (ap (λ (i : InternerContents). i.texts) is) apart)
    (keeps symbol text (subst (λ texts. StandsFor numbering texts symbol text) (sym joined) stands)) found finds

pub returns : goal.returns
returns c =
    c.eq-seen.ensures ∙ seen _ _ c.declare.new.self c.enter.new.self c.declare-2.new.self _ _ _ _ c.in_ok-enter.ensures.layers c.in_ok-width.ensures.interns.stands c.in_ok-declare.ensures.interns.keeps c.interner.ensures c.len.ensures.holds.equal c.find.ensures.stands
