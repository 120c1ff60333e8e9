-- The symbols in slots that have codes too.
use Rattle.std.proofs.Common.{◌≡◌, ℕ, zero, suc, Option, None, replicate, ◌∷◌, get_or, refl, ap, ◌∙◌}
use Rattle.std.proofs.Math.ListN.{get_or-map}
use Rattle.string_interner.specs.declared.dedup.tagged.CodedSymbol.{CodedSymbol}
use Rattle.string_interner.specs.Tagged.{TaggedContents, symbol_in, symbols_in}

module _ {S : Type 0} where
  pub symbols_in-at : (tagged : TaggedContents S) (k : ℕ) (slot : Option (CodedSymbol S)) → get_or tagged k None ≡ slot → get_or (symbols_in tagged) k None ≡ symbol_in slot
  symbols_in-at tagged k slot e = get_or-map symbol_in tagged k None ∙ ap symbol_in e

  pub symbols_in-none : (count : ℕ) → symbols_in (replicate {A = Option (CodedSymbol S)} count None) ≡ replicate count None
  symbols_in-none zero = refl
  symbols_in-none (suc count) = ap (λ rest. None ∷ rest) (symbols_in-none count)
