-- What words show as slots.
use Rattle.std.proofs.Common.{◌≡◌, ℕ, zero, suc, ◌<◌, Bool, true, false, List, Option, Some, None, ◌∷◌, length, get_or, set, replicate, refl, sym, ap, ◌∙◌, arith}
use Rattle.std.proofs.lemmas.List.{length-map, map-set}
use Rattle.string_interner.specs.Text.{Text}
use Rattle.string_interner.specs.Index.{has_text}
use Rattle.string_interner.specs.Probe.{Misses}
use Rattle.string_interner.specs.Tagged.{FitsTagged, TaggedContents, code_in, stored_code, symbol_in, symbols_in}
use Rattle.string_interner.specs.Words.{slot_of, slots_of}
use Rattle.string_interner.specs.declared.dedup.tagged.CodedSymbol.{CodedSymbol}
use Rattle.string_interner.proofs.Lemmas.Index.LookUp.{entry_from_has}
use Rattle.string_interner.proofs.Lemmas.TaggedSlots.SymbolsIn.{symbols_in-at, symbols_in-none}

module _ {S : Type 0} (symbol_of : ℕ → Option S) where
  slots_of-zeros : (n : ℕ) → slots_of symbol_of (replicate n 0) ≡ replicate n None
  slots_of-zeros zero = refl
  slots_of-zeros (suc n) = ap (λ rest. None ∷ rest) (slots_of-zeros n)

  pub symbols-zeros : (n : ℕ) → symbols_in (slots_of symbol_of (replicate n 0)) ≡ replicate n None
  symbols-zeros n = ap symbols_in (slots_of-zeros n) ∙ symbols_in-none n

  pub slots_of-set : (words : List ℕ) (at word : ℕ) (slot : Option (CodedSymbol S)) → slot_of symbol_of word ≡ slot
      → slots_of symbol_of (set words at word) ≡ set (slots_of symbol_of words) at slot
  slots_of-set words at word slot e = map-set (slot_of symbol_of) words at word ∙ ap (λ x. set (slots_of symbol_of words) at x) e

-- a slot misses if it has another code, or a symbol without the text
pub misses_coded : {S : Type 0} (entry : S → Option Text) (code : Text → ℕ) (tagged : TaggedContents S) → FitsTagged entry code tagged → (text : Text) (c : ℕ) → c ≡ code text
    → (k : ℕ) (item : CodedSymbol S) → k < length tagged → get_or tagged k None ≡ Some item → (item.code ≡ stored_code c → has_text entry text item.symbol ≡ false)
    → Misses (has_text entry text) (symbols_in tagged) k
misses_coded {S} entry code tagged fits text c e k item l there fails =
    let n = length-map tagged symbol_in in let slot = symbols_in-at tagged k (Some item) there in
    let by : (b : Bool) → has_text entry text item.symbol ≡ b → has_text entry text item.symbol ≡ false = elim [
      | true ↦ λ has. fails (sym (ap code_in there) ∙ fits.coded k item.symbol text (omega arith) slot (entry_from_has entry text item.symbol has) ∙ ap stored_code (sym e))
      | false ↦ λ has. has
    ] in
    record { symbol = item.symbol; filled = slot; fails = by (has_text entry text item.symbol) refl }
