-- What the tag of a text's code tells of the slots.
use Rattle.std.proofs.Common.{◌≡◌, ℕ, ◌<◌, Option, Some, length, arith, sym, ap, subst, ◌∙◌}
use Rattle.std.proofs.lemmas.List.{length-map}
use Rattle.string_interner.specs.Text.{Text}
use Rattle.string_interner.specs.Index.{has_text}
use Rattle.string_interner.specs.Probe.{Misses}
use Rattle.string_interner.specs.Tagged.{FitsTagged, HasAnotherTag, TaggedContents, TagTells, code_in, stored_code, symbol_in, symbols_in, tag_of}
use Rattle.string_interner.proofs.Lemmas.Index.ProbeLoop.{HasAnotherTag-misses}
use Rattle.string_interner.proofs.Lemmas.TaggedSlots.SymbolsIn.{symbols_in-at}
use Rattle.string_interner.proofs.Lemmas.Index.LookUp.{entry_from_has}

-- each slot whose symbol has a text has that text's tag
pub TagTells-fits : {S : Type 0} (entry : S → Option Text) (code : Text → ℕ) (tagged : TaggedContents S) → FitsTagged entry code tagged → (text : Text) (c : ℕ) → c ≡ code text
    → TagTells (has_text entry text) tagged (tag_of (stored_code c))
TagTells-fits entry code tagged fits text c e k item l there has =
    let n = length-map tagged symbol_in in
    let coded = fits.coded k item.symbol text (omega arith) (symbols_in-at tagged k (Some item) there) (entry_from_has entry text item.symbol has) in
    ap tag_of (sym (ap code_in there) ∙ coded ∙ ap stored_code (sym e))

-- so a slot of another tag misses
pub TagTells-misses : {S : Type 0} (entry : S → Option Text) (code : Text → ℕ) (tagged : TaggedContents S) → FitsTagged entry code tagged → (text : Text) (c tag : ℕ) → c ≡ code text → tag ≡ tag_of (stored_code c)
    → (k : ℕ) → k < length tagged → HasAnotherTag tagged tag k → Misses (has_text entry text) (symbols_in tagged) k
TagTells-misses entry code tagged fits text c tag e t = HasAnotherTag-misses (has_text entry text) tagged tag (subst (TagTells (has_text entry text) tagged) (sym t) (TagTells-fits entry code tagged fits text c e))
