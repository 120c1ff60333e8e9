use Rattle.std.proofs.Common.{ap, ◌∙◌, sym}
use Rattle.string_interner.proofs.Lemmas.Backend.Numbering.{numbered, injective}
use Rattle.string_interner.proofs.Lemmas.Interner.IsSoundInterner.{sought}
use Rattle.suite.proofs.indexes.filled.FilledTexts.find.Goals as goal

pub returns : goal.returns
returns g c = sym (sought g.B.Store.numbering (numbered g.B.Store.numbering g.met.B.Store.symbols g.met.B.Symbol.Symbol.numbered) (injective g.B.Store.numbering g.met.B.Store.symbols g.met.B.Symbol.Symbol.injective) g.met.B.Store.grows _ _ _ (rw c.self.view_is at c.self.invariant) _ _ c.args.text.now c.find.ensures.found_is (ap g.B.Store.texts c.new-looks.ensures.backend ∙ c.self.view_is))
