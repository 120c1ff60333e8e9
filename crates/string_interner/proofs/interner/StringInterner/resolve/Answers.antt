use Rattle.std.proofs.Common.{◌∙◌}
use Rattle.string_interner.proofs.Lemmas.Backend.Numbering.{numbered}
use Rattle.string_interner.proofs.Lemmas.Interner.StandsFor.{stands-read}
use Rattle.string_interner.proofs.interner.StringInterner.resolve.Goals as goal

pub returns : goal.returns
returns g c = rw (← c.self.view_is) (record {
  value = c.resolve.ensures;
  stands = λ text stands. c.resolve.ensures ∙ stands-read g.B.Store.numbering (numbered g.B.Store.numbering g.met.B.Store.symbols g.met.B.Symbol.Symbol.numbered) g.met.B.Store.reads _ c.args.symbol text c.self.invariant.texts.valid stands;
})
