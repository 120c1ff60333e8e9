use Rattle.string_interner.proofs.Lemmas.Backend.Numbering.{numbered}
use Rattle.string_interner.proofs.Lemmas.Interner.StandsFor.{stands-at}
use Rattle.string_column.proofs.Lemmas.AreNumbered.{begins-at}
use Rattle.string_column.proofs.dictionary.DictionaryTextList.text_at.Goals as goal

pub returns : goal.returns
returns g c =
    let numbering = g.B.Store.numbering in
    let are = numbered numbering g.met.B.Store.symbols g.met.B.Symbol.Symbol.numbered in
    let texts = c.self.inside.interner.texts in
    rw (← c.self.view_is) (stands-at numbering are g.met.B.Store.grows texts c.at.result c.resolve_unchecked.result.now c.args.index c.resolve_unchecked.ensures
    (begins-at numbering are texts c.self.inside.symbols c.args.index c.at.result c.self.invariant c.at.ensures))
