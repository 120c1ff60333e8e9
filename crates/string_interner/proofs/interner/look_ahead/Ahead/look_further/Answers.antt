use Rattle.std.proofs.Common.{rules}
use Rattle.string_interner.proofs.Lemmas.Interner.InternsEach.{looks-ahead}
use Rattle.string_interner.proofs.interner.look_ahead.Ahead.look_further.Goals as goal

pub returns : goal.returns
returns g c = looks-ahead g.B.Store.numbering (g.H.TextHasher.code c.args.hasher.now) g.B.Symbol.Symbol.symbol_of (g.B.Store.texts c.args.backend.now) c.args.texts.now c.args.at c.min-self.result c.saturating_add-self-2.result _ c.look_for-alone.new.codes c.args.self.now.known c.look_for-alone.new.known
    (search rules) (search rules) (search rules) (search rules) (search rules) c.look_for-alone.ensures.codes_count c.look_for-alone.ensures.known_count c.look_for-alone.ensures.codes c.look_for-alone.ensures.known
