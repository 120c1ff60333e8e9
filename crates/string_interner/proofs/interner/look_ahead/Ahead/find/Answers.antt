use Rattle.std.proofs.Common.{rules, ap, ◌∙◌, ◌-◌}
use Rattle.std.specs.Prelude.{None, option_and_then, slice_index_or}
use Rattle.std.proofs.lemmas.List.{get_or_default}
use Rattle.string_interner.specs.InternAll.{IsKnown}
use Rattle.string_interner.proofs.Lemmas.Interner.InternsEach.{known-stands-for}
use Rattle.string_interner.proofs.interner.look_ahead.Ahead.find.Goals as goal

pub returns-then-at-self-2-clause-known : goal.returns-then-at-self-2-clause-known
returns-then-at-self-2-clause-known g c = λ text.
    let self = c.if-at-self.self in let at = c.args.at - self.start in
    let here : IsKnown g.B.Symbol.Symbol.symbol_of g.B.Store.numbering (g.B.Store.texts c.args.backend.now) (slice_index_or c.args.texts.now c.args.at text).now (slice_index_or self.known at None) = search rules in
    known-stands-for g.B.Store.numbering g.B.Symbol.Symbol.symbol_of _ _ (slice_index_or self.known at None) c.symbol_with-found.result here
    (c.symbol_with-found.ensures ∙ ap (option_and_then g.B.Symbol.Symbol.symbol_of) (get_or_default self.known at _ None (search rules)))
