use Rattle.std.proofs.Common.{arith, sym, ◌∙◌}
use Rattle.string_interner.specs.Entry.{entry_text}
use Rattle.suite.proofs.Listed.{missed-next, missed-all, listed-place, listed-hit, listed-miss}
use Rattle.suite.proofs.linear.find.Goals as goal

pub resolve_unchecked-requires : goal.resolve_unchecked-requires
resolve_unchecked-requires g c =
    listed-place g.B.Store.numbering _ c.args.symbols.now c.requires c.loop-symbol.symbol-index c.symbol-item.result (omega arith) c.symbol-item.is

pub returns-then-eq-clause-some : goal.returns-then-eq-clause-some
returns-then-eq-clause-some g c =
    listed-hit g.B.Store.numbering _ c.args.symbols.now c.requires c.loop-symbol.symbol-index c.symbol-item.result (omega arith) c.symbol-item.is _ _ c.resolve_unchecked.ensures (sym c.eq.ensures ∙ c.if-eq.true)

pub loop-symbol-preserved : goal.loop-symbol-preserved
loop-symbol-preserved g c =
    missed-next (entry_text g.B.Store.numbering (g.B.Store.texts c.args.backend.now)) c.args.text.now c.args.symbols.now c.loop-symbol.symbol-index c.symbol-item.result (omega arith) c.symbol-item.is
    (listed-miss g.B.Store.numbering _ c.args.symbols.now c.requires c.loop-symbol.symbol-index c.symbol-item.result (omega arith) c.symbol-item.is _ _ c.resolve_unchecked.ensures (sym c.eq.ensures ∙ c.if-eq.false))
    c.loop-symbol.invariant

pub returns-clause-none : goal.returns-clause-none
returns-clause-none g c =
    missed-all (entry_text g.B.Store.numbering (g.B.Store.texts c.args.backend.now)) c.args.text.now c.args.symbols.now c.loop-symbol.symbol-index (omega arith) c.requires c.loop-symbol.invariant
