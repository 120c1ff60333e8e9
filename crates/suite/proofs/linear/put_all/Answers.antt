use Rattle.std.proofs.Common.{refl, ◌∙◌, arith}
use Rattle.string_interner.proofs.Lemmas.Backend.Numbering.{numbered, injective}
use Rattle.suite.proofs.Listed.{put-start, put-next, put-end}
use Rattle.suite.proofs.linear.put_all.Goals as goal

pub loop-symbol-init : goal.loop-symbol-init
loop-symbol-init g c = record {
  put = rw (c.into_iter-symbol-iterator.ensures.into_iter_gives, c.iter-symbol-items.ensures, c.requires.empty) (put-start g.B.Store.numbering (numbered g.B.Store.numbering g.met.B.Store.symbols g.met.S.Symbol.numbered) (injective g.B.Store.numbering g.met.B.Store.symbols g.met.S.Symbol.injective) g.met.B.Store.grows (g.B.Store.texts c.args.backend.now));
  capacity = refl;
}

pub push_reserved-requires : goal.push_reserved-requires
push_reserved-requires g c =
    let next = put-next g.B.Store.numbering (numbered g.B.Store.numbering g.met.B.Store.symbols g.met.S.Symbol.numbered) (injective g.B.Store.numbering g.met.B.Store.symbols g.met.S.Symbol.injective) g.met.B.Store.grows (g.B.Store.texts c.args.backend.now) _ _ _ _ c.loop-symbol.symbols.items c.in-Some.symbol _ c.loop-symbol.invariant.put c.in-Some.ensures.steps in
    let less = next.0 in let count = c.loop-symbol.symbols.ok.0 in let same = c.loop-symbol.invariant.capacity in let room = c.requires.room in omega arith

pub loop-symbol-preserved : goal.loop-symbol-preserved
loop-symbol-preserved g c = record {
  put = rw c.push_reserved.ensures.items (put-next g.B.Store.numbering (numbered g.B.Store.numbering g.met.B.Store.symbols g.met.S.Symbol.numbered) (injective g.B.Store.numbering g.met.B.Store.symbols g.met.S.Symbol.injective) g.met.B.Store.grows (g.B.Store.texts c.args.backend.now) _ _ _ _ c.loop-symbol.symbols.items c.in-Some.symbol _ c.loop-symbol.invariant.put c.in-Some.ensures.steps).1;
  capacity = c.push_reserved.ensures.capacity ∙ c.loop-symbol.invariant.capacity;
}

pub returns-clause-listed : goal.returns-clause-listed
returns-clause-listed g c = (put-end g.B.Store.numbering (numbered g.B.Store.numbering g.met.B.Store.symbols g.met.S.Symbol.numbered) (injective g.B.Store.numbering g.met.B.Store.symbols g.met.S.Symbol.injective) g.met.B.Store.grows (g.B.Store.texts c.args.backend.now) _ _ c.loop-symbol.symbols.items c.loop-symbol.invariant.put c.in-None.ensures.steps.0).0

pub returns-clause-count : goal.returns-clause-count
returns-clause-count g c = (put-end g.B.Store.numbering (numbered g.B.Store.numbering g.met.B.Store.symbols g.met.S.Symbol.numbered) (injective g.B.Store.numbering g.met.B.Store.symbols g.met.S.Symbol.injective) g.met.B.Store.grows (g.B.Store.texts c.args.backend.now) _ _ c.loop-symbol.symbols.items c.loop-symbol.invariant.put c.in-None.ensures.steps.0).1
