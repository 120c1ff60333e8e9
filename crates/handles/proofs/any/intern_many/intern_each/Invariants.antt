use Rattle.std.proofs.Common.{◌≡◌, ◌≤◌, length}
use Rattle.handles.specs.Any.{any_of}
use Rattle.handles.specs.Kind.{numbering_in}
use Rattle.handles.specs.declared.kind.Kind.{Kind}
use Rattle.handles.specs.InternMany.{TakesFirst}
use Rattle.handles.proofs.any.intern_many.intern_each.Given as goal

-- the texts so far went in
abbrev pub invariant-loop-at : goal.invariant-loop-at
invariant-loop-at g l = record {
  fits : length (g.T.Texts.given l.texts) ≤ length l.symbols;
  takes : (kind : Kind) → numbering_in kind ≡ g.B.Store.numbering → TakesFirst (g.T.Texts.given l.texts) (any_of kind l.fn.interner, l.fn.symbols) l.at (any_of kind l.interner, l.symbols);
  done : l.done ≡ l.at;
}
