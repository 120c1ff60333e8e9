use Rattle.std.proofs.Common.{refl, sym}
use Rattle.string_interner.specs.LoadFactor.{seven_eighths}
use Rattle.string_interner.proofs.Lemmas.Interner.InternsInto.{into-known}
use Rattle.handles.proofs.any.guessed.intern_one.Goals as goal

pub returns-in-Some : goal.returns-in-Some
returns-in-Some g c = into-known g.B.Store.numbering seven_eighths _ _ c.args.text.now _ c.len.ensures.holds.texts (sym c.in-Some.ensures.symbol) refl
