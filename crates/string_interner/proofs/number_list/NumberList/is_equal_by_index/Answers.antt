use Rattle.std.proofs.Common.{arith}
use Rattle.string_interner.proofs.Lemmas.Texts.Equal.{bytes_eq-same}
use Rattle.string_interner.proofs.number_list.NumberList.is_equal_by_index.Goals as goal

pub returns : goal.returns
returns c = bytes_eq-same _ _ c.loop-i.i (omega arith) (omega arith) c.loop-i.invariant
