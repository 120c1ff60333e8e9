use Rattle.std.proofs.Common.{length, ap, arith}
use Rattle.string_column.proofs.Lemmas.Symbols.{count-of}
use Rattle.string_column.proofs.symbols.SymbolList.len.Goals as goal

pub returns : goal.returns
returns g c = omega (arith, count-of g.S.Symbol.symbol_of c.self.inside.plain c.self.inside.others.items c.self.invariant, ap length c.self.view_is, c.len.ensures)
