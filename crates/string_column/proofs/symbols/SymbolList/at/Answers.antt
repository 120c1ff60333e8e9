use Rattle.std.proofs.Common.{◌≡◌, ◌+◌, ◌-◌, ◌<◌, length, refl, ap, sym, ◌∙◌, arith, Some}
use Rattle.std.specs.Prelude.{slice_get}
use Rattle.std.proofs.lemmas.Option.{slice_get_read}
use Rattle.string_column.proofs.Lemmas.Symbols.{count-of, front-at, other-at}
use Rattle.string_column.proofs.symbols.SymbolList.at.Goals as goal

pub index-requires : goal.index-requires
index-requires g c =
    omega (arith, count-of g.S.Symbol.symbol_of c.self.inside.plain c.self.inside.others.items c.self.invariant, ap length c.self.view_is, c.requires, c.if-index-self.true)

pub returns-then-index-self : goal.returns-then-index-self
returns-then-index-self g c =
    let plain = c.self.inside.plain in
    let others = c.self.inside.others.items in
    let count = count-of g.S.Symbol.symbol_of plain others c.self.invariant in
    let within : c.args.index - plain < length others = omega (arith, count, ap length c.self.view_is, c.requires, c.if-index-self.true) in
    let is : slice_get others (c.args.index - plain) ≡ Some c.index.result.now = slice_get_read others (length others) (c.args.index - plain) c.index.result.now refl within c.index.ensures in
    let back : plain + (c.args.index - plain) ≡ c.args.index = omega (arith, c.if-index-self.true) in
    rw (← c.self.view_is) (ap (slice_get _) (sym back) ∙ other-at g.S.Symbol.symbol_of plain others c.self.invariant (c.args.index - plain) c.index.result.now is)

pub returns : goal.returns
returns g c =
    rw (← c.self.view_is) (front-at g.S.Symbol.symbol_of c.self.inside.plain c.self.inside.others.items c.self.invariant c.args.index c.in-Some.symbol (omega (arith, c.if-index-self.false)) (sym c.try_from_usize.ensures ∙ c.in-Some.is))
