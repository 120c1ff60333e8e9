use Rattle.std.proofs.Common.{◌≡◌, ◌+◌, ◌<◌, ◌≤◌, ◌∷◌, ◌++◌, [], Some, rules, eqb-true, ap, sym, subst, ◌∙◌, arith}
use Rattle.std.specs.Prelude.{◌⊎◌, All, slice_get}
use Rattle.std.proofs.lemmas.List.{append_assoc, nil_from_length}
use Rattle.std.proofs.lemmas.Option.{slice_get_within}
use Rattle.string_column.specs.Ahead.{IsListed}
use Rattle.string_column.specs.Entries.{NumbersAscend}
use Rattle.string_column.specs.Symbols.{symbols_below}
use Rattle.string_column.proofs.Lemmas.Symbols.{not-above, front-at, other-at, next-at, listed-other, none-listed-other, other-known, others-ascend, others-below, others-after}
use Rattle.string_column.proofs.symbols.SymbolList.find_or_push.Goals as goal

pub returns-then-number-self-clause-is_new : goal.returns-then-number-self-clause-is_new
returns-then-number-self-clause-is_new g c = λ below.
    let here = front-at g.S.Symbol.symbol_of c.self.inside.plain c.self.inside.others.items c.self.invariant c.to_usize-number.result c.args.symbol c.if-number-self.true c.to_usize-number.ensures.found_again in
    absurd (not-above g.S.Symbol.number c.args.self.now c.args.symbol (c.to_usize-number.result, subst (λ list. slice_get list c.to_usize-number.result ≡ Some c.args.symbol) c.self.view_is here) below)

pub returns-then-number-self-clause-index : goal.returns-then-number-self-clause-index
returns-then-number-self-clause-index g c =
    rw (← c.self.view_is) (front-at g.S.Symbol.symbol_of c.self.inside.plain c.self.inside.others.items c.self.invariant c.to_usize-number.result c.args.symbol c.if-number-self.true c.to_usize-number.ensures.found_again)

pub returns-then-is_empty-clause-listed : goal.returns-then-is_empty-clause-listed
returns-then-is_empty-clause-listed g c = λ listed.
    let above : c.self.inside.plain ≤ g.S.Symbol.number c.args.symbol = omega (arith, c.if-number-self.false, c.to_usize-number.ensures.value) in
    absurd (none-listed-other g.S.Symbol.symbol_of c.self.inside.plain c.self.inside.others.items c.self.invariant g.S.Symbol.number g.met.S.Symbol.numbered c.args.symbol above (nil_from_length c.self.inside.others.items (search rules)) (subst (λ list. IsListed list c.args.symbol) (sym c.self.view_is) listed))

pub returns-then-is_empty-clause-index : goal.returns-then-is_empty-clause-index
returns-then-is_empty-clause-index g c =
    rw c.if-number-self-2.true (next-at g.S.Symbol.symbol_of c.self.inside.plain c.self.inside.others.items c.self.invariant c.args.symbol (rw (← c.if-number-self-2.true) c.to_usize-number.ensures.found_again) (nil_from_length c.self.inside.others.items (omega (arith, eqb-true _ 0 (sym c.is_empty.ensures ∙ c.if-is_empty.true)))))

pub take_symbol-requires-clause-ascend : goal.take_symbol-requires-clause-ascend
take_symbol-requires-clause-ascend g c =
    others-ascend g.S.Symbol.symbol_of c.self.inside.plain c.self.inside.others.items c.self.invariant g.S.Symbol.number g.met.S.Symbol.numbered (subst (NumbersAscend g.S.Symbol.number) (sym c.self.view_is) c.requires.ascend)

pub take_symbol-requires-clause-known : goal.take_symbol-requires-clause-known
take_symbol-requires-clause-known g c =
    let front = symbols_below g.S.Symbol.symbol_of c.self.inside.plain in
    let others = c.self.inside.others.items in
    let above : c.self.inside.plain ≤ g.S.Symbol.number c.args.symbol = omega (arith, c.if-number-self.false, c.to_usize-number.ensures.value) in
    let known = subst (λ list. IsListed list c.args.symbol ⊎ All (λ other. g.S.Symbol.number other < g.S.Symbol.number c.args.symbol) list) (sym c.self.view_is) c.requires.known in
    let up = subst (NumbersAscend g.S.Symbol.number) (sym c.self.view_is) c.requires.ascend in
    other-known g.S.Symbol.symbol_of c.self.inside.plain c.self.inside.others.items c.self.invariant g.S.Symbol.number g.met.S.Symbol.numbered c.args.symbol above known

pub overflow_add-result : goal.overflow_add-result
overflow_add-result g c =
    let front = symbols_below g.S.Symbol.symbol_of c.self.inside.plain in
    let others = c.self.inside.others.items in
    let above : c.self.inside.plain ≤ g.S.Symbol.number c.args.symbol = omega (arith, c.if-number-self.false, c.to_usize-number.ensures.value) in
    let known = subst (λ list. IsListed list c.args.symbol ⊎ All (λ other. g.S.Symbol.number other < g.S.Symbol.number c.args.symbol) list) (sym c.self.view_is) c.requires.known in
    let up = subst (NumbersAscend g.S.Symbol.number) (sym c.self.view_is) c.requires.ascend in
    let all = others-after g.S.Symbol.symbol_of c.self.inside.plain c.self.inside.others.items c.self.invariant g.S.Symbol.number g.met.S.Symbol.numbered c.args.symbol above c.requires.fits up known c.take_symbol.new.symbols.items c.in_ok-index.ensures.listed c.in_ok-index.ensures.is_new in
    let within = slice_get_within c.take_symbol.new.symbols.items c.in_ok-index.index c.args.symbol c.in_ok-index.ensures.index in
    omega (arith, all.fits, within)

pub invariant_of-self-2 : goal.invariant_of-self-2
invariant_of-self-2 g c =
    let front = symbols_below g.S.Symbol.symbol_of c.self.inside.plain in
    let others = c.self.inside.others.items in
    let above : c.self.inside.plain ≤ g.S.Symbol.number c.args.symbol = omega (arith, c.if-number-self.false, c.to_usize-number.ensures.value) in
    let known = subst (λ list. IsListed list c.args.symbol ⊎ All (λ other. g.S.Symbol.number other < g.S.Symbol.number c.args.symbol) list) (sym c.self.view_is) c.requires.known in
    let up = subst (NumbersAscend g.S.Symbol.number) (sym c.self.view_is) c.requires.ascend in
    others-after g.S.Symbol.symbol_of c.self.inside.plain c.self.inside.others.items c.self.invariant g.S.Symbol.number g.met.S.Symbol.numbered c.args.symbol above c.requires.fits up known c.take_symbol.new.symbols.items c.in_ok-index.ensures.listed c.in_ok-index.ensures.is_new

pub returns-clause-listed : goal.returns-clause-listed
returns-clause-listed g c = λ listed.
    let front = symbols_below g.S.Symbol.symbol_of c.self.inside.plain in
    let others = c.self.inside.others.items in
    let above : c.self.inside.plain ≤ g.S.Symbol.number c.args.symbol = omega (arith, c.if-number-self.false, c.to_usize-number.ensures.value) in
    let known = subst (λ list. IsListed list c.args.symbol ⊎ All (λ other. g.S.Symbol.number other < g.S.Symbol.number c.args.symbol) list) (sym c.self.view_is) c.requires.known in
    let up = subst (NumbersAscend g.S.Symbol.number) (sym c.self.view_is) c.requires.ascend in
    ap (λ more. front ++ more) (c.in_ok-index.ensures.listed (listed-other g.S.Symbol.symbol_of c.self.inside.plain c.self.inside.others.items c.self.invariant g.S.Symbol.number g.met.S.Symbol.numbered c.args.symbol above (subst (λ list. IsListed list c.args.symbol) (sym c.self.view_is) listed))) ∙ c.self.view_is

pub returns-clause-is_new : goal.returns-clause-is_new
returns-clause-is_new g c = λ below.
    let front = symbols_below g.S.Symbol.symbol_of c.self.inside.plain in
    let others = c.self.inside.others.items in
    let above : c.self.inside.plain ≤ g.S.Symbol.number c.args.symbol = omega (arith, c.if-number-self.false, c.to_usize-number.ensures.value) in
    let known = subst (λ list. IsListed list c.args.symbol ⊎ All (λ other. g.S.Symbol.number other < g.S.Symbol.number c.args.symbol) list) (sym c.self.view_is) c.requires.known in
    let up = subst (NumbersAscend g.S.Symbol.number) (sym c.self.view_is) c.requires.ascend in
    let more = c.in_ok-index.ensures.is_new (others-below g.S.Symbol.symbol_of c.self.inside.plain c.self.inside.others.items c.self.invariant g.S.Symbol.number g.met.S.Symbol.numbered c.args.symbol (subst (All (λ other. g.S.Symbol.number other < g.S.Symbol.number c.args.symbol)) (sym c.self.view_is) below)) in
    ap (λ list. front ++ list) more ∙ sym (append_assoc front others (c.args.symbol ∷ [])) ∙ ap (λ list. list ++ c.args.symbol ∷ []) c.self.view_is

pub returns-clause-index : goal.returns-clause-index
returns-clause-index g c =
    let front = symbols_below g.S.Symbol.symbol_of c.self.inside.plain in
    let others = c.self.inside.others.items in
    let above : c.self.inside.plain ≤ g.S.Symbol.number c.args.symbol = omega (arith, c.if-number-self.false, c.to_usize-number.ensures.value) in
    let known = subst (λ list. IsListed list c.args.symbol ⊎ All (λ other. g.S.Symbol.number other < g.S.Symbol.number c.args.symbol) list) (sym c.self.view_is) c.requires.known in
    let up = subst (NumbersAscend g.S.Symbol.number) (sym c.self.view_is) c.requires.ascend in
    let all = others-after g.S.Symbol.symbol_of c.self.inside.plain c.self.inside.others.items c.self.invariant g.S.Symbol.number g.met.S.Symbol.numbered c.args.symbol above c.requires.fits up known c.take_symbol.new.symbols.items c.in_ok-index.ensures.listed c.in_ok-index.ensures.is_new in
    other-at g.S.Symbol.symbol_of c.self.inside.plain c.take_symbol.new.symbols.items all c.in_ok-index.index c.args.symbol c.in_ok-index.ensures.index
