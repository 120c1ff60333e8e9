use Rattle.std.proofs.Common.{rules, arith, refl, sym, Ok, ◌∙◌, ◌+◌, drop, get_or}
use Rattle.std.proofs.lemmas.List.{drop_all, drop_more}
use Rattle.string_interner.proofs.Lemmas.Backend.Numbering.{numbered}
use Rattle.string_interner.proofs.Lemmas.Interner.StandsFor.{numbers_in_order}
use Rattle.string_column.proofs.Lemmas.Ahead.{some-none, some-symbol, some-stopped, some-next, some-fits, some-more, some-all, taken-within}
use Rattle.string_column.proofs.dictionary.take_numbers.Goals as goal

pub loop-at-init : goal.loop-at-init
loop-at-init g c = λ front entries texts ahead. some-none g.B.Store.numbering front entries texts c.args.codes.now.items c.args.numbers.now c.args.symbols.now ahead

pub unreachable-requires : goal.unreachable-requires
unreachable-requires g c =
    let are = numbered g.B.Store.numbering g.met.B.Store.symbols g.met.B.Symbol.Symbol.numbered in
    let numbers = c.args.numbers.now in let at = c.loop-at.at in
    some-symbol g.B.Store.numbering are (numbers_in_order g.B.Store.numbering are g.met.B.Store.grows) c.requires.0 c.requires.1 c.requires.2 c.args.codes.now.items (drop at numbers) c.loop-at.symbols c.loop-at.codes.items
    (get_or numbers at 0) (drop (at + 1) numbers) (drop_more numbers at 0 c.loop-at-test.true) (rw g.met.B.Store.symbols.0 (sym c.try_from_usize.ensures ∙ c.in_default.is))
    (c.loop-at.invariant c.requires.0 c.requires.1 c.requires.2 c.requires.3)

pub returns-in_err-reserve : goal.returns-in_err-reserve
returns-in_err-reserve g c = λ front entries texts ahead.
    let numbers = c.args.numbers.now in let at = c.loop-at.at in
    rw c.reserve.ensures.items (some-stopped g.B.Store.numbering front entries texts c.args.codes.now.items (drop at numbers) c.loop-at.symbols c.loop-at.codes.items
    c.from_residual.result c.in_err-reserve.field-0.0 (get_or numbers at 0) (drop (at + 1) numbers) (search rules) (drop_more numbers at 0 c.loop-at-test.true) (c.loop-at.invariant front entries texts ahead))

pub find_or_push-requires-clause-ascend : goal.find_or_push-requires-clause-ascend
find_or_push-requires-clause-ascend g c =
    let are = numbered g.B.Store.numbering g.met.B.Store.symbols g.met.B.Symbol.Symbol.numbered in
    let numbers = c.args.numbers.now in let at = c.loop-at.at in
    rw (← g.met.B.Store.symbols.1) (some-next g.B.Store.numbering are (numbers_in_order g.B.Store.numbering are g.met.B.Store.grows) c.requires.0 c.requires.1 c.requires.2 c.args.codes.now.items (drop at numbers) c.loop-at.symbols c.loop-at.codes.items
    (get_or numbers at 0) (drop (at + 1) numbers) c.in-Some.symbol (drop_more numbers at 0 c.loop-at-test.true) (rw g.met.B.Store.symbols.0 (sym c.try_from_usize.ensures ∙ c.in-Some.is))
    (c.loop-at.invariant c.requires.0 c.requires.1 c.requires.2 c.requires.3)).0

pub find_or_push-requires-clause-known : goal.find_or_push-requires-clause-known
find_or_push-requires-clause-known g c =
    let are = numbered g.B.Store.numbering g.met.B.Store.symbols g.met.B.Symbol.Symbol.numbered in
    let numbers = c.args.numbers.now in let at = c.loop-at.at in
    rw (← g.met.B.Store.symbols.1) (some-next g.B.Store.numbering are (numbers_in_order g.B.Store.numbering are g.met.B.Store.grows) c.requires.0 c.requires.1 c.requires.2 c.args.codes.now.items (drop at numbers) c.loop-at.symbols c.loop-at.codes.items
    (get_or numbers at 0) (drop (at + 1) numbers) c.in-Some.symbol (drop_more numbers at 0 c.loop-at-test.true) (rw g.met.B.Store.symbols.0 (sym c.try_from_usize.ensures ∙ c.in-Some.is))
    (c.loop-at.invariant c.requires.0 c.requires.1 c.requires.2 c.requires.3)).1

pub find_or_push-requires-clause-fits : goal.find_or_push-requires-clause-fits
find_or_push-requires-clause-fits g c =
    let are = numbered g.B.Store.numbering g.met.B.Store.symbols g.met.B.Symbol.Symbol.numbered in
    let numbers = c.args.numbers.now in let at = c.loop-at.at in
    rw (← g.met.B.Store.symbols.1) (some-fits g.B.Store.numbering are (numbers_in_order g.B.Store.numbering are g.met.B.Store.grows) g.met.B.Store.grows c.requires.0 c.requires.1 c.requires.2 c.args.codes.now.items (drop at numbers) c.loop-at.symbols c.loop-at.codes.items
    (get_or numbers at 0) (drop (at + 1) numbers) c.in-Some.symbol (drop_more numbers at 0 c.loop-at-test.true) (rw g.met.B.Store.symbols.0 (sym c.try_from_usize.ensures ∙ c.in-Some.is))
    (c.loop-at.invariant c.requires.0 c.requires.1 c.requires.2 c.requires.3))

pub returns-in_err-index : goal.returns-in_err-index
returns-in_err-index g c = λ front entries texts ahead.
    let numbers = c.args.numbers.now in let at = c.loop-at.at in
    rw (c.reserve.ensures.items, c.in_err-index.ensures.err) (some-stopped g.B.Store.numbering front entries texts c.args.codes.now.items (drop at numbers) c.loop-at.symbols c.loop-at.codes.items
    c.from_residual-in_err-index.result c.in_err-index.field-0.0 (get_or numbers at 0) (drop (at + 1) numbers) (search rules) (drop_more numbers at 0 c.loop-at-test.true) (c.loop-at.invariant front entries texts ahead))

pub push_reserved-requires-clause-within : goal.push_reserved-requires-clause-within
push_reserved-requires-clause-within g c =
    let are = numbered g.B.Store.numbering g.met.B.Store.symbols g.met.B.Symbol.Symbol.numbered in
    let numbers = c.args.numbers.now in let at = c.loop-at.at in
    let known = some-next g.B.Store.numbering are (numbers_in_order g.B.Store.numbering are g.met.B.Store.grows) c.requires.0 c.requires.1 c.requires.2 c.args.codes.now.items (drop at numbers) c.loop-at.symbols c.loop-at.codes.items
    (get_or numbers at 0) (drop (at + 1) numbers) c.in-Some.symbol (drop_more numbers at 0 c.loop-at-test.true) (rw g.met.B.Store.symbols.0 (sym c.try_from_usize.ensures ∙ c.in-Some.is))
    (c.loop-at.invariant c.requires.0 c.requires.1 c.requires.2 c.requires.3) in
    let upto = taken-within g.B.Store.numbering c.loop-at.symbols c.find_or_push.new.self c.in-Some.symbol c.in_ok-index.index known.1
    c.in_ok-index.ensures.listed (rw g.met.B.Store.symbols.1 c.in_ok-index.ensures.is_new) c.in_ok-index.ensures.index in
    let limit = c.in_ok-reserve.ensures.ok.1 in omega (arith, upto, limit)

pub loop-at-preserved : goal.loop-at-preserved
loop-at-preserved g c = λ front entries texts ahead.
    let are = numbered g.B.Store.numbering g.met.B.Store.symbols g.met.B.Symbol.Symbol.numbered in
    let numbers = c.args.numbers.now in let at = c.loop-at.at in
    rw (c.push_reserved.ensures.items, c.reserve.ensures.items) (some-more g.B.Store.numbering are (numbers_in_order g.B.Store.numbering are g.met.B.Store.grows) front entries texts c.args.codes.now.items (drop at numbers) c.loop-at.symbols c.loop-at.codes.items
    (get_or numbers at 0) (drop (at + 1) numbers) c.in-Some.symbol c.find_or_push.new.self c.in_ok-index.index (drop_more numbers at 0 c.loop-at-test.true)
    (rw g.met.B.Store.symbols.0 (sym c.try_from_usize.ensures ∙ c.in-Some.is)) c.in_ok-index.ensures.listed (rw g.met.B.Store.symbols.1 c.in_ok-index.ensures.is_new) c.in_ok-index.ensures.index (c.loop-at.invariant front entries texts ahead))

pub returns : goal.returns
returns g c = λ front entries texts ahead.
    some-all g.B.Store.numbering front entries texts c.args.codes.now.items (drop c.loop-at.at c.args.numbers.now) c.loop-at.symbols c.loop-at.codes.items (Ok tt) refl (drop_all c.loop-at.at c.args.numbers.now c.loop-at-test.false) (c.loop-at.invariant front entries texts ahead)
