use Rattle.std.proofs.Common.{[], Ok}
use Rattle.string_interner.specs.Interner.{Interns}
use Rattle.string_interner.specs.StandsFor.{StandsFor}
use Rattle.string_interner.proofs.Lemmas.Backend.Numbering.{numbered}
use Rattle.string_interner.proofs.Lemmas.Interner.Extends.{interned-fresh}
use Rattle.string_interner.proofs.Lemmas.Interner.StandsFor.{numbers_in_order}
use Rattle.string_column.proofs.Lemmas.Ahead.{taken, taken-known, taken-at}
use Rattle.string_column.proofs.Lemmas.AreNumbered.{ascend, number-fits}
use Rattle.string_column.proofs.dictionary.Dictionary.intern.Goals as goal

pub find_or_push-requires-clause-ascend : goal.find_or_push-requires-clause-ascend
find_or_push-requires-clause-ascend g c =
    let numbering = g.B.Store.numbering in
    let are = numbered numbering g.met.B.Store.symbols g.met.B.Symbol.Symbol.numbered in
    let old = c.self.inside.interner.texts in
    rw (← g.met.B.Store.symbols.1) (ascend numbering old c.self.inside.symbols (numbers_in_order numbering are g.met.B.Store.grows old) c.self.invariant)

pub find_or_push-requires-clause-known : goal.find_or_push-requires-clause-known
find_or_push-requires-clause-known g c =
    let numbering = g.B.Store.numbering in
    let are = numbered numbering g.met.B.Store.symbols g.met.B.Symbol.Symbol.numbered in
    let old = c.self.inside.interner.texts in
    let new = c.get_or_intern.new.self.texts in
    let interned : Interns numbering old c.args.text.now (Ok c.in_ok-symbol.symbol) new = rw c.in_ok-symbol.was at c.get_or_intern.ensures.interns in
    let stands : StandsFor numbering new c.in_ok-symbol.symbol c.args.text.now = rw c.in_ok-symbol.was at c.get_or_intern.ensures.stands in
    let place = taken numbering (numbers_in_order numbering are g.met.B.Store.grows) old new c.self.inside.symbols c.args.text.now [] c.in_ok-symbol.symbol c.get_or_intern.ensures.texts.distinct c.self.invariant
    (interned-fresh numbering old c.args.text.now c.in_ok-symbol.symbol new interned) stands in
    rw (← g.met.B.Store.symbols.1) (taken-known numbering old new c.self.inside.symbols c.args.text.now [] c.in_ok-symbol.symbol place)

pub find_or_push-requires-clause-fits : goal.find_or_push-requires-clause-fits
find_or_push-requires-clause-fits g c =
    let numbering = g.B.Store.numbering in
    let are = numbered numbering g.met.B.Store.symbols g.met.B.Symbol.Symbol.numbered in
    let new = c.get_or_intern.new.self.texts in
    let stands : StandsFor numbering new c.in_ok-symbol.symbol c.args.text.now = rw c.in_ok-symbol.was at c.get_or_intern.ensures.stands in
    rw (← g.met.B.Store.symbols.1) (number-fits numbering are g.met.B.Store.grows new c.in_ok-symbol.symbol c.args.text.now c.get_or_intern.ensures.texts.valid.fits stands)

pub invariant_of-self-in-Ok : goal.invariant_of-self-in-Ok
invariant_of-self-in-Ok g c =
    let numbering = g.B.Store.numbering in
    let are = numbered numbering g.met.B.Store.symbols g.met.B.Symbol.Symbol.numbered in
    let old = c.self.inside.interner.texts in
    let new = c.get_or_intern.new.self.texts in
    let interned : Interns numbering old c.args.text.now (Ok c.in_ok-symbol.symbol) new = rw c.in_ok-symbol.was at c.get_or_intern.ensures.interns in
    let stands : StandsFor numbering new c.in_ok-symbol.symbol c.args.text.now = rw c.in_ok-symbol.was at c.get_or_intern.ensures.stands in
    let whole = interned-fresh numbering old c.args.text.now c.in_ok-symbol.symbol new interned in
    let ordered = numbers_in_order numbering are g.met.B.Store.grows in
    let place = taken numbering ordered old new c.self.inside.symbols c.args.text.now [] c.in_ok-symbol.symbol c.get_or_intern.ensures.texts.distinct c.self.invariant whole stands in
    rw whole (taken-at numbering ordered old new c.self.inside.symbols c.args.text.now [] c.in_ok-symbol.symbol c.self.invariant place c.find_or_push.new.self c.in-Ok.index
    c.in-Ok.ensures.listed (rw g.met.B.Store.symbols.1 c.in-Ok.ensures.is_new) c.in-Ok.ensures.index).0

pub returns-in-Ok : goal.returns-in-Ok
returns-in-Ok g c =
    let numbering = g.B.Store.numbering in
    let are = numbered numbering g.met.B.Store.symbols g.met.B.Symbol.Symbol.numbered in
    let old = c.self.inside.interner.texts in
    let new = c.get_or_intern.new.self.texts in
    let interned : Interns numbering old c.args.text.now (Ok c.in_ok-symbol.symbol) new = rw c.in_ok-symbol.was at c.get_or_intern.ensures.interns in
    let stands : StandsFor numbering new c.in_ok-symbol.symbol c.args.text.now = rw c.in_ok-symbol.was at c.get_or_intern.ensures.stands in
    let whole = interned-fresh numbering old c.args.text.now c.in_ok-symbol.symbol new interned in
    let ordered = numbers_in_order numbering are g.met.B.Store.grows in
    let place = taken numbering ordered old new c.self.inside.symbols c.args.text.now [] c.in_ok-symbol.symbol c.get_or_intern.ensures.texts.distinct c.self.invariant whole stands in (
      rw whole (taken-at numbering ordered old new c.self.inside.symbols c.args.text.now [] c.in_ok-symbol.symbol c.self.invariant place c.find_or_push.new.self c.in-Ok.index
          c.in-Ok.ensures.listed (rw g.met.B.Store.symbols.1 c.in-Ok.ensures.is_new) c.in-Ok.ensures.index).1,
      rw (← c.self.view_is) whole,
    )
