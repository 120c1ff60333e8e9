use Rattle.std.proofs.Common.{◌≡◌, [], ◌∷◌, ◌++◌, inr, ap, sym, subst, ◌∙◌, arith}
use Rattle.std.specs.Prelude.{◌<◌, All}
use Rattle.std.proofs.lemmas.List.{append_assoc, append-nil}
use Rattle.string_interner.proofs.Lemmas.Backend.Entries.{no_entry}
use Rattle.string_interner.proofs.Lemmas.Backend.Numbering.{numbered}
use Rattle.string_interner.proofs.Lemmas.Interner.StandsFor.{numbers_in_order}
use Rattle.string_column.specs.Entries.{AreNumbered}
use Rattle.string_column.proofs.Lemmas.AreNumbered.{ascend, next-greatest, numbered-push, place-below, walked-next}
use Rattle.string_column.proofs.dictionary.Dictionary.from_interner.Goals as goal

pub find_or_push-requires-clause-ascend : goal.find_or_push-requires-clause-ascend
find_or_push-requires-clause-ascend g c =
    let numbering = g.B.Store.numbering in
    let are = numbered numbering g.met.B.Store.symbols g.met.B.Symbol.Symbol.numbered in
    let (front, listed, so_far, same) = c.loop-symbol.invariant in
    rw (← g.met.B.Store.symbols.1) (ascend numbering front c.loop-symbol.symbols (numbers_in_order numbering are g.met.B.Store.grows front) listed)

pub find_or_push-requires-clause-known : goal.find_or_push-requires-clause-known
find_or_push-requires-clause-known g c =
    let numbering = g.B.Store.numbering in
    let are = numbered numbering g.met.B.Store.symbols g.met.B.Symbol.Symbol.numbered in
    let walk = c.loop-symbol.symbol-iterator in
    let (front, listed, so_far, same) = c.loop-symbol.invariant in
    let text = c.in-Some.field-0-1.now in
    let next = walked-next numbering front walk.behind walk.ahead c.next.new.self.behind c.next.new.self.ahead c.in-Some.symbol text same c.in-Some.ensures.steps in
    rw (← g.met.B.Store.symbols.1) (inr (next-greatest numbering front text c.loop-symbol.symbols c.in-Some.symbol (numbers_in_order numbering are g.met.B.Store.grows (front ++ text ∷ [])) listed next.0))

pub find_or_push-requires-clause-fits : goal.find_or_push-requires-clause-fits
find_or_push-requires-clause-fits g c =
    let numbering = g.B.Store.numbering in
    let are = numbered numbering g.met.B.Store.symbols g.met.B.Symbol.Symbol.numbered in
    let walk = c.loop-symbol.symbol-iterator in
    let (front, listed, so_far, same) = c.loop-symbol.invariant in
    let text = c.in-Some.field-0-1.now in
    let next = walked-next numbering front walk.behind walk.ahead c.next.new.self.behind c.next.new.self.ahead c.in-Some.symbol text same c.in-Some.ensures.steps in
    let below = place-below numbering are g.met.B.Store.grows front text c.next.new.self.ahead in
    let whole = ap numbering.place (ap (λ ahead. front ++ ahead) (sym next.1) ∙ so_far) in
    let fits = c.len.ensures.holds.texts.valid.fits in
    let is = (are _ c.in-Some.symbol next.0).0 in
    rw (← g.met.B.Store.symbols.1) (omega (arith, below, whole, fits, is))

pub loop-symbol-preserved : goal.loop-symbol-preserved
loop-symbol-preserved g c =
    let numbering = g.B.Store.numbering in
    let are = numbered numbering g.met.B.Store.symbols g.met.B.Symbol.Symbol.numbered in
    let walk = c.loop-symbol.symbol-iterator in
    let (front, listed, so_far, same) = c.loop-symbol.invariant in
    let text = c.in-Some.field-0-1.now in
    let next = walked-next numbering front walk.behind walk.ahead c.next.new.self.behind c.next.new.self.ahead c.in-Some.symbol text same c.in-Some.ensures.steps in
    let greatest = next-greatest numbering front text c.loop-symbol.symbols c.in-Some.symbol (numbers_in_order numbering are g.met.B.Store.grows (front ++ text ∷ [])) listed next.0 in
    let new : All (λ other. numbering.number other < numbering.number c.in-Some.symbol) c.loop-symbol.symbols → c.find_or_push.new.self ≡ c.loop-symbol.symbols ++ c.in-Some.symbol ∷ [] = rw g.met.B.Store.symbols.1 c.in_ok-find_or_push.ensures.is_new in
    let pushed = new greatest in (
      front ++ text ∷ [],
      subst (AreNumbered numbering (front ++ text ∷ [])) (sym pushed) (numbered-push numbering front text c.loop-symbol.symbols c.in-Some.symbol listed next.0),
      append_assoc front (text ∷ []) c.next.new.self.ahead ∙ ap (λ ahead. front ++ ahead) (sym next.1) ∙ so_far,
      next.2,
    )

pub invariant_of-result : goal.invariant_of-result
invariant_of-result g c =
    let numbering = g.B.Store.numbering in
    let walk = c.loop-symbol.symbol-iterator in
    let (front, listed, so_far, same) = c.loop-symbol.invariant in
    let none = no_entry numbering walk.behind walk.ahead c.in-None.ensures.steps.0 in
    let all : front ≡ c.args.interner.texts = sym (append-nil front) ∙ ap (λ ahead. front ++ ahead) (sym none) ∙ so_far in
    subst (λ texts. AreNumbered numbering texts c.loop-symbol.symbols) all listed
