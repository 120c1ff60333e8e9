use Rattle.std.proofs.Common.{◌≡◌, None, set, refl, ap, ◌∙◌}
use Rattle.std.proofs.lemmas.List.{get_or-set_other, map-set}
use Rattle.string_interner.specs.Tagged.{code_at, code_in, symbol_in, symbols_in}
use Rattle.string_interner.specs.Words.{slots_of}
use Rattle.string_interner.proofs.Lemmas.WordSlots.{slots_of-set}
use Rattle.string_interner.proofs.dedup.words.WordSlotsLayout.unset.Goals as goal
use Rattle.string_interner.proofs.dedup.words.WordSlotsLayout.unset.Goals.{After-set}
use Rattle.string_interner.proofs.dedup.words.WordSlotsLayout.unset.Given.{Over}

emptied : (g : Over) (c : After-set g) → slots_of g.S.Symbol.symbol_of c.set.new.self ≡ set c.args.self.now c.args.at None
emptied g c =
    ap (slots_of g.S.Symbol.symbol_of) c.set.ensures ∙ slots_of-set g.S.Symbol.symbol_of c.self.inside.words c.args.at 0 None refl
    ∙ ap (λ xs. set xs c.args.at None) c.self.view_is

pub returns-clause-slots : goal.returns-clause-slots
returns-clause-slots g c = ap symbols_in (emptied g (goal.at.returns-clause-slots g c).After-set) ∙ map-set symbol_in c.args.self.now c.args.at None

pub returns-clause-others : goal.returns-clause-others
returns-clause-others g c k ne = ap (λ xs. code_at xs k) (emptied g (goal.at.returns-clause-others g c).After-set) ∙ ap code_in (get_or-set_other c.args.self.now c.args.at k None None ne)
