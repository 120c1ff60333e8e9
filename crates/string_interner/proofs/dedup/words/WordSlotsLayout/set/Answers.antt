use Rattle.std.proofs.Common.{◌≡◌, Some, None, set, arith, ap, ◌∙◌}
use Rattle.std.proofs.lemmas.List.{get_or-set_same, get_or-set_other, length-map, map-set}
use Rattle.string_interner.specs.declared.dedup.tagged.CodedSymbol.{CodedSymbol}
use Rattle.string_interner.specs.Tagged.{code_at, code_in, stored_code, symbol_in, symbols_in}
use Rattle.string_interner.specs.Words.{slots_of}
use Rattle.string_interner.proofs.Lemmas.WordSlots.{slots_of-set}
use Rattle.string_interner.proofs.dedup.words.WordSlotsLayout.set.Goals as goal
use Rattle.string_interner.proofs.dedup.words.WordSlotsLayout.set.Goals.{After-set}
use Rattle.string_interner.proofs.dedup.words.WordSlotsLayout.set.Given.{Over}

abbrev item : (g : Over) → After-set g → CodedSymbol g.row.S.Denot
item g c = record { symbol = c.args.symbol; code = stored_code c.args.code }

written : (g : Over) (c : After-set g) → slots_of g.S.Symbol.symbol_of c.set.new.self ≡ set c.args.self.now c.args.at (Some (item g c))
written g c =
    ap (slots_of g.S.Symbol.symbol_of) c.set.ensures ∙ slots_of-set g.S.Symbol.symbol_of c.self.inside.words c.args.at c.word_of.result (Some (item g c)) c.word_of.ensures
    ∙ ap (λ xs. set xs c.args.at (Some (item g c))) c.self.view_is

pub returns-clause-slots : goal.returns-clause-slots
returns-clause-slots g c = ap symbols_in (written g (goal.at.returns-clause-slots g c).After-set) ∙ map-set symbol_in c.args.self.now c.args.at _

pub returns-clause-stored : goal.returns-clause-stored
returns-clause-stored g c =
    let n = length-map c.args.self.now symbol_in in let r = c.requires in
    ap (λ xs. code_at xs c.args.at) (written g (goal.at.returns-clause-stored g c).After-set) ∙ ap code_in (get_or-set_same c.args.self.now c.args.at _ None (omega arith))

pub returns-clause-others : goal.returns-clause-others
returns-clause-others g c k ne = ap (λ xs. code_at xs k) (written g (goal.at.returns-clause-others g c).After-set) ∙ ap code_in (get_or-set_other c.args.self.now c.args.at k _ None ne)
