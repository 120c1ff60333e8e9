use Rattle.std.proofs.Common.{rules, ◌≡◌, Ok, [], ◌∷◌, ◌++◌, length, ◌<◌, ◌≤◌, append-nil, append_assoc, refl, sym, ap, ◌∙◌, arith}
use Rattle.string_interner.specs.Extend.{fresh}
use Rattle.string_column.specs.Entries.{FindsIndex}
use Rattle.string_column.proofs.Lemmas.Rows.{known-fresh}
use Rattle.dictcol.specs.Lines.{ended_text}
use Rattle.dictcol.proofs.Counted.{index-known, index-new}
use Rattle.dictcol.proofs.HasMet.{met-more, one-fresh}
use Rattle.dictcol.proofs.distinct.DistinctLinesTakesBlocks.add.Goals as goal

pub returns-then-index-known-clause-taken : goal.returns-then-index-known-clause-taken
returns-then-index-known-clause-taken g c = λ lines has.
    let old = c.args.self.now.lines in
    let line = c.args.line.now in
    let index = c.in_ok-index.index in
    let given : c.intern.result ≡ Ok c.in_ok-index.index = search rules in
    let found : FindsIndex g.B.Store.numbering old line (Ok index) c.intern.new.self = rw given at c.intern.ensures in
    let within : index < length old = search rules in
    let known = index-known old c.intern.new.self line index found.0 found.1 within in
    let none : fresh old (line ∷ []) ≡ [] = known-fresh old index line known.0 in
    met-more _ _ lines (line ∷ []) found.1 refl (omega (arith, c.saturating_add-self.ensures))
    (sym (ap (λ texts. c.args.self.now.waiting.items ++ ended_text texts) none ∙ append-nil c.args.self.now.waiting.items)) has

pub returns-clause-taken : goal.returns-clause-taken
returns-clause-taken g c = λ lines has.
    let old = c.args.self.now.lines in
    let line = c.args.line.now in
    let waiting = c.args.self.now.waiting.items in
    let index = c.in_ok-index.index in
    let given : c.intern.result ≡ Ok c.in_ok-index.index = search rules in
    let found : FindsIndex g.B.Store.numbering old line (Ok index) c.intern.new.self = rw given at c.intern.ensures in
    let behind : length old ≤ index = search rules in
    let new = index-new old c.intern.new.self line index found.0 found.1 behind in
    let pushed : c.push_line.new.bytes.items ≡ waiting ++ line ++ 10 ∷ [] = c.in_ok-push_line.ensures.ok in
    met-more _ _ lines (line ∷ []) found.1 refl (omega (arith, c.saturating_add-self.ensures))
    (pushed ∙ append_assoc waiting line (10 ∷ []) ∙ ap (λ text. waiting ++ text) (sym (one-fresh old line new.0))) has
