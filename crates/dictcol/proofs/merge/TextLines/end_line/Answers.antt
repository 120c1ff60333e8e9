use Rattle.std.proofs.Common.{◌≡◌, ◌++◌, ◌∷◌, [], string_bytes, subst, rules}
use Rattle.dictcol.specs.Fault.{IsTakeFault, intern_fault}
use Rattle.dictcol.specs.Lines.{lines_of}
use Rattle.dictcol.specs.TooMany.{HasRefused, LacksLine}
use Rattle.dictcol.proofs.TooMany.{end-refused}
use Rattle.dictcol.proofs.merge.TextLines.end_line.Goals as goal

pub returns-in-Err-clause-fault : goal.returns-in-Err-clause-fault
returns-in-Err-clause-fault g c =
    let numbering = g.B.Store.numbering in
    let lines = c.self.inside.lines in
    let rest = string_bytes c.self.inside.rest in
    let last : c.deref.result.now ≡ string_bytes c.self.inside.rest = search rules in
    rw c.of_intern.ensures.value (subst (λ text. IsTakeFault (HasRefused (LacksLine numbering) (lines_of (text ++ 10 ∷ []))) (intern_fault c.in-Err.error)) c.self.view_is
    (end-refused numbering lines rest c.in-Err.error c.self.invariant.0 c.self.invariant.1 (rw last at c.in-Err.ensures).0))
