use Rattle.std.proofs.Common.{◌≡◌, ◌++◌, drop, None, Some, ap, ◌∙◌, rules, subst}
use Rattle.std.specs.Prelude.{slice_get}
use Rattle.std.specs.List.{flat_map}
use Rattle.std.proofs.lemmas.Result.{on_ok_weaker, IfErr-weaker}
use Rattle.dictcol.specs.Lines.{behind_newline, lines_of}
use Rattle.dictcol.proofs.TextLines.{text-plain, no-rows, rows-joined}
use Rattle.dictcol.specs.Fault.{IsTakeFault}
use Rattle.dictcol.specs.TooMany.{HasRefused, LacksLine}
use Rattle.dictcol.proofs.merge.TextLines.append_joined.Goals as goal

pub returns-in_default-clause-ok : goal.returns-in_default-clause-ok
returns-in_default-clause-ok g c =
    let none : slice_get c.args.lines.now 0 ≡ None = search rules in no-rows c.args.self.now c.args.lines.now none

pub push_text-requires : goal.push_text-requires
push_text-requires g c =
    let at : slice_get c.args.lines.now 0 ≡ Some c.in-Some.first.now = search rules in text-plain c.args.lines.now 0 c.in-Some.first.now c.requires at

pub returns-clause-ok : goal.returns-clause-ok
returns-clause-ok g c =
    let at : slice_get c.args.lines.now 0 ≡ Some c.in-Some.first.now = search rules in
    let first : c.push_text.new.self ≡ c.args.self.now ++ c.in-Some.first.now = search rules in
    on_ok_weaker c.append_further.result (λ e. e ∙ ap (λ text. text ++ flat_map behind_newline (drop 1 c.args.lines.now)) first ∙ rows-joined c.args.self.now c.args.lines.now c.in-Some.first.now at) c.append_further.ensures.ok

pub returns-clause-fault : goal.returns-clause-fault
returns-clause-fault g c =
    let at : slice_get c.args.lines.now 0 ≡ Some c.in-Some.first.now = search rules in
    let first : c.push_text.new.self ≡ c.args.self.now ++ c.in-Some.first.now = search rules in
    let text = ap (λ text. text ++ flat_map behind_newline (drop 1 c.args.lines.now)) first ∙ rows-joined c.args.self.now c.args.lines.now c.in-Some.first.now at in
    IfErr-weaker c.append_further.result _ _ (λ fault. subst (λ text. IsTakeFault (HasRefused (LacksLine g.B.Store.numbering) (lines_of text)) fault) text) c.append_further.ensures.fault
