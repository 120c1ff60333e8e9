use Rattle.std.proofs.Common.{◌≡◌, ◌≤◌, ◌+◌, ◌++◌, ◌∷◌, [], length, drop, Some, string_bytes, ap, ◌∙◌, arith, rules, Err, IfErr, sym, subst}
use Rattle.std.specs.Prelude.{slice_get, slice_range}
use Rattle.std.specs.List.{list_any, flat_map}
use Rattle.std.proofs.lemmas.Option.{slice_get_within}
use Rattle.std.proofs.lemmas.Result.{on_ok_weaker, IfErr-weaker}
use Rattle.dictcol.specs.Lines.{has_newline, behind_newline, text_of_ended, lines_of}
use Rattle.dictcol.proofs.TextLines.{push-plain, range-plain, appends-plain, text-plain, more-rows}
use Rattle.string_interner.specs.declared.backend.InternError.{InternError}
use Rattle.dictcol.specs.Fault.{IsTakeFault, intern_fault}
use Rattle.dictcol.specs.TooMany.{HasRefused, LacksLine}
use Rattle.dictcol.proofs.TooMany.{further-rest-refused, further-row-refused}
use Rattle.dictcol.proofs.merge.TextLines.append_further.Goals as goal

pub invariant_of-self-in_err-map_err-2 : goal.invariant_of-self-in_err-map_err-2
invariant_of-self-in_err-map_err-2 g c =
    let pushed : c.push.new.self ≡ c.self.inside.lines ++ string_bytes c.self.inside.rest ∷ [] = search rules in
    let plain = ap (list_any has_newline) pushed ∙ push-plain c.self.inside.lines (string_bytes c.self.inside.rest) c.self.invariant.0 c.self.invariant.1 in
    let range = range-plain c.args.lines.now 1 c.saturating_sub-end.result c.requires in
    (appends-plain g.B.Store.numbering c.push.new.self _ c.append_range.new.self c.append_range.result c.append_range.ensures plain range, ap has_newline c.clear.ensures.bytes)

pub invariant_of-self-2 : goal.invariant_of-self-2
invariant_of-self-2 g c =
    let pushed : c.push.new.self ≡ c.self.inside.lines ++ string_bytes c.self.inside.rest ∷ [] = search rules in
    let plain = ap (list_any has_newline) pushed ∙ push-plain c.self.inside.lines (string_bytes c.self.inside.rest) c.self.invariant.0 c.self.invariant.1 in
    let range = range-plain c.args.lines.now 1 c.saturating_sub-end.result c.requires in
    (appends-plain g.B.Store.numbering c.push.new.self _ c.append_range.new.self c.append_range.result c.append_range.ensures plain range, ap has_newline c.clear.ensures.bytes)

pub push_text-requires : goal.push_text-requires
push_text-requires g c =
    let at : slice_get c.args.lines.now c.saturating_sub-end.result ≡ Some c.in-Some.last.now = search rules in
    text-plain c.args.lines.now c.saturating_sub-end.result c.in-Some.last.now c.requires at

pub returns-clause-ok : goal.returns-clause-ok
returns-clause-ok g c =
    let at : slice_get c.args.lines.now c.saturating_sub-end.result ≡ Some c.in-Some.last.now = search rules in
    let within = slice_get_within c.args.lines.now c.saturating_sub-end.result c.in-Some.last.now at in
    let some : 1 ≤ c.saturating_sub-end.result = search rules in
    let whole : c.saturating_sub-end.result + 1 ≡ length c.args.lines.now = omega (arith, within, some, c.saturating_sub-end.ensures, c.len.ensures) in
    let pushed : c.push.new.self ≡ c.self.inside.lines ++ string_bytes c.self.inside.rest ∷ [] = search rules in
    let put : c.append_range.new.self ≡ c.push.new.self ++ slice_range c.args.lines.now 1 c.saturating_sub-end.result = search rules in
    let rows = more-rows c.self.inside.lines c.args.lines.now c.append_range.new.self (string_bytes c.self.inside.rest) c.saturating_sub-end.result c.in-Some.last.now some whole at
    (put ∙ ap (λ front. front ++ slice_range c.args.lines.now 1 c.saturating_sub-end.result) pushed) in
    let view : text_of_ended c.self.inside.lines (string_bytes c.self.inside.rest) ≡ c.args.self.now = search rules in
    on_ok_weaker c.push_text.result (λ e. e ∙ ap (λ rest. text_of_ended c.append_range.new.self rest ++ c.in-Some.last.now) c.clear.ensures.bytes ∙ rows ∙ ap (λ text. text ++ flat_map behind_newline (drop 1 c.args.lines.now)) view) c.push_text.ensures.ok

pub returns-in_err-map_err-clause-fault : goal.returns-in_err-map_err-clause-fault
returns-in_err-map_err-clause-fault g c =
    let numbering = g.B.Store.numbering in
    let lines = c.self.inside.lines in
    let rest = string_bytes c.self.inside.rest in
    let at : slice_get c.args.lines.now c.saturating_sub-end.result ≡ Some c.in-Some.last.now = search rules in
    let within = slice_get_within c.args.lines.now c.saturating_sub-end.result c.in-Some.last.now at in
    let some : 1 ≤ c.saturating_sub-end.result = search rules in
    let whole : c.saturating_sub-end.result + 1 ≡ length c.args.lines.now = omega (arith, within, some, c.saturating_sub-end.ensures, c.len.ensures) in
    let last : c.deref.result.now ≡ string_bytes c.self.inside.rest = search rules in
    let refused : (error : InternError) × (c.push.result ≡ Err error) × IfErr c.from_residual.result (λ fault. fault ≡ intern_fault error) = search rules in
    let pushed = rw (refused.1, last) at c.push.ensures in
    let taking = further-rest-refused numbering lines c.args.lines.now rest c.in-Some.last.now c.saturating_sub-end.result c.self.invariant.0 c.self.invariant.1 c.requires some whole at refused.0 pushed.0 in
    let told = subst (λ text. IsTakeFault (HasRefused (LacksLine numbering) (lines_of (text ++ flat_map behind_newline (drop 1 c.args.lines.now)))) (intern_fault refused.0)) c.self.view_is taking in
    IfErr-weaker c.from_residual.result (λ fault. fault ≡ intern_fault refused.0) _
    (λ fault is. subst (IsTakeFault (HasRefused (LacksLine numbering) (lines_of (c.args.self.now ++ flat_map behind_newline (drop 1 c.args.lines.now))))) (sym is) told) refused.2

pub returns-in_err-map_err-2-clause-fault : goal.returns-in_err-map_err-2-clause-fault
returns-in_err-map_err-2-clause-fault g c =
    let numbering = g.B.Store.numbering in
    let lines = c.self.inside.lines in
    let rest = string_bytes c.self.inside.rest in
    let at : slice_get c.args.lines.now c.saturating_sub-end.result ≡ Some c.in-Some.last.now = search rules in
    let within = slice_get_within c.args.lines.now c.saturating_sub-end.result c.in-Some.last.now at in
    let some : 1 ≤ c.saturating_sub-end.result = search rules in
    let whole : c.saturating_sub-end.result + 1 ≡ length c.args.lines.now = omega (arith, within, some, c.saturating_sub-end.ensures, c.len.ensures) in
    let pushed : c.push.new.self ≡ c.self.inside.lines ++ string_bytes c.self.inside.rest ∷ [] = search rules in
    let refused : (error : InternError) × (c.append_range.result ≡ Err error) × IfErr c.from_residual-in_err-map_err-2.result (λ fault. fault ≡ intern_fault error) = search rules in
    let put = rw (refused.1, pushed) at c.append_range.ensures in
    let taking = further-row-refused numbering lines c.args.lines.now rest c.in-Some.last.now c.saturating_sub-end.result c.self.invariant.0 c.self.invariant.1 c.requires some whole at refused.0 _ put in
    let told = subst (λ text. IsTakeFault (HasRefused (LacksLine numbering) (lines_of (text ++ flat_map behind_newline (drop 1 c.args.lines.now)))) (intern_fault refused.0)) c.self.view_is taking in
    IfErr-weaker c.from_residual-in_err-map_err-2.result (λ fault. fault ≡ intern_fault refused.0) _
    (λ fault is. subst (IsTakeFault (HasRefused (LacksLine numbering) (lines_of (c.args.self.now ++ flat_map behind_newline (drop 1 c.args.lines.now))))) (sym is) told) refused.2
