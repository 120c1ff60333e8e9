use Rattle.std.proofs.Common.{◌≡◌, ◌≤◌, length, take, drop, Some, sym, subst, ◌∙◌, arith}
use Rattle.std.specs.Io.KnownBytes.{prepend_known, Keeps, IsAtEnd}
use Rattle.std.proofs.lemmas.Bool.{eq-eqb, ne_eqb}
use Rattle.dictcol.specs.Mended.{mend_text, ready_left}
use Rattle.dictcol.proofs.AreWhole.{AreWhole-last}
use Rattle.dictcol.proofs.MendedLeft.{lines-mended, rest-mended, when-ok}
use Rattle.dictcol.proofs.input.mend.Mended.mend_more.Goals as goal
use Rattle.dictcol.proofs.input.mend.Mended.mend_more.Goals.{then-count-eq0, else-count-eq0+in-Some}

pub returns-clause-kept : goal.returns-clause-kept
returns-clause-kept g c =
    let old = c.args.self.now in
    let held = c.hold_more.new.self in
    let mended = c.mend.new.self in
    let how = c.args.mending in
    let more = held.held.items in
    let whole = c.if-count-eq0.whole in
    let count = c.in_ok-count.count in
    let same = c.mend.ensures.same in
    let kept = subst (λ input. Keeps (prepend_known old.held.items (g.R.Read.remaining old.input)) (prepend_known more (g.R.Read.remaining input))) (sym same.0) c.hold_more.ensures.kept in
    let is_new : mended.mending ≡ Some how = same.1 ∙ c.hold_more.ensures.same.2 ∙ c.requires.1 in
    let done = when-ok ((ready_left mended ≡ mend_text how (take whole more)) × (mended.held.items ≡ drop whole more)) c.mend.result c.mend.ensures.ok (sym c.is_err.ensures.value ∙ c.if-is_err.false) in
    elim c.if-count-eq0.branch [
      | then-count-eq0 w ↦
          let all : length more ≤ whole = omega (arith, w.whole-is, c.in_ok-count.ensures.ok, w.if-count-eq0.true, c.len-start.ensures) in
          let end = subst (λ input. IsAtEnd (g.R.Read.remaining input)) (sym same.0) (c.in_ok-count.ensures.end w.if-count-eq0.true) in
          rest-mended how old _ more c.requires.0 c.requires.1 c.requires.2 kept is_new whole (eq-eqb count 0 w.if-count-eq0.true) done.0 all end
      | else-count-eq0+in-Some w ↦
          let lines = AreWhole-last more w.deref.result.now c.len-start.result w.in-Some.at whole w.deref.ensures.value w.in-Some.ensures.0 w.in-Some.ensures.1 w.whole-is in
          lines-mended how old _ more c.requires.0 c.requires.1 c.requires.2 kept is_new whole (ne_eqb count 0 w.if-count-eq0.false) done.0 done.1 lines
    ]
