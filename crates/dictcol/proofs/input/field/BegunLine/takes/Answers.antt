use Rattle.std.proofs.Common.{◌≡◌, ◌-◌, ap, sym, ◌∙◌, refl, arith}
use Rattle.dictcol.proofs.Picks.{newline-picked, separator-dropped, other-dropped, seen_more, seen-first, seen-later}
use Rattle.dictcol.proofs.input.field.BegunLine.takes.Goals as goal
use Rattle.dictcol.proofs.input.field.BegunLine.takes.Goals.{then-byte-field, else-byte-field+else-self-place, in-Nothing, in_default}

pub returns-then-byte-eq10 : goal.returns-then-byte-eq10
returns-then-byte-eq10 c = newline-picked c.args.field c.args.self.now _ c.args.byte c.if-byte-eq10.true refl refl

pub returns : goal.returns
returns c =
    let old = c.args.self.now in
    let same : c.if-byte-field.self.seen ≡ old.seen = elim c.if-byte-field.branch [
      | then-byte-field w ↦ ap (λ line. line.seen) w.self-is
      | else-byte-field+else-self-place w ↦ ap (λ line. line.seen) w.self-is
    ] in
    let seen : c.match-self.self ≡ seen_more old.seen = elim c.match-self.branch [
      | in-Nothing w ↦ w.self-is ∙ seen-first c.if-byte-field.self.seen w.in-Nothing.is ∙ ap seen_more same
      | in_default w ↦ w.self-is ∙ seen-later c.if-byte-field.self.seen w.in_default.not-Nothing ∙ ap seen_more same
    ] in
    elim c.if-byte-field.branch [
      | then-byte-field w ↦
          separator-dropped c.args.field old _ c.args.byte c.if-byte-eq10.false w.if-byte-field.true (ap (λ line. line.passed) w.self-is ∙ w.saturating_add-self.ensures)
          (omega (arith, c.get-place.ensures.value, c.get-place.ensures.nonzero, c.get-place.type_inv)) seen
      | else-byte-field+else-self-place w ↦
          other-dropped c.args.field old _ c.args.byte c.if-byte-eq10.false w.if-byte-field.false (λ is. w.if-self-place.false (is ∙ ap (λ number. number - 1) (sym c.get-place.ensures.value)))
          (ap (λ line. line.passed) w.self-is) seen
    ]
