use Rattle.std.proofs.Common.{◌≡◌, ◌+◌, ◌<◌, length, get_or, set, take, drop, sym, ap, subst, ◌∙◌, arith}
use Rattle.dictcol.specs.Field.{Picks}
use Rattle.dictcol.proofs.Picks.{behind-next, behind-put, drop-picked, put-picked}
use Rattle.dictcol.proofs.input.field.BegunLine.pick.Goals as goal
use Rattle.dictcol.proofs.input.field.BegunLine.pick.Goals.{then-takes, else-takes}

pub loop-at-preserved : goal.loop-at-preserved
loop-at-preserved c =
    let came = c.args.bytes.now in
    let at = c.loop-at.at in
    let holds = c.loop-at.invariant in
    let inside : at < length came = omega (arith, c.loop-at-test.true, holds.long) in
    elim c.if-takes.branch [
      | then-takes w ↦
          let byte = get_or c.loop-at.bytes at 0 in
          let put : take c.if-takes.kept c.if-takes.bytes ≡ take (c.loop-at.kept + 1) (set c.loop-at.bytes c.loop-at.kept byte) =
          ap (λ k. take k c.if-takes.bytes) w.kept-is ∙ ap (take (c.loop-at.kept + 1)) w.bytes-is in
          record {
            within = omega (arith, w.kept-is, holds.within);
            long = c.if-takes.auto.bytes ∙ holds.long;
            behind = ap (drop (at + 1)) w.bytes-is ∙ behind-put came c.loop-at.bytes at c.loop-at.kept inside holds.long holds.within holds.behind byte;
            picked = subst (λ kept. Picks c.args.field c.args.self.now c.takes.new.self (take (at + 1) came) kept) (sym put)
                (put-picked came c.loop-at.bytes at c.loop-at.kept inside holds.long holds.within holds.behind c.args.field c.args.self.now c.loop-at.self c.takes.new.self holds.picked w.if-takes.ensures);
          }
      | else-takes w ↦
          let kept : take c.if-takes.kept c.if-takes.bytes ≡ take c.loop-at.kept c.loop-at.bytes = ap (λ k. take k c.if-takes.bytes) w.kept-is ∙ ap (take c.loop-at.kept) w.bytes-is in
          record {
            within = omega (arith, w.kept-is, holds.within);
            long = c.if-takes.auto.bytes ∙ holds.long;
            behind = ap (drop (at + 1)) w.bytes-is ∙ behind-next came c.loop-at.bytes at c.loop-at.kept inside holds.long holds.within holds.behind;
            picked = subst (λ kept. Picks c.args.field c.args.self.now c.takes.new.self (take (at + 1) came) kept) (sym kept)
                (drop-picked came c.loop-at.bytes at c.loop-at.kept inside holds.long holds.within holds.behind c.args.field c.args.self.now c.loop-at.self c.takes.new.self holds.picked w.if-takes.ensures);
          }
    ]
