use Rattle.std.proofs.Common.{◌≡◌, ◌<◌, [], length, take, Some, inl, inr, sym, subst, ◌∙◌, arith}
use Rattle.std.specs.Io.KnownBytes.{Consumes, IsAtEnd}
use Rattle.std.proofs.lemmas.Bool.Decides.{eqb_tells}
use Rattle.dictcol.specs.Field.{picked_left}
use Rattle.dictcol.proofs.Picks.{picked-read, picked-end, picked-all, Picks-nil}
use Rattle.dictcol.proofs.input.field.PickedRead.read.Goals as goal

pub returns-then-count-eq0-clause-bytes : goal.returns-then-count-eq0-clause-bytes
returns-then-count-eq0-clause-bytes g c =
    let start = picked_left c.args.self.now.field c.args.self.now.line (g.R.Read.remaining c.args.self.now.input) in
    let left = g.R.Read.remaining c.loop.self.input in
    let now = g.R.Read.remaining c.read-in-loop.new.self in
    let field = c.in-Some.field in
    let line = c.loop.self.line in
    let new = c.end.new.self in
    let given = take c.end.result c.end.new.buf in
    let is : c.loop.self.field ≡ Some field = c.loop.invariant.same ∙ c.in-Some.is in
    let read = c.in_ok-count.ensures.bytes in
    let nothing = subst (λ count. Consumes left now (take count c.read-in-loop.new.buf)) c.if-count-eq0.true read.0 in
    elim (eqb_tells (length c.end.new.buf) 0) [
      | inl full ↦
          let none : c.end.result ≡ 0 = omega (arith, full.1, c.end.ensures.within) in
          let same : new ≡ line = c.end.ensures.same none in
          let unread = picked-read c.loop.self.field field is line line start left now [] [] c.loop.invariant.kept nothing (Picks-nil field line) in (
            subst (λ count. Consumes start (picked_left c.loop.self.field new now) (take count c.end.new.buf)) (sym none)
                (subst (λ it. Consumes start (picked_left c.loop.self.field it now) []) (sym same) unread),
            λ zero room. absurd (omega (arith, full.1, room)),
          )
      | inr some ↦
          let room : 0 < length c.read-in-loop.new.buf = omega (arith, some.1, c.end.auto.buf) in
          let end : IsAtEnd now = read.1 c.if-count-eq0.true room in (
            picked-end c.loop.self.field field is line new start left now given c.loop.invariant.kept nothing end (c.end.ensures.ended field),
            λ zero some. picked-all c.loop.self.field field is line new now end (c.end.ensures.all room field),
          )
    ]
