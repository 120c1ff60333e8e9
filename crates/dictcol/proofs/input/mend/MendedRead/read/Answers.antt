use Rattle.std.proofs.Common.{◌≡◌, [], length, take, drop, Some, refl, ap, ◌∙◌, arith}
use Rattle.std.proofs.lemmas.List.{nil_from_length, length-drop}
use Rattle.dictcol.specs.Mended.{mended_left}
use Rattle.dictcol.proofs.MendedLeft.{ready-given, all-given, given-part}
use Rattle.dictcol.proofs.input.mend.MendedRead.read.Goals as goal
use Rattle.dictcol.proofs.input.mend.MendedRead.read.Goals.{then-self-len-via-then-self-len, then-self-len-via-else-self-len+then-self}

pub returns-then-self-len-clause-bytes : goal.returns-then-self-len-clause-bytes
returns-then-self-len-clause-bytes g c =
    let it = c.loop.self in
    let how = c.in-Some.mending in
    let start = mended_left c.args.self.now in
    let is : it.mending ≡ Some how = c.loop.invariant.same ∙ c.in-Some.is in
    let count = c.give.result in
    let end = c.give.new.given in
    let came = take count c.give.new.buf in
    let ready = it.ready.items in
    let lent = c.deref.result.now in
    let given = given-part ready lent c.give.new.buf it.given end count c.deref.ensures.value c.give.ensures.bytes c.give.ensures.moved in (
      ready-given how it _ came start is refl refl refl refl c.loop.invariant.kept given,
      λ none room. elim c.then-self-len.branch [
        | then-self-len-via-then-self-len w ↦
            absurd (omega (arith, none, room, c.give.ensures.count, c.give.ensures.room, w.if-self-len.true, c.len.ensures, ap length c.deref.ensures.value))
        | then-self-len-via-else-self-len+then-self w ↦
            let all : drop end ready ≡ [] = nil_from_length (drop end ready) (omega (arith, length-drop end ready, c.give.ensures.moved, w.if-self-len.false, c.len.ensures)) in
            all-given how it _ came start is refl refl refl refl c.loop.invariant.kept given w.if-self.true all
      ],
    )
