use Rattle.std.proofs.Common.{◌≡◌, ◌+◌, ◌++◌, length, take, drop, sym, ap, ap₂, ◌∙◌, arith}
use Rattle.std.proofs.lemmas.List.{append_assoc, drop-drop, take-append-drop}
use Rattle.dictcol.specs.Plain.{plain_text}
use Rattle.dictcol.proofs.plain.held.HeldTextRead.read.Goals as goal

pub returns-clause-bytes : goal.returns-clause-bytes
returns-clause-bytes c =
    let text = c.make_ready.new.self in
    let ready = text.ready.items in
    let behind = plain_text (drop text.next text.rows.0) text.rows.1 in
    let count = c.give.result in
    let gave : take count c.give.new.buf ≡ take count (drop text.given ready) = c.give.ensures.bytes ∙ ap (λ bytes. take count (drop text.given bytes)) c.deref.ensures.value in
    let moved : c.give.new.given ≡ text.given + count = c.give.ensures.moved in
    let parts : drop text.given ready ≡ take count c.give.new.buf ++ drop c.give.new.given ready =
    sym (take-append-drop count (drop text.given ready)) ∙ ap₂ (λ a b. a ++ b) (sym gave) (drop-drop count text.given ready ∙ ap (λ k. drop k ready) (sym moved)) in
    let long = ap length c.deref.ensures.value in (
      sym c.in_ok-make_ready.ensures.same ∙ ap (λ bytes. bytes ++ behind) parts ∙ append_assoc (take count c.give.new.buf) (drop c.give.new.given ready) behind,
      λ none room.
          let all : text.given ≡ length ready = omega (arith, none, room, long, c.give.ensures.count, c.give.ensures.room, text.within.1) in
          ap (λ k. drop k ready ++ behind) (omega (arith, moved, none)) ∙ c.in_ok-make_ready.ensures.some all,
    )
