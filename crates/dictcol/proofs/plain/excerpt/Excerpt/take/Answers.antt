use Rattle.std.proofs.Common.{rules, ◌≡◌, ◌≢◌, ◌+◌, ◌<◌, ◌≤◌, get_or, length, sym, ◌∙◌, arith}
use Rattle.std.proofs.lemmas.List.{get_or_read}
use Rattle.dictcol.proofs.Excerpt.{looked-at, looked-past}
use Rattle.dictcol.proofs.plain.excerpt.Excerpt.take.Goals as goal
use Rattle.dictcol.proofs.plain.excerpt.Excerpt.take.Goals.{then-self-len+then-index-self+in_ok-keep, else-self-len, else-self-len-via-then-self-len+else-index-self, else-self-len-via-else-self-len}

pub returns-clause-taken : goal.returns-clause-taken
returns-clause-taken c = λ lines has.
    let old = c.args.self.now in
    let line = c.args.line.now in
    let total : c.in_ok-total.total ≡ c.args.self.now.total + 1 = search rules in
    elim c.if-self-len.branch [
      | then-self-len+then-index-self+in_ok-keep w ↦
          let inside : c.args.self.now.met < length c.args.self.now.numbers.items = search rules in
          let read : w.index.result.now ≡ get_or c.args.self.now.numbers.items c.args.self.now.met w.index.result.now = search rules in
          let same : w.index.result.now ≡ c.args.self.now.total = search rules in
          let next = sym (get_or_read c.args.self.now.numbers.items c.args.self.now.met w.index.result.now inside read 0) ∙ same in
          rw w.self-is (looked-at old lines line has c.in_ok-total.total total w.keep.new.self w.keep.ensures.codes w.keep.ensures.numbers inside next w.in_ok-keep.ensures.met w.in_ok-keep.ensures.text w.in_ok-keep.ensures.bounds)
      | else-self-len w ↦
          let other : c.args.self.now.met < length c.args.self.now.numbers.items → get_or c.args.self.now.numbers.items c.args.self.now.met 0 ≢ c.args.self.now.total = λ inside. elim w.else-self-len.branch [
            | else-self-len-via-then-self-len+else-index-self w' ↦
                let read : w'.index.result.now ≡ get_or c.args.self.now.numbers.items c.args.self.now.met w'.index.result.now = search rules in
                let apart : w'.index.result.now ≢ c.args.self.now.total = search rules in
                λ same. apart (get_or_read c.args.self.now.numbers.items c.args.self.now.met w'.index.result.now inside read 0 ∙ same)
            | else-self-len-via-else-self-len w' ↦ (let past : length c.args.self.now.numbers.items ≤ c.args.self.now.met = search rules in absurd (omega (arith, past, inside)))
          ] in
          rw w.self-is (looked-past old lines line has c.in_ok-total.total total other)
    ]
