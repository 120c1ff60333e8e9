use Rattle.std.proofs.Common.{◌≡◌, ◌≢◌, [], ◌∷◌, ◌++◌, string_bytes, append-nil, rules}
use Rattle.std.proofs.lemmas.List.{nil_from_length}
use Rattle.dictcol.specs.Counts.{HasCounted}
use Rattle.dictcol.specs.Lines.{lines_of}
use Rattle.dictcol.proofs.Counted.{counted-each}
use Rattle.dictcol.proofs.Taken.{input-lines}
use Rattle.dictcol.proofs.TextLines.{one-line}
use Rattle.std.proofs.lemmas.Result.{err_from_is_err_and}
use Rattle.dictcol.specs.TooMany.{LacksCount}
use Rattle.dictcol.proofs.TooMany.{rest-refused}
use Rattle.dictcol.proofs.count.count_input.Goals as goal
use Rattle.dictcol.proofs.count.count_input.Goals.{then-not-is_empty+in_ok-add, else-not-is_empty}

pub returns-clause-ok : goal.returns-clause-ok
returns-clause-ok g c =
    let read = c.in_ok-rest.ensures.ok in
    input-lines (HasCounted c.if-not-is_empty.counts) (g.R.Read.remaining c.args.input.now) read.0 (string_bytes c.in_ok-rest.rest) read.2
    (elim c.if-not-is_empty.branch as (λ _. HasCounted c.if-not-is_empty.counts (read.0 ++ lines_of (string_bytes c.in_ok-rest.rest))) [
      | then-not-is_empty+in_ok-add w ↦
          let some : string_bytes c.in_ok-rest.rest ≢ [] = λ e. search rules in
          let last : w.deref.result.now ≡ string_bytes c.in_ok-rest.rest = search rules in
          let one = one-line (string_bytes c.in_ok-rest.rest) read.2.rest_plain some in
          let counted : HasCounted w.add.new.self (read.0 ++ string_bytes c.in_ok-rest.rest ∷ []) = rw last at (w.in_ok-add.ensures.taken read.0 read.1) in
          rw (w.counts-is, one) counted
      | else-not-is_empty w ↦
          let none = nil_from_length (string_bytes c.in_ok-rest.rest) (search rules) in
          rw (w.counts-is, none, append-nil read.0) read.1
    ])

pub returns-clause-each : goal.returns-clause-each
returns-clause-each g c =
    let read = c.in_ok-rest.ensures.ok in
    counted-each c.if-not-is_empty.counts (read.0 ++ lines_of (string_bytes c.in_ok-rest.rest))
    (elim c.if-not-is_empty.branch as (λ _. HasCounted c.if-not-is_empty.counts (read.0 ++ lines_of (string_bytes c.in_ok-rest.rest))) [
      | then-not-is_empty+in_ok-add w ↦
          let some : string_bytes c.in_ok-rest.rest ≢ [] = λ e. search rules in
          let last : w.deref.result.now ≡ string_bytes c.in_ok-rest.rest = search rules in
          let one = one-line (string_bytes c.in_ok-rest.rest) read.2.rest_plain some in
          let counted : HasCounted w.add.new.self (read.0 ++ string_bytes c.in_ok-rest.rest ∷ []) = rw last at (w.in_ok-add.ensures.taken read.0 read.1) in
          rw (w.counts-is, one) counted
      | else-not-is_empty w ↦
          let none = nil_from_length (string_bytes c.in_ok-rest.rest) (search rules) in
          rw (w.counts-is, none, append-nil read.0) read.1
    ])

pub returns-in_err-add-clause-fault : goal.returns-in_err-add-clause-fault
returns-in_err-add-clause-fault g c =
    let read = c.in_ok-rest.ensures.ok in
    let some : string_bytes c.in_ok-rest.rest ≢ [] = λ e. search rules in
    let last : c.deref.result.now ≡ string_bytes c.in_ok-rest.rest = search rules in
    let p = err_from_is_err_and c.from_residual-in_err-add.result c.from_residual-in_err-add.ensures.1 in
    rw (p.1, p.2) (rest-refused (LacksCount g.B.Store.numbering) (g.R.Read.remaining c.args.input.now) read.0 (string_bytes c.in_ok-rest.rest) _ read.2 some (rw last at (c.in_err-add.ensures.fault read.0 read.1)))
