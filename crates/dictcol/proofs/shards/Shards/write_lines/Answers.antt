use Rattle.std.proofs.Common.{◌≡◌, ◌≢◌, [], ◌∷◌, ◌++◌, string_bytes, append-nil, rules, inl}
use Rattle.std.proofs.lemmas.List.{nil_from_length}
use Rattle.dictcol.specs.Lines.{lines_of}
use Rattle.dictcol.specs.Shards.{HasSharded}
use Rattle.dictcol.proofs.TextLines.{one-line}
use Rattle.dictcol.proofs.Sharded.{written-input}
use Rattle.std.proofs.lemmas.Result.{err_from_is_err_and}
use Rattle.dictcol.specs.TooMany.{IsPastCount}
use Rattle.dictcol.proofs.TooMany.{rest-refused}
use Rattle.dictcol.proofs.shards.Shards.write_lines.Goals as goal
use Rattle.dictcol.proofs.shards.Shards.write_lines.Goals.{then-not-is_empty+in_ok-add, else-not-is_empty}

pub returns-clause-written : goal.returns-clause-written
returns-clause-written g c =
    let code = g.H.TextHasher.code in
    let contents = g.W.Write.contents in
    let read = c.in_ok-rest.ensures.ok in
    let rest = string_bytes c.in_ok-rest.rest in
    written-input code contents (g.R.Read.remaining c.args.input.now) c.write_above.result c.if-not-is_empty.self c.write_above.new.self read.0 rest read.2
    (elim c.if-not-is_empty.branch as (λ _. HasSharded code contents c.if-not-is_empty.self (read.0 ++ lines_of rest)) [
      | then-not-is_empty+in_ok-add w ↦
          let some : rest ≢ [] = λ e. search rules in
          let last : w.deref.result.now ≡ rest = search rules in
          let one = one-line rest read.2.rest_plain some in
          let added : HasSharded code contents w.add.new.self (read.0 ++ rest ∷ []) = rw last at (w.in_ok-add.ensures.added read.0 read.1) in
          rw (w.self-is, one) added
      | else-not-is_empty w ↦
          let none = nil_from_length rest (search rules) in
          rw (w.self-is, none, append-nil read.0) read.1
    ]) c.write_above.ensures.same c.write_above.ensures.few

pub returns-in_err-add-clause-fault : goal.returns-in_err-add-clause-fault
returns-in_err-add-clause-fault g c =
    let read = c.in_ok-rest.ensures.ok in
    let some : string_bytes c.in_ok-rest.rest ≢ [] = λ e. search rules in
    let p = err_from_is_err_and c.from_residual-in_err-add.result c.from_residual-in_err-add.ensures.1 in
    rw (p.1, p.2) (inl (rest-refused IsPastCount (g.R.Read.remaining c.args.input.now) read.0 (string_bytes c.in_ok-rest.rest) _ read.2 some (c.in_err-add.ensures.fault read.0 read.1)))
