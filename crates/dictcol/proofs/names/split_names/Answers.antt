use Rattle.std.proofs.Common.{◌≡◌, ◌≢◌, [], ◌∷◌, ◌++◌, length, rules}
use Rattle.string_interner.specs.Extend.{texts_of}
use Rattle.dictcol.specs.Names.{names_of}
use Rattle.dictcol.proofs.TrimEnd.{last-dropped, last-kept, none-left}
use Rattle.dictcol.proofs.names.split_names.Goals as goal
use Rattle.dictcol.proofs.names.split_names.Goals.{in-Some+then-not-is_empty+in_ok-push, in-Some+else-not-is_empty, in_default}

pub returns : goal.returns
returns c =
    let list = c.args.list.now in
    let parts = c.in_ok-names.names.items in
    let rest = c.pop.new.self.items in
    elim c.match-pop.branch as (λ _. texts_of c.match-pop.names.items ≡ names_of list) [
      | in-Some+then-not-is_empty+in_ok-push w ↦
          let some : length w.in-Some.name.now ≢ 0 = λ e. search rules in
          let popped : parts ≡ rest ++ w.in-Some.name ∷ [] = search rules in
          let pushed : w.push.new.self.items ≡ rest ++ w.in-Some.name ∷ [] = search rules in
          rw (w.names-is) (last-kept list parts rest c.in_ok-names.ensures w.in-Some.name w.push.new.self.items popped some pushed)
      | in-Some+else-not-is_empty w ↦
          let empty : length w.in-Some.name.now ≡ 0 = search rules in
          let popped : parts ≡ rest ++ w.in-Some.name ∷ [] = search rules in
          rw (w.names-is) (last-dropped list parts rest c.in_ok-names.ensures w.in-Some.name popped empty)
      | in_default w ↦
          let none : length parts ≡ 0 = search rules in
          let popped : parts ≡ rest ++ [] = search rules in
          rw (w.names-is) (none-left list parts rest c.in_ok-names.ensures none popped)
    ]
