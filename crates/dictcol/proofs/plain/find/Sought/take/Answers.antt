use Rattle.std.proofs.Common.{rules, ℕ, ◌≡◌, ◌+◌, ◌≤◌, ◌++◌, ◌∷◌, [], Ok, None, Some, get_or, length, refl, sym, ap, ap₂, ◌∙◌, arith}
use Rattle.std.specs.Prelude.{IsSome, slice_set}
use Rattle.std.proofs.lemmas.List.{length_push}
use Rattle.string_interner.specs.Text.{first}
use Rattle.string_interner.proofs.Lemmas.Texts.First.{first_none}
use Rattle.string_column.specs.Entries.{FindsIndex}
use Rattle.dictcol.specs.Get.{numbers_of}
use Rattle.dictcol.proofs.Sought.{comes-first, each-number, has-number, known-entry, no-entry, none-sought}
use Rattle.dictcol.proofs.plain.find.Sought.take.Goals as goal
use Rattle.dictcol.proofs.plain.find.Sought.take.Goals.{then-contains+in_ok-index+then-index-len+then-is_none, then-contains+in_ok-index+else-index-len, else-index-len-via-then-index-len+else-is_none, else-index-len-via-else-index-len, else-contains}

pub returns-clause-taken : goal.returns-clause-taken
returns-clause-taken g c = λ lines has.
    let old = c.args.self.now.texts in
    let line = c.args.line.now in
    let numbers = c.args.self.now.numbers.items in
    let both : (c.if-contains.self.texts ≡ old) × (c.if-contains.self.numbers.items ≡ numbers_of (lines ++ line ∷ []) old) = elim c.if-contains.branch as (λ _. (c.if-contains.self.texts ≡ c.args.self.now.texts) × (c.if-contains.self.numbers.items ≡ numbers_of (lines ++ c.args.line.now ∷ []) c.args.self.now.texts)) [
      | then-contains+in_ok-index+then-index-len+then-is_none w ↦
          let index = w.in_ok-index.index in
          let given : w.intern.result ≡ Ok w.in_ok-index.index = search rules in
          let found : FindsIndex g.B.Store.numbering old line (Ok index) w.intern.new.self = rw given at w.intern.ensures in
          let some : IsSome (first c.args.self.now.texts c.args.line.now) = search rules in
          let known = known-entry old w.intern.new.self line index some found.0 found.1 in
          let empty : get_or c.args.self.now.numbers.items w.in_ok-index.index None ≡ None = search rules in
          let put = comes-first lines line old index has.distinct known.1 (ap (λ ns. get_or ns index None) (sym has.numbers_are) ∙ empty) in
          rw w.self-is (known.0, ap₂ (λ ns (n : ℕ). slice_set ns index (Some n)) has.numbers_are has.total_is ∙ put)
      | then-contains+in_ok-index+else-index-len w ↦
          let index = w.in_ok-index.index in
          let given : w.intern.result ≡ Ok w.in_ok-index.index = search rules in
          let found : FindsIndex g.B.Store.numbering old line (Ok index) w.intern.new.self = rw given at w.intern.ensures in
          let some : IsSome (first c.args.self.now.texts c.args.line.now) = search rules in
          let known = known-entry old w.intern.new.self line index some found.0 found.1 in
          let within = each-number lines old line index known.1 in
          let same : numbers_of lines c.args.self.now.texts ≡ numbers_of (lines ++ c.args.line.now ∷ []) c.args.self.now.texts = elim w.else-index-len.branch as (λ _. numbers_of lines c.args.self.now.texts ≡ numbers_of (lines ++ c.args.line.now ∷ []) c.args.self.now.texts) [
            | else-index-len-via-then-index-len+else-is_none w' ↦
                let number = w'.index.result.now in
                let read : w'.index.result.now ≡ get_or c.args.self.now.numbers.items w.in_ok-index.index w'.index.result.now = search rules in
                let some : IsSome w'.index.result.now = search rules in
                has-number lines line old index number known.1 (read ∙ ap (λ ns. get_or ns index number) has.numbers_are) some
            | else-index-len-via-else-index-len w' ↦
                let behind : length c.args.self.now.numbers.items ≤ w.in_ok-index.index = search rules in
                absurd (omega (arith, behind, within, ap length has.numbers_are))
          ] in
          rw w.self-is (known.0, has.numbers_are ∙ same)
      | else-contains w ↦
          let none : ¬ (IsSome (first c.args.self.now.texts c.args.line.now)) = search rules in
          let apart = none-sought lines line old (λ k within. first_none old line (no-entry old line none) k [] within) in
          rw w.self-is (refl, has.numbers_are ∙ sym apart)
    ] in
    let total : c.in_ok-total.total ≡ c.args.self.now.total + 1 = search rules in
    record {
      distinct = rw both.0 has.distinct;
      numbers_are = both.1 ∙ ap (numbers_of (lines ++ line ∷ [])) (sym both.0);
      total_is = omega (arith, total, has.total_is, length_push lines line);
    }
