use Rattle.std.proofs.Common.{◌≡◌, ◌<◌, ◌≤◌, ◌++◌, ◌∷◌, [], length, take, drop, w32, sym, ap, ap₂, ◌∙◌, rules}
use Rattle.std.specs.Int.{from_le_bytes}
use Rattle.std.proofs.lemmas.List.{append-nil, append_assoc}
use Rattle.dictcol.specs.Plain.{codes_in}
use Rattle.dictcol.proofs.HeldRows.{codes-end, codes-next}
use Rattle.dictcol.proofs.plain.npy.list_numbers.Goals as goal

pub numbers-preserved : goal.numbers-preserved
numbers-preserved c =
    let number = c.from_le_bytes.result in
    let enough : 4 ≤ length c.numbers.rest.now = search rules in
    let first : c.in-Some.first.now ≡ take 4 c.numbers.rest.now = search rules in
    let behind : c.in-Some.behind.now ≡ drop 4 c.numbers.rest.now = search rules in
    let is : c.from_le_bytes.result ≡ from_le_bytes w32 c.in-Some.first.now = c.from_le_bytes.ensures in
    let put : c.push.new.self.items ≡ c.numbers.numbers.items ++ c.from_le_bytes.result ∷ [] = search rules in
    let next = codes-next c.numbers.rest.now enough ∙ ap₂ (λ n ns. n ∷ ns) (sym (is ∙ ap (from_le_bytes w32) first)) (ap codes_in (sym behind)) in
    c.numbers.invariant ∙ ap (λ ns. c.numbers.numbers.items ++ ns) next
    ∙ sym (append_assoc c.numbers.numbers.items (number ∷ []) (codes_in c.in-Some.behind.now)) ∙ ap (λ ns. ns ++ codes_in c.in-Some.behind.now) (sym put)

pub returns-clause-ok : goal.returns-clause-ok
returns-clause-ok c =
    let short : length c.numbers.rest.now < 4 = search rules in
    sym (c.numbers.invariant ∙ ap (λ ns. c.numbers.numbers.items ++ ns) (codes-end c.numbers.rest.now short) ∙ append-nil c.numbers.numbers.items)
