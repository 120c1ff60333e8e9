use Rattle.std.proofs.Common.{◌≡◌, length, sym}
use Rattle.std.proofs.lemmas.List.{length-map}
use Rattle.string_interner.specs.Extend.{texts_of}
use Rattle.string_column.proofs.Lemmas.Parts.{codes-are}
use Rattle.string_column.proofs.rows.Column.from_parts.Goals as goal

pub invariant_of-result : goal.invariant_of-result
invariant_of-result g c =
    let made = c.in_ok-intern_entries.ensures in
    let entries = texts_of c.args.dictionary.now in
    let long : length entries ≡ length c.args.dictionary.now = length-map c.args.dictionary.now (λ text. text.now) in
    rw made.all (record {
      codes_are = codes-are entries c.args.codes.items (rw long c.in_ok-check_codes.ensures.indexes);
      dictionary_is = sym (c.in_ok-check_codes.ensures.order c.if-branch.true entries made.distinct long);
    })

pub returns-then-branch : goal.returns-then-branch
returns-then-branch g c =
    let made = c.in_ok-intern_entries.ensures in
    let entries = texts_of c.args.dictionary.now in
    let long : length entries ≡ length c.args.dictionary.now = length-map c.args.dictionary.now (λ text. text.now) in
    (made.distinct, rw made.all (codes-are entries c.args.codes.items (rw long c.in_ok-check_codes.ensures.indexes)))
