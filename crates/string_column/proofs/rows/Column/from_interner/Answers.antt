use Rattle.std.proofs.Common.{◌≡◌, rules, sym, subst}
use Rattle.string_interner.specs.Text.{IsDistinct}
use Rattle.string_column.proofs.Lemmas.Parts.{codes-are}
use Rattle.string_column.proofs.rows.Column.from_interner.Goals as goal

pub invariant_of-result : goal.invariant_of-result
invariant_of-result g c =
    let same : c.in_ok-entries.entries ≡ c.args.interner.texts = search rules in
    let entries = c.in_ok-entries.entries in
    let distinct : IsDistinct c.in_ok-entries.entries = subst IsDistinct (sym same) c.len.ensures.holds.texts.distinct in
    record {
      codes_are = codes-are entries c.args.codes.items (rw c.len-2.ensures at c.in_ok-check_codes.ensures.indexes);
      dictionary_is = sym (c.in_ok-check_codes.ensures.order c.if-branch.true entries distinct (sym c.len-2.ensures));
    }

pub returns-then-branch : goal.returns-then-branch
returns-then-branch g c =
    let same : c.in_ok-entries.entries ≡ c.args.interner.texts = search rules in
    let entries = c.in_ok-entries.entries in
    (c.len.ensures.holds.texts.distinct, rw (← same) (codes-are entries c.args.codes.items (rw c.len-2.ensures at c.in_ok-check_codes.ensures.indexes)))

pub encode_codes-requires-clause-distinct : goal.encode_codes-requires-clause-distinct
encode_codes-requires-clause-distinct g c =
    let same : c.in_ok-entries.entries ≡ c.args.interner.texts = search rules in
    subst IsDistinct (sym same) c.len.ensures.holds.texts.distinct

pub encode_codes-requires-clause-indexes : goal.encode_codes-requires-clause-indexes
encode_codes-requires-clause-indexes g c = rw c.len-2.ensures at c.in_ok-check_codes.ensures.indexes
