use Rattle.std.proofs.Common.{ℕ, ◌+◌, length, take, ap, ◌∙◌, arith, rules, map}
use Rattle.std.specs.Prelude.{slice_set}
use Rattle.std.proofs.lemmas.List.{length-map, length-take-le}
use Rattle.std.proofs.lemmas.Option.{slice_get_within}
use Rattle.string_column.specs.Column.{dictionary_of}
use Rattle.string_column.proofs.Lemmas.Rows.{row-read}
use Rattle.string_column.proofs.Lemmas.Counts.{count_in, counts-none, counts-step, counts-le, count-read}
use Rattle.string_column.proofs.rows.Column.counts.Goals as goal

pub loop-index-init : goal.loop-index-init
loop-index-init g c = counts-none (dictionary_of c.args.self.now) c.in_ok-counts.counts.items c.distinct.result (c.in_ok-counts.ensures.items_if_clones_equal (search rules)) c.distinct.ensures

pub index_mut-requires : goal.index_mut-requires
index_mut-requires g c =
    let found = row-read c.self.inside.dictionary c.self.inside.codes.items _ c.args.self.now c.loop-index.index c.at-code.result c.self.invariant c.self.view_is
    (omega (arith, c.loop-index-test.true, c.len-index-end.ensures)) c.at-code.ensures in
    let within = slice_get_within (dictionary_of c.args.self.now) c.at-code.result found.0 found.3 in
    omega (arith, ap length c.loop-index.invariant, length-map (dictionary_of c.args.self.now) (count_in (take c.loop-index.index c.args.self.now)))

pub overflow_add-index_mut : goal.overflow_add-index_mut
overflow_add-index_mut g c =
    let found = row-read c.self.inside.dictionary c.self.inside.codes.items _ c.args.self.now c.loop-index.index c.at-code.result c.self.invariant c.self.view_is
    (omega (arith, c.loop-index-test.true, c.len-index-end.ensures)) c.at-code.ensures in
    let within = slice_get_within (dictionary_of c.args.self.now) c.at-code.result found.0 found.3 in
    let most = counts-le (take c.loop-index.index c.args.self.now) (dictionary_of c.args.self.now) c.at-code.result c.index_mut.result.now within in
    let long = length-take-le c.loop-index.index c.args.self.now (omega (arith, c.loop-index-test.true, c.len-index-end.ensures)) in
    let read = rw c.loop-index.invariant at c.index_mut.ensures.value in
    omega (arith, c.loop-index-test.true, c.len-index-end.type_inv)

pub loop-index-preserved : goal.loop-index-preserved
loop-index-preserved g c =
    let found = row-read c.self.inside.dictionary c.self.inside.codes.items _ c.args.self.now c.loop-index.index c.at-code.result c.self.invariant c.self.view_is
    (omega (arith, c.loop-index-test.true, c.len-index-end.ensures)) c.at-code.ensures in
    let within = slice_get_within (dictionary_of c.args.self.now) c.at-code.result found.0 found.3 in
    let counts = map (count_in (take c.loop-index.index c.args.self.now)) (dictionary_of c.args.self.now) in
    let read = count-read counts c.at-code.result c.index_mut.result.now (omega (arith, length-map (dictionary_of c.args.self.now) (count_in (take c.loop-index.index c.args.self.now)))) (rw c.loop-index.invariant at c.index_mut.ensures.value) in
    rw c.loop-index.invariant (ap (λ (n : ℕ). slice_set counts c.at-code.result (n + 1)) read ∙ counts-step c.args.self.now c.loop-index.index c.at-code.result found.0 found.3 found.1)
