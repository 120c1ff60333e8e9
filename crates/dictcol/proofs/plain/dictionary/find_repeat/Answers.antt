use Rattle.std.proofs.Common.{◌≡◌, ◌<◌, ◌≤◌, length, refl, sym, arith, rules}
use Rattle.std.proofs.lemmas.Slice.Zip.{AllZip-long}
use Rattle.string_column.specs.Column.{dictionary_of}
use Rattle.dictcol.proofs.IsRepeat.{own-more, own-here, own-distinct, first-repeat}
use Rattle.dictcol.proofs.PlainColumns.{as-many}
use Rattle.dictcol.proofs.plain.dictionary.find_repeat.Goals as goal

pub returns-then-distinct-len : goal.returns-then-distinct-len
returns-then-distinct-len g c =
    let many : length c.args.lines.now ≤ length (dictionary_of c.args.lines.now) = search rules in as-many c.args.lines.now many

pub loop-row-preserved : goal.loop-row-preserved
loop-row-preserved g c =
    let codes = c.codes-codes.result.now.items in
    let inside : c.loop-row.row < length c.codes-codes.result.now.items = omega (arith, c.loop-row-test.true, c.len-row-end.ensures) in
    let same : c.at.result ≡ c.loop-row.row = search rules in
    own-more codes c.loop-row.row c.loop-row.invariant ((own-here codes c.loop-row.row c.at.result inside c.at.ensures).1 same)

pub returns-then-at-row : goal.returns-then-at-row
returns-then-at-row g c =
    let lines = c.args.lines.now in
    let codes = c.codes-codes.result.now.items in
    let inside : c.loop-row.row < length c.codes-codes.result.now.items = omega (arith, c.loop-row-test.true, c.len-row-end.ensures) in
    let count = sym (AllZip-long _ codes lines c.codes-codes.ensures) in (
      c.loop-row.row,
      refl,
      first-repeat lines codes c.loop-row.row c.codes-codes.ensures c.loop-row.invariant
          (λ own. let same = (own-here codes c.loop-row.row c.at.result inside c.at.ensures).0 own in search rules) count (omega (arith, inside, count)),
    )

pub returns : goal.returns
returns g c =
    let lines = c.args.lines.now in
    let codes = c.codes-codes.result.now.items in
    let count = AllZip-long _ codes lines c.codes-codes.ensures in
    own-distinct lines codes c.loop-row.row c.codes-codes.ensures c.loop-row.invariant (omega (arith, count, c.loop-row-test.false, c.len-row-end.ensures))
