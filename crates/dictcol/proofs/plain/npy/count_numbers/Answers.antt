use Rattle.std.proofs.Common.{◌≡◌, ◌≢◌, ◌/◌, ◌%◌, inr, rules}
use Rattle.dictcol.specs.Plain.{npy_header}
use Rattle.dictcol.proofs.PlainColumns.{no-header}
use Rattle.dictcol.proofs.plain.npy.count_numbers.Goals as goal
use Rattle.dictcol.proofs.plain.npy.count_numbers.Goals.{then-behind-ne0-via-then-behind-ne0, then-behind-ne0-via-else-behind-ne0+then-ne}

pub returns-then-behind-ne0-clause-err : goal.returns-then-behind-ne0-clause-err
returns-then-behind-ne0-clause-err c =
    let made : c.in-Ok.right.items ≡ npy_header (c.args.behind / 4) = search rules in
    let other : c.args.behind % 4 ≡ 0 → c.args.header.now ≢ c.in-Ok.right.items = λ none same.
    elim c.then-behind-ne0.branch [ then-behind-ne0-via-then-behind-ne0 w ↦ search rules | then-behind-ne0-via-else-behind-ne0+then-ne w ↦ search rules ] in
    inr (c.find_fault.ensures, no-header c.args.header.now c.in-Ok.right.items c.args.behind c.requires made other)
