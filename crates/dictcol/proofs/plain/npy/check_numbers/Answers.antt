use Rattle.std.proofs.Common.{◌≡◌, ℕ, ◌<◌, ◌^◌, ◌≤◌, length, take, drop, get_or, w32, refl, arith, rules}
use Rattle.std.specs.Int.{from_le_bytes}
use Rattle.dictcol.proofs.PlainColumns.{next-number, no-numbers-yet, one-number, first-outside, all-numbers}
use Rattle.dictcol.proofs.plain.npy.check_numbers.Goals as goal

pub numbers-init : goal.numbers-init
numbers-init c = no-numbers-yet c.args.limit c.args.bytes.now

pub numbers-preserved : goal.numbers-preserved
numbers-preserved c =
    let number = c.from_le_bytes.result in
    let fits : c.from_le_bytes.result < 2 ^ 32 = c.from_le_bytes.type_inv in
    let within : c.from_le_bytes.result < c.args.limit = search rules in
    let enough : 4 ≤ length c.numbers.rest.now = search rules in
    let first : c.in-Some.first.now ≡ take 4 c.numbers.rest.now = search rules in
    let behind : c.in-Some.behind.now ≡ drop 4 c.numbers.rest.now = search rules in
    let is : c.from_le_bytes.result ≡ from_le_bytes w32 c.in-Some.first.now = c.from_le_bytes.ensures in
    let small : (i : ℕ) → get_or c.args.bytes.now i 0 < 256 = λ i. omega (arith, c.type_inv.bytes i) in
    let to = c.numbers.invariant in
    let next = next-number c.args.bytes.now c.numbers.rest.now c.in-Some.first.now c.in-Some.behind.now to.numbers number small to.so_far enough first behind is in
    one-number c.args.limit number c.args.bytes.now c.numbers.rest.now c.in-Some.first.now c.in-Some.behind.now to next.0 next.1 fits within

pub returns-then-from_le_bytes-limit-clause-err : goal.returns-then-from_le_bytes-limit-clause-err
returns-then-from_le_bytes-limit-clause-err c =
    let fits : c.from_le_bytes.result < 2 ^ 32 = c.from_le_bytes.type_inv in
    let above : c.args.limit ≤ c.from_le_bytes.result = search rules in
    let enough : 4 ≤ length c.numbers.rest.now = search rules in
    let first : c.in-Some.first.now ≡ take 4 c.numbers.rest.now = search rules in
    let behind : c.in-Some.behind.now ≡ drop 4 c.numbers.rest.now = search rules in
    let is : c.from_le_bytes.result ≡ from_le_bytes w32 c.in-Some.first.now = c.from_le_bytes.ensures in
    let small : (i : ℕ) → get_or c.args.bytes.now i 0 < 256 = λ i. omega (arith, c.type_inv.bytes i) in
    first-outside c.args.limit c.from_le_bytes.result c.requires.0 _ c.args.bytes.now c.numbers.rest.now c.in-Some.first.now c.in-Some.behind.now c.numbers.invariant small c.requires.1
    enough first behind is fits above refl

pub returns-clause-ok : goal.returns-clause-ok
returns-clause-ok c =
    let to = c.numbers.invariant in
    let short : length c.numbers.rest.now < 4 = search rules in
    (to.numbers, all-numbers c.args.limit c.requires.0 c.args.bytes.now c.numbers.rest.now to c.requires.1 short)
