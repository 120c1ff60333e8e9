use Rattle.std.proofs.Common.{◌≡◌, ◌≤◌, ◌-◌, ◌/◌, ℕ, List, [], length, take, ap, arith, rules}
use Rattle.std.specs.Simd.{first_chunks}
use Rattle.std.proofs.lemmas.Grind.{common_steps}
use Rattle.std.proofs.lemmas.List.{length-take}
use Rattle.string_interner.specs.SeededHash.{first_blocks, absorb_all}
use Rattle.string_interner.proofs.hash.seeded.absorb_all.Goals as goal

no-blocks : (text : List ℕ) → length text ≤ 16 → first_blocks text ≡ []
no-blocks text few =
    let none : length (take (length text - 1) text) / 16 ≡ 0 = rw (length-take (length text - 1) text) (omega (arith, few)) in
    ap (λ count. first_chunks 16 count (take (length text - 1) text)) none

pub returns-then-len-le8 : goal.returns-then-len-le8
unfolding absorb_all
returns-then-len-le8 c = rw (c.absorb.ensures, c.short_block.ensures, no-blocks c.args.bytes.now (omega (arith, c.if-len-le8.true)))

pub returns-then-len-le16 : goal.returns-then-len-le16
unfolding absorb_all
returns-then-len-le16 c = rw (c.absorb-then-len-le16.ensures, c.last_block.ensures, no-blocks c.args.bytes.now c.if-len-le16.true)

pub returns-else-len-le16 : goal.returns-else-len-le16
unfolding absorb_all
returns-else-len-le16 c = first_of (search rules, grind (arith, common_steps))
