use Rattle.std.proofs.Common.{◌≡◌, ℕ, ◌/◌, ◌%◌, ◌^◌, false, true, cond, eqb, get_or, map, sym, ap, ◌∙◌, arith, w8}
use lib.Lanes.{chunk}
use Rattle.std.proofs.lemmas.Simd.{length-chunk, get_or-chunk, bitmask_splat, bit_mask_l}
use Rattle.std.proofs.lemmas.List.{get_or-map}
use Rattle.std.proofs.lemmas.Bool.Decides.{nat_tests}
use Rattle.string_interner.proofs.dedup.tagged.tags.lanes_with.Goals as goal

pub returns : goal.returns
returns c k l zero e =
    let v = chunk c.args.at 16 c.args.tags.now in let b = c.args.byte in
    let long = length-chunk c.args.at 16 c.args.tags.now c.requires in
    let hits = bitmask_splat w8 eqb v 16 b long (omega arith) in
    let bit = bit_mask_l (map (λ x. eqb x b) v) k in
    let lane : get_or v k 0 ≡ b = get_or-chunk c.args.at 16 c.args.tags.now k 0 l ∙ e in
    let test : eqb (get_or v k 0) b ≡ true = grind (arith, nat_tests) in
    let set : get_or (map (λ x. eqb x b) v) k false ≡ true = get_or-map (λ x. eqb x b) v k 0 false (omega arith) ∙ test in
    let one = ap (λ (m : ℕ). m / 2 ^ k % 2) hits ∙ bit ∙ ap (λ t. cond t 1 0) set in
    let clash : 0 ≡ 1 = sym zero ∙ one in
    omega arith
