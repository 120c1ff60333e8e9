use Rattle.std.proofs.Common.{◌≡◌, ◌+◌, ◌-◌, ◌≤◌, take, drop, sym, ap, ◌∙◌, arith}
use lib.Seq.{paste}
use Rattle.std.proofs.lemmas.List.{length-take-le, length-drop, drop-take}
use Rattle.std.proofs.lemmas.List.Edits.{take-paste}
use Rattle.dictcol.proofs.input.block.Block.drop_front.Goals as goal

pub returns : goal.returns
returns c =
    let w = c.args.self.now in
    let all = w.bytes.items in
    let left = w.end - c.args.count in
    let within : c.args.count ≤ w.end = omega (arith, c.requires, length-take-le w.end all w.within) in
    let parts : c.args.count + left ≡ w.end = omega arith in
    let same : left ≡ 0 + left = omega arith in
    ap (take left) c.copy_within.ensures.items ∙ ap (λ k. take k (paste all 0 (drop c.args.count all) left)) same
    ∙ take-paste all 0 (drop c.args.count all) left (omega arith) (omega (arith, length-drop c.args.count all, w.within))
    ∙ sym (drop-take c.args.count left all) ∙ ap (λ k. drop c.args.count (take k all)) parts
