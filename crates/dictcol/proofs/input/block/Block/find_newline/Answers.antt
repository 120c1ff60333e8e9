use Rattle.std.proofs.Common.{◌≡◌, ◌-◌, ℕ, List, Option, take, drop, None, Some, false, ap, subst, ◌∙◌}
use Rattle.std.proofs.lemmas.Slice.{between_is}
use Rattle.memchr.specs.Find.{is_byte, IsLastByte}
use Rattle.dictcol.specs.Blocks.{held}
use Rattle.dictcol.specs.Lines.{has_newline}
use Rattle.dictcol.proofs.Taken.{last-none, last-some}
use Rattle.dictcol.proofs.input.block.Block.find_newline.Goals as goal

-- what was searched is held from the start on
in-held : (all slice : List ℕ) (start end : ℕ) (found result : Option ℕ) → slice ≡ all → found ≡ result → IsLastByte (is_byte 10) (take (end - start) (drop start slice)) found
    → IsLastByte (is_byte 10) (drop start (take end all)) result
in-held all slice start end found result same is last =
    subst (λ t. IsLastByte (is_byte 10) t result) (ap (λ xs. take (end - start) (drop start xs)) same ∙ between_is all start end)
    (subst (IsLastByte (is_byte 10) (take (end - start) (drop start slice))) is last)

pub returns-in_err-at : goal.returns-in_err-at
returns-in_err-at c =
    let w = c.args.self.now in
    let last = in-held w.bytes.items c.deref.result.now c.args.start w.end c.memrchr.result None c.deref.ensures.value c.in_err-at.was c.memrchr.ensures in
    let plain : has_newline (drop c.args.start (held c.args.self.now)) ≡ false = last-none (drop c.args.start (held w)) last in
    rw c.from_residual.ensures plain

pub returns : goal.returns
returns c =
    let w = c.args.self.now in
    let last = in-held w.bytes.items c.deref.result.now c.args.start w.end c.memrchr.result (Some c.in_ok-at.at) c.deref.ensures.value c.in_ok-at.was c.memrchr.ensures in
    last-some (held w) c.args.start c.in_ok-at.at last
