use Rattle.std.proofs.Common.{◌≡◌, ◌++◌, sym, ap, ap₂, ◌∙◌, arith, length, append_assoc, take-append-drop}
use Rattle.dictcol.proofs.Puts.{puts-piece}
use Rattle.dictcol.proofs.json_form.format.write_pieces.Goals as goal

pub loop-rest-preserved : goal.loop-rest-preserved
loop-rest-preserved g c =
    let so_far = c.loop-rest.invariant.so_far in
    let piece = c.split_at.result.0.now in
    let whole : c.loop-rest.rest.now ≡ c.split_at.result.0.now ++ c.split_at.result.1.now =
    sym (take-append-drop 8192 c.loop-rest.rest.now) ∙ sym (ap₂ (λ front back. front ++ back) c.split_at.ensures.front c.split_at.ensures.back) in
    record {
      so_far = (
        so_far.0 ++ piece,
        so_far.1 ∙ ap (λ l. so_far.0 ++ l) whole ∙ sym (append_assoc so_far.0 piece c.split_at.result.1.now),
        puts-piece _ _ _ _ _ _ _ so_far.0 piece so_far.2 c.put_escaped.ensures.bytes c.in_ok-write.ensures.puts,
      );
      room = omega (arith, ap length c.in_ok-write.ensures.empty);
    }
