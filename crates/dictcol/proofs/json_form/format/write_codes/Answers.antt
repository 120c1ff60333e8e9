use Rattle.std.proofs.Common.{◌≡◌, ◌<◌, ◌+◌, ◌^◌, ◌∷◌, ◌++◌, [], All, length, take, drop, nat_lt, decimal, sym, ap, subst, ◌∙◌, arith, rules}
use Rattle.std.proofs.lemmas.Bool.{lt-ltb}
use Rattle.std.proofs.lemmas.List.{take_more, take_all, drop_more}
use Rattle.std.proofs.lemmas.List.Elements.{All-push}
use Rattle.dictcol.specs.Writes.{Puts}
use Rattle.dictcol.proofs.PlainColumns.{in-any-case}
use Rattle.dictcol.proofs.Puts.{puts-held, puts-nothing, puts-item, number-more}
use Rattle.dictcol.proofs.json_form.format.write_codes.Goals as goal
use Rattle.dictcol.proofs.json_form.format.write_codes.Goals.{then-len-ge-BLOCK+in_ok-write, else-len-ge-BLOCK}

pub loop-row-preserved : goal.loop-row-preserved
loop-row-preserved g c =
    let numbers = c.args.codes.now.items in
    let so_far = c.loop-row.invariant.so_far in
    let is_further = nat_lt 0 c.loop-row.row in
    let inside : c.loop-row.row < length c.args.codes.now.items = omega (arith, c.loop-row-test.true, c.len-row-end.ensures) in
    let first : drop c.loop-row.row c.args.codes.now.items ≡ c.at.result ∷ drop (c.loop-row.row + 1) c.args.codes.now.items =
    drop_more numbers c.loop-row.row 0 inside ∙ ap (λ n. n ∷ drop (c.loop-row.row + 1) c.args.codes.now.items) (sym c.at.ensures) in
    let room : Puts (g.W.Write.contents c.loop-row.output) c.loop-row.block (g.W.Write.contents c.if-len-ge-BLOCK.output) c.if-len-ge-BLOCK.block [] =
    elim c.if-len-ge-BLOCK.branch [ then-len-ge-BLOCK+in_ok-write w ↦ rw (w.block-is, w.output-is) w.in_ok-write.ensures.puts | else-len-ge-BLOCK w ↦ rw (w.block-is, w.output-is) (puts-nothing _ _) ] in
    let digits : c.as_bytes.result.now ≡ decimal c.at.result = c.as_bytes.ensures.value ∙ c.format.ensures.text in
    let more = take_more c.args.codes.now.items c.loop-row.row 0 inside in
    record {
      so_far = (
        _,
        rw (lt-ltb 0 (c.loop-row.row + 1) (omega arith)) (number-more is_further so_far.0 _ c.at.result _ _ so_far.1 first),
        puts-item _ _ _ _ _ _ _ _ _ so_far.0 (decimal c.at.result) is_further so_far.2 room c.put_comma.ensures (puts-held _ _ _ _ (c.put.ensures ∙ ap (λ l. c.put_comma.new.block ++ l) digits)),
      );
      small = subst (All (λ n. n < 2 ^ 64)) (sym more) (All-push (λ n. n < 2 ^ 64) (take c.loop-row.row numbers) _ c.loop-row.invariant.small (subst (λ n. n < 2 ^ 64) c.at.ensures c.at.type_inv));
    }

pub returns-clause-small : goal.returns-clause-small
returns-clause-small g c =
    let all : take c.loop-row.row c.args.codes.now.items ≡ c.args.codes.now.items = search (rules, take_all) in
    in-any-case c.append-2.result (rw all at c.loop-row.invariant.small)
