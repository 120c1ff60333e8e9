use Rattle.std.proofs.Common.{◌≡◌, ◌∷◌, ◌++◌, [], map, sym, ap, subst, ◌∙◌}
use Rattle.std.proofs.KnownBytes.{Appends-trans}
use Rattle.std.proofs.lemmas.Result.{on_ok_weaker}
use Rattle.json.specs.Print.{escape, quoted}
use Rattle.serde_json.specs.Data.{string}
use Rattle.serde_json.specs.View.{items_of}
use Rattle.serde_json.specs.Written.{items_text}
use Rattle.string_interner.specs.Text.{Text}
use Rattle.string_interner.proofs.Lemmas.Backend.Entries.{first_entry, no_entry}
use Rattle.dictcol.specs.Writes.{Puts}
use Rattle.dictcol.proofs.Puts.{puts-nothing, puts-item, puts-string, text-more}
use Rattle.dictcol.proofs.json_form.format.write_texts.Goals as goal
use Rattle.dictcol.proofs.json_form.format.write_texts.Goals.{then-len-ge-BLOCK+in_ok-write, else-len-ge-BLOCK, then-rest-gt-PIECE+in_ok-rest, else-rest-gt-PIECE}

pub loop-text-preserved : goal.loop-text-preserved
loop-text-preserved g c =
    let so_far = c.loop-text.invariant in
    let text = c.in-Some.text.now in
    let is_further = c.loop-text.is_further in
    let first = first_entry g.B.Store.numbering _ _ _ _ _ _ c.in-Some.ensures.steps in
    let room : Puts (g.W.Write.contents c.loop-text.output) c.loop-text.block (g.W.Write.contents c.if-len-ge-BLOCK.output) c.if-len-ge-BLOCK.block [] =
    elim c.if-len-ge-BLOCK.branch [ then-len-ge-BLOCK+in_ok-write w ↦ rw (w.block-is, w.output-is) w.in_ok-write.ensures.puts | else-len-ge-BLOCK w ↦ rw (w.block-is, w.output-is) (puts-nothing _ _) ] in
    let front : (front : Text) × (c.in-Some.text.now ≡ front ++ c.if-rest-gt-PIECE.rest.now)
    × Puts (g.W.Write.contents c.if-len-ge-BLOCK.output) c.put.new.self (g.W.Write.contents c.if-rest-gt-PIECE.output) c.if-rest-gt-PIECE.block (escape front) =
    elim c.if-rest-gt-PIECE.branch [
      | then-rest-gt-PIECE+in_ok-rest w ↦ rw (w.block-is, w.output-is, w.rest-is) (let front = w.in_ok-rest.ensures.puts in (front.0, sym c.as_bytes-rest.ensures.value ∙ front.1, front.2))
      | else-rest-gt-PIECE w ↦ rw (w.block-is, w.output-is, w.rest-is) ([], sym c.as_bytes-rest.ensures.value, puts-nothing _ _)
    ] in (
      _,
      text-more is_further so_far.0 text _ _ _ so_far.1 first,
      puts-item _ _ _ _ _ _ _ _ _ so_far.0 (quoted text) is_further so_far.2 room c.put_comma.ensures
          (puts-string _ _ _ _ _ _ _ text front.0 c.if-rest-gt-PIECE.rest.now c.put.ensures front.1 front.2 c.put_escaped.ensures.bytes c.put-in-loop-text.ensures),
    )

pub returns : goal.returns
returns g c =
    let so_far = c.loop-text.invariant in
    let none = no_entry g.B.Store.numbering _ _ c.in-None.ensures.steps.0 in
    let whole = ap (λ ahead. so_far.0 ++ items_text c.loop-text.is_further (items_of (map string ahead))) (sym none) ∙ so_far.1 in
    let start = g.W.Write.contents c.args.output.now in
    let end = g.W.Write.contents c.append-2.new.output in
    on_ok_weaker c.append-2.result (λ puts. subst (λ bytes. Puts start c.args.block.now end c.append-2.new.self bytes) whole (Appends-trans _ _ _ so_far.0 (93 ∷ []) so_far.2 puts)) c.append-2.ensures.puts
