use Rattle.std.proofs.Common.{◌≡◌, ◌==◌, ◌-◌, ◌*◌, ◌&&◌, length, take, drop, refl, sym, ap, subst, ◌∙◌, arith}
use Rattle.std.specs.Prelude.{slice_range}
use Rattle.std.specs.Io.KnownBytes.{Appends}
use Rattle.std.proofs.lemmas.List.{length-drop, take_all}
use Rattle.std.proofs.lemmas.Result.{on_ok_weaker}
use Rattle.dictcol.specs.Plain.{part_text, plain_text, rows_in, AreRows}
use Rattle.dictcol.proofs.HeldRows.{rows-long, rows-part}
use Rattle.dictcol.proofs.plain.held.HeldRows.write_part.Goals as goal
use Rattle.dictcol.proofs.plain.held.HeldRows.write_part.Goals.{then-self, else-self}

pub overflow_mul-part : goal.overflow_mul-part
overflow_mul-part g c =
    let inside = c.self.inside in
    let long = rows-long inside.dictionary.items inside.bounds.items (drop 128 inside.numbers.items) _ c.self.invariant.1 in
    let same = ap length c.deref.ensures.value in
    let many = ap (λ v. length v.0) c.self.view_is in
    omega (arith, long, same, many, length-drop 128 inside.numbers.items, c.deref.type_inv.0, c.requires.0, c.requires.1)

pub overflow_mul-part-2 : goal.overflow_mul-part-2
overflow_mul-part-2 g c =
    let inside = c.self.inside in
    let long = rows-long inside.dictionary.items inside.bounds.items (drop 128 inside.numbers.items) _ c.self.invariant.1 in
    let same = ap length c.deref.ensures.value in
    let many = ap (λ v. length v.0) c.self.view_is in
    omega (arith, long, same, many, length-drop 128 inside.numbers.items, c.deref.type_inv.0, c.requires.1)

pub slice_bounds-part-end : goal.slice_bounds-part-end
slice_bounds-part-end g c =
    let inside = c.self.inside in
    let long = rows-long inside.dictionary.items inside.bounds.items (drop 128 inside.numbers.items) _ c.self.invariant.1 in
    let same = ap length c.deref.ensures.value in
    let many = ap (λ v. length v.0) c.self.view_is in
    omega (arith, long, same, many, length-drop 128 inside.numbers.items, c.requires.1)

pub write_rows-requires : goal.write_rows-requires
write_rows-requires g c =
    let inside = c.self.inside in
    let many = ap (λ v. length v.0) c.self.view_is in
    let bytes : drop 128 inside.numbers.items ≡ take (length c.deref.result.now - 128) (drop 128 c.deref.result.now) =
    ap (drop 128) (sym c.deref.ensures.value) ∙ sym (take_all (length c.deref.result.now - 128) (drop 128 c.deref.result.now) (omega (arith, length-drop 128 c.deref.result.now))) in
    let rows = rows_in inside.dictionary.items (drop 128 inside.numbers.items) in
    let part = rows-part inside.dictionary.items inside.bounds.items (drop 128 inside.numbers.items) rows c.args.start c.args.end c.self.invariant.1 c.requires.0 (omega (arith, many, c.requires.1)) in (
      slice_range rows c.args.start c.args.end,
      rw (c.deref-2.ensures.value, c.deref-3.ensures.value) (subst (λ bs. AreRows inside.dictionary.items inside.bounds.items (slice_range bs (4 * c.args.start) (4 * c.args.end)) (slice_range rows c.args.start c.args.end)) bytes part),
    )

pub returns-clause-written : goal.returns-clause-written
returns-clause-written g c =
    let inside = c.self.inside in
    let many = ap (λ v. length v.0) c.self.view_is in
    let bytes : drop 128 inside.numbers.items ≡ take (length c.deref.result.now - 128) (drop 128 c.deref.result.now) =
    ap (drop 128) (sym c.deref.ensures.value) ∙ sym (take_all (length c.deref.result.now - 128) (drop 128 c.deref.result.now) (omega (arith, length-drop 128 c.deref.result.now))) in
    let rows = rows_in inside.dictionary.items (drop 128 inside.numbers.items) in
    let part = rows-part inside.dictionary.items inside.bounds.items (drop 128 inside.numbers.items) rows c.args.start c.args.end c.self.invariant.1 c.requires.0 (omega (arith, many, c.requires.1)) in
    let are : AreRows c.deref-2.result.now c.deref-3.result.now (slice_range (take (length c.deref.result.now - 128) (drop 128 c.deref.result.now)) (4 * c.args.start) (4 * c.args.end)) (slice_range rows c.args.start c.args.end) =
    rw (c.deref-2.ensures.value, c.deref-3.ensures.value) (subst (λ bs. AreRows inside.dictionary.items inside.bounds.items (slice_range bs (4 * c.args.start) (4 * c.args.end)) (slice_range rows c.args.start c.args.end)) bytes part) in
    let cut : c.if-self.is_cut ≡ (inside.is_cut && (c.args.end == length rows)) = elim c.if-self.branch [
      | then-self w ↦ let len : w.len.result ≡ length rows = w.len.ensures ∙ sym many in rw (w.is_cut-is, w.if-self.true, len) refl
      | else-self w ↦ rw (w.is_cut-is, w.if-self.false) refl
    ] in
    let text : plain_text (slice_range rows c.args.start c.args.end) c.if-self.is_cut ≡ part_text c.args.self.now.0 c.args.self.now.1 c.args.start c.args.end =
    ap (plain_text (slice_range rows c.args.start c.args.end)) cut ∙ ap (λ v. part_text v.0 v.1 c.args.start c.args.end) c.self.view_is in
    on_ok_weaker c.write_rows.result (λ appends. subst (Appends (g.W.Write.contents c.args.output.now) (g.W.Write.contents c.write_rows.new.output)) text appends) (c.write_rows.ensures.written (slice_range rows c.args.start c.args.end) are)
