use Rattle.std.proofs.Common.{◌≡◌, ◌<◌, ◌≤◌, ◌++◌, [], ◌∷◌, Some, get_or, length, ap, sym, ◌∙◌, arith, rules}
use Rattle.std.specs.Prelude.{slice_get}
use Rattle.std.proofs.lemmas.List.{append-nil, length-map}
use Rattle.std.proofs.lemmas.Option.{slice_get_within, slice_get-get_or, same_Some}
use Rattle.string_column.specs.Column.{dictionary_of, rows_of}
use Rattle.string_column.proofs.Lemmas.Parts.{row-of}
use Rattle.string_column.proofs.Lemmas.Recodes.{range-none, recodes-none, recoded, recodes-set, next-row, refused-at, memory-refusal, same-refusal}
use Rattle.string_column.proofs.rows.Column.append_codes.Goals as goal
use Rattle.string_column.proofs.rows.Column.append_codes.Goals.{in-Some+in_ok-push_code-in-Some, in-None+in_ok-push-in-None}

pub returns-in_err-known : goal.returns-in_err-known
returns-in_err-known g c =
    let numbering = g.B.Store.numbering in
    let theirs = g.T.TextList.texts c.args.entries.now in
    let rows = rows_of theirs c.args.codes.now.items in
    let before : c.args.start < c.args.end = omega (arith, c.requires.ordered, c.if-start-end.false) in
    refused-at numbering c.args.self.now rows c.args.start c.args.start c.args.end _ c.from_residual.result c.args.self.now (omega arith) before
    (slice_get-get_or rows c.args.start [] (omega (arith, c.requires.within, length-map c.args.codes.now.items (λ code. get_or theirs code []))))
    (sym (append-nil c.args.self.now) ∙ ap (λ more. c.args.self.now ++ more) (sym (range-none rows c.args.start)))
    (memory-refusal numbering c.from_residual.result _ _ _ c.from_residual.ensures.1)

pub loop-row-init : goal.loop-row-init
loop-row-init g c =
    let theirs = g.T.TextList.texts c.args.entries.now in record {
      rows = sym (append-nil c.args.self.now) ∙ ap (λ more. c.args.self.now ++ more) (sym (range-none (rows_of theirs c.args.codes.now.items) c.args.start));
      recodes = recodes-none _ theirs c.in_ok-known.known.items c.len.result (c.in_ok-known.ensures.items_if_clones_equal (search rules)) c.len.ensures;
    }

pub index-requires : goal.index-requires
index-requires g c =
    let theirs = g.T.TextList.texts c.args.entries.now in
    let inside : c.loop-row.row < length c.args.codes.now.items = omega (arith, c.requires.within, c.loop-row-test.true) in
    let within : c.at-theirs.result < length theirs = rw c.at-theirs.ensures (c.requires.indexes c.loop-row.row 0 inside) in
    omega (arith, c.loop-row.invariant.recodes.count)

pub push_code-requires : goal.push_code-requires
push_code-requires g c =
    let theirs = g.T.TextList.texts c.args.entries.now in
    let rows = rows_of theirs c.args.codes.now.items in
    let inside : c.loop-row.row < length c.args.codes.now.items = omega (arith, c.requires.within, c.loop-row-test.true) in
    let within : c.at-theirs.result < length theirs = rw c.at-theirs.ensures (c.requires.indexes c.loop-row.row 0 inside) in
    let text = get_or theirs c.at-theirs.result [] in
    let entry : slice_get theirs c.at-theirs.result ≡ Some text = slice_get-get_or theirs c.at-theirs.result [] within in
    let row : slice_get rows c.loop-row.row ≡ Some text = row-of theirs c.args.codes.now.items c.loop-row.row c.at-theirs.result text inside c.at-theirs.ensures entry in
    slice_get_within (dictionary_of c.loop-row.self) c.in-Some.ours text
    (recoded _ theirs c.loop-row.known.items c.at-theirs.result c.in-Some.ours text c.index.result.now c.loop-row.invariant.recodes entry c.index.ensures c.in-Some.is)

pub returns-in_err-push_code-in-Some : goal.returns-in_err-push_code-in-Some
returns-in_err-push_code-in-Some g c =
    let theirs = g.T.TextList.texts c.args.entries.now in
    let rows = rows_of theirs c.args.codes.now.items in
    let inside : c.loop-row.row < length c.args.codes.now.items = omega (arith, c.requires.within, c.loop-row-test.true) in
    let within : c.at-theirs.result < length theirs = rw c.at-theirs.ensures (c.requires.indexes c.loop-row.row 0 inside) in
    let text = get_or theirs c.at-theirs.result [] in
    let entry : slice_get theirs c.at-theirs.result ≡ Some text = slice_get-get_or theirs c.at-theirs.result [] within in
    let row : slice_get rows c.loop-row.row ≡ Some text = row-of theirs c.args.codes.now.items c.loop-row.row c.at-theirs.result text inside c.at-theirs.ensures entry in
    let numbering = g.B.Store.numbering in
    refused-at numbering c.args.self.now rows c.args.start c.loop-row.row c.args.end text c.from_residual-in_err-push_code-in-Some.result c.push_code.new.self
    (omega (arith, c.loop-row.auto.row)) c.loop-row-test.true row (c.in_err-push_code-in-Some.ensures.err ∙ c.loop-row.invariant.rows)
    (memory-refusal numbering c.from_residual-in_err-push_code-in-Some.result _ _ _ c.from_residual-in_err-push_code-in-Some.ensures.1)

pub text_at-requires : goal.text_at-requires
text_at-requires g c =
    let theirs = g.T.TextList.texts c.args.entries.now in
    let inside : c.loop-row.row < length c.args.codes.now.items = omega (arith, c.requires.within, c.loop-row-test.true) in
    let within : c.at-theirs.result < length theirs = rw c.at-theirs.ensures (c.requires.indexes c.loop-row.row 0 inside) in
    within

pub returns-in_err-push-in-None : goal.returns-in_err-push-in-None
returns-in_err-push-in-None g c =
    let theirs = g.T.TextList.texts c.args.entries.now in
    let rows = rows_of theirs c.args.codes.now.items in
    let inside : c.loop-row.row < length c.args.codes.now.items = omega (arith, c.requires.within, c.loop-row-test.true) in
    let within : c.at-theirs.result < length theirs = rw c.at-theirs.ensures (c.requires.indexes c.loop-row.row 0 inside) in
    let text = get_or theirs c.at-theirs.result [] in
    let entry : slice_get theirs c.at-theirs.result ≡ Some text = slice_get-get_or theirs c.at-theirs.result [] within in
    let row : slice_get rows c.loop-row.row ≡ Some text = row-of theirs c.args.codes.now.items c.loop-row.row c.at-theirs.result text inside c.at-theirs.ensures entry in
    let numbering = g.B.Store.numbering in
    let refused = c.in_err-push-in-None.ensures in
    refused-at numbering c.args.self.now rows c.args.start c.loop-row.row c.args.end text c.from_residual-in_err-push-in-None.result c.push.new.self
    (omega (arith, c.loop-row.auto.row)) c.loop-row-test.true row (refused.1 ∙ c.loop-row.invariant.rows)
    (same-refusal numbering c.from_residual-in_err-push-in-None.result c.loop-row.self c.push.new.self c.text_at.result.now text c.in_err-push-in-None.field-0.0
    c.from_residual-in_err-push-in-None.ensures.1 refused.0 refused.1 (same_Some _ _ (sym c.text_at.ensures ∙ entry)))

pub index_mut-requires : goal.index_mut-requires
index_mut-requires g c =
    let theirs = g.T.TextList.texts c.args.entries.now in
    let inside : c.loop-row.row < length c.args.codes.now.items = omega (arith, c.requires.within, c.loop-row-test.true) in
    let within : c.at-theirs.result < length theirs = rw c.at-theirs.ensures (c.requires.indexes c.loop-row.row 0 inside) in
    omega (arith, c.loop-row.invariant.recodes.count)

pub loop-row-preserved : goal.loop-row-preserved
loop-row-preserved g c =
    let theirs = g.T.TextList.texts c.args.entries.now in
    let rows = rows_of theirs c.args.codes.now.items in
    let inside : c.loop-row.row < length c.args.codes.now.items = omega (arith, c.requires.within, c.loop-row-test.true) in
    let within : c.at-theirs.result < length theirs = rw c.at-theirs.ensures (c.requires.indexes c.loop-row.row 0 inside) in
    let text = get_or theirs c.at-theirs.result [] in
    let entry : slice_get theirs c.at-theirs.result ≡ Some text = slice_get-get_or theirs c.at-theirs.result [] within in
    let row : slice_get rows c.loop-row.row ≡ Some text = row-of theirs c.args.codes.now.items c.loop-row.row c.at-theirs.result text inside c.at-theirs.ensures entry in
    let upto : c.args.start ≤ c.loop-row.row = omega (arith, c.loop-row.auto.row) in
    elim c.match-index.branch [
      | in-Some+in_ok-push_code-in-Some w ↦
          (let known = recoded _ theirs c.loop-row.known.items c.at-theirs.result w.in-Some.ours text c.index.result.now c.loop-row.invariant.recodes entry c.index.ensures w.in-Some.is in
          let next = next-row c.args.self.now c.loop-row.self w.push_code.new.self theirs rows c.args.start c.loop-row.row text c.loop-row.known.items
          c.loop-row.invariant.rows upto row (w.in_ok-push_code-in-Some.ensures.ok text known) c.loop-row.invariant.recodes in
          rw (w.self-is, w.known-is) (record { rows = next.0; recodes = next.1 }))
      | in-None+in_ok-push-in-None w ↦
          (let pushed = w.in_ok-push-in-None.ensures in
          let is : w.text_at.result.now ≡ text = same_Some _ _ (sym w.text_at.ensures ∙ entry) in
          let next = next-row c.args.self.now c.loop-row.self w.push.new.self theirs rows c.args.start c.loop-row.row text c.loop-row.known.items
          c.loop-row.invariant.rows upto row (pushed.1 ∙ ap (λ row. c.loop-row.self ++ row ∷ []) is) c.loop-row.invariant.recodes in
          rw (w.self-is, w.known-is) (record {
            rows = next.0;
            recodes = recodes-set (dictionary_of w.push.new.self) theirs c.loop-row.known.items c.at-theirs.result w.in_ok-push-in-None.field-0 text next.1 entry (pushed.0 ∙ ap Some is);
          }))
    ]
