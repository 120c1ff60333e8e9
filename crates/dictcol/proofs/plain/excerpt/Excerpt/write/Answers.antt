use Rattle.std.proofs.Common.{rules, ◌≡◌, ◌≢◌, ◌-◌, ◌<◌, ◌≤◌, ◌++◌, ◌∷◌, [], length, take, get_or, sym, ap, subst, ◌∙◌, arith}
use Rattle.std.specs.Io.KnownBytes.{Appends}
use Rattle.std.proofs.KnownBytes.{Appends-trans}
use Rattle.std.proofs.lemmas.List.{length_push, take_all}
use Rattle.string_column.specs.Column.{rows_of}
use Rattle.dictcol.specs.Lines.{ended_text, text_of_ended}
use Rattle.dictcol.specs.Plain.{plain_text}
use Rattle.dictcol.proofs.AreRows.{cut-run, whole-run}
use Rattle.dictcol.proofs.Excerpt.{all-rows, front-known, last-known, one-row-more}
use Rattle.dictcol.proofs.PlainColumns.{appends-kept, in-any-case}
use Rattle.dictcol.proofs.plain.excerpt.Excerpt.write.Goals as goal
use Rattle.dictcol.proofs.plain.excerpt.Excerpt.write.Goals.{then-is_cut, else-is_cut}

pub line-requires : goal.line-requires
line-requires g c =
    let split : c.args.self.now.codes.items ≡ c.in-Some.front.now ++ c.in-Some.last.now ∷ [] = search rules in
    front-known c.args.self.now c.requires.0 c.requires.1 c.requires.2 c.in-Some.front.now c.in-Some.last.now split c.loop-code.code-index c.loop-code-test.true

pub loop-code-preserved : goal.loop-code-preserved
loop-code-preserved g c = λ lines has.
    let start = g.W.Write.contents c.args.output.now in
    let mid = g.W.Write.contents c.loop-code.output in
    let end = g.W.Write.contents c.write.new.output in
    let front = c.in-Some.front.now in
    let at = c.loop-code.code-index in
    let line = subst (Appends mid end) (c.line.ensures lines has) c.in_ok-write.ensures.written in
    subst (Appends start end) (sym (one-row-more lines front at 0 c.loop-code-test.true)) (Appends-trans start mid end (ended_text (rows_of lines (take at front))) _ (c.loop-code.invariant lines has) line)

pub line-line-requires : goal.line-line-requires
line-line-requires g c =
    let split : c.args.self.now.codes.items ≡ c.in-Some.front.now ++ c.in-Some.last.now ∷ [] = search rules in
    last-known c.args.self.now c.requires.0 c.requires.1 c.requires.2 c.in-Some.front.now c.in-Some.last.now split

pub returns-clause-written : goal.returns-clause-written
returns-clause-written g c = λ lines codes holds.
    let start = g.W.Write.contents c.args.output.now in
    let mid = g.W.Write.contents c.loop-code.output in
    let end = g.W.Write.contents c.write-2.new.output in
    let front = c.in-Some.front.now in
    let last = c.in-Some.last.now in
    let rows = rows_of lines codes in
    let run = c.line-line.result.now in
    let split : c.args.self.now.codes.items ≡ c.in-Some.front.now ++ c.in-Some.last.now ∷ [] = search rules in
    let over : length c.in-Some.front.now ≤ c.loop-code.code-index = search rules in
    let before = subst (λ cs. Appends start mid (ended_text (rows_of lines cs))) (take_all c.loop-code.code-index front over) (c.loop-code.invariant lines holds.looked) in
    let line = c.line-line.ensures lines holds.looked in
    let whole : text_of_ended (rows_of lines codes) [] ≡ ended_text (rows_of lines c.in-Some.front.now) ++ c.line-line.result.now =
    all-rows c.args.self.now lines codes holds front last split ∙ ap (λ text. ended_text (rows_of lines front) ++ text) (sym line) in
    let some : rows_of lines codes ≢ [] → 0 < length c.line-line.result.now = λ _. omega (arith, ap length line, length_push (get_or lines last []) 10) in
    let text : ended_text (rows_of lines c.in-Some.front.now) ++ take c.if-is_cut.count c.line-line.result.now ≡ plain_text (rows_of lines codes) c.args.is_cut = elim c.if-is_cut.branch [
      | then-is_cut w ↦ let count : c.if-is_cut.count ≡ length c.line-line.result.now - 1 = search rules in rw (count, w.if-is_cut.true) (cut-run rows (ended_text (rows_of lines front)) run whole some)
      | else-is_cut w ↦ let count : c.if-is_cut.count ≡ length c.line-line.result.now = search rules in rw (count, w.if-is_cut.false) (whole-run rows (ended_text (rows_of lines front)) run whole)
    ] in
    let both = Appends-trans start mid end (ended_text (rows_of lines front)) (take c.if-is_cut.count run) before c.in_ok-write-2.ensures.written in
    in-any-case c.map_err.result (appends-kept start end (g.W.Write.contents c.flush.new.self) (plain_text rows c.args.is_cut) (subst (Appends start end) text both) c.flush.ensures.bytes)
