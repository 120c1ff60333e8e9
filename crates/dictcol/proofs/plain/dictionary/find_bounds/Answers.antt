use Rattle.std.proofs.Common.{◌≡◌, ◌≤◌, ◌<◌, ◌+◌, ◌-◌, ◌++◌, ◌∷◌, [], Some, None, length, inl, inr, take, drop, refl, subst, arith, rules}
use Rattle.std.proofs.lemmas.List.{take_rest, length-drop}
use Rattle.memchr.specs.Find.{is_byte, IsFirstByte}
use Rattle.dictcol.proofs.LineBounds.{no-bounds, one-more, all-bounds, not-ended}
use Rattle.dictcol.proofs.plain.dictionary.find_bounds.Goals as goal

pub lines-init : goal.lines-init
lines-init c = record { so_far = no-bounds c.args.file.now c.in-Ok.bounds.items (search rules); within = omega arith }

pub lines-preserved : goal.lines-preserved
lines-preserved c =
    let file = c.args.file.now in
    let end = c.lines.end in
    let raw : IsFirstByte (is_byte 10) (take (length c.args.file.now - c.lines.end) (drop c.lines.end c.args.file.now)) (Some c.in-Some.at) = search rules in
    let found = subst (λ text. IsFirstByte (is_byte 10) text (Some c.in-Some.at)) (take_rest file end) raw in
    let put : c.push.new.self.items ≡ c.lines.bounds.items ++ (c.lines.end + (c.in-Some.at + 1)) ∷ [] = search rules in
    let high = found.0.high in
    record {
      so_far = one-more file c.lines.bounds.items c.push.new.self.items end c.in-Some.at c.lines.invariant.so_far found put;
      within = omega (arith, high, length-drop end file, c.lines.invariant.within);
    }

pub returns-in-Err-clause-err : goal.returns-in-Err-clause-err
returns-in-Err-clause-err c = inl (c.in-Err.fault, c.in-Err.ensures.err, c.of_dictionary.ensures)

pub returns-then-end-file-clause-err : goal.returns-then-end-file-clause-err
returns-then-end-file-clause-err c =
    let file = c.args.file.now in
    let end = c.lines.end in
    let raw : IsFirstByte (is_byte 10) (take (length c.args.file.now - c.lines.end) (drop c.lines.end c.args.file.now)) None = search rules in
    let none = subst (λ text. IsFirstByte (is_byte 10) text None) (take_rest file end) raw in
    let behind : c.lines.end < length c.args.file.now = search rules in
    inr (inr (refl, λ lines. not-ended file c.lines.bounds.items end lines c.lines.invariant.so_far none behind))

pub returns-clause-ok : goal.returns-clause-ok
returns-clause-ok c =
    let so_far = c.lines.invariant.so_far in
    let all : length c.args.file.now ≤ c.lines.end = search rules in
    (so_far.lines, all-bounds c.args.file.now c.lines.bounds.items c.lines.end so_far all, so_far.bounds_are)
