use Rattle.std.proofs.Common.{◌≡◌, ◌+◌, ◌-◌, ◌<◌, [], ◌∷◌, ◌++◌, length, map, take, drop, get_or, sym, ap, ap₂, ◌∙◌, arith, rules}
use Rattle.std.specs.Prelude.{slice_range}
use Rattle.std.proofs.lemmas.List.{drop_more, map_more, map_push}
use Rattle.dictcol.specs.declared.source.Source.TheVariants.{StandardInput}
use Rattle.dictcol.proofs.command.separate.Goals as goal

pub loop-at-preserved : goal.loop-at-preserved
loop-at-preserved c =
    let files = c.args.files.now in
    let at = c.loop-at.at in
    let input = c.new-input.result in
    let within : at < length files = omega (arith, c.loop-at.invariant.all, c.loop-at-test.true) in
    let first : (at + 1) - at ≡ 1 = omega arith in
    let one : slice_range files at (at + 1) ≡ get_or files at StandardInput ∷ [] =
    ap (take ((at + 1) - at)) (drop_more files at StandardInput within) ∙ ap (λ n. take n (get_or files at StandardInput ∷ drop (at + 1) files)) first in
    let alone : input.sources.now ≡ slice_range files at (at + 1) = search rules in
    let pushed : c.push.new.self.items ≡ c.loop-at.inputs.items ++ input ∷ [] = search rules in
    record {
      each = ap (map (λ input. input.sources.now)) pushed ∙ map_push (λ input. input.sources.now) c.loop-at.inputs.items input
          ∙ ap₂ (λ xs x. xs ++ x ∷ []) c.loop-at.invariant.each (alone ∙ one) ∙ sym (map_more (λ file. file ∷ []) files at StandardInput within);
      all = c.loop-at.invariant.all;
    }
