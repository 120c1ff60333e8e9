use Rattle.std.proofs.Common.{rules, ◌≡◌, ◌∷◌, [], refl, subst, arith}
use Rattle.dictcol.specs.Excerpt.{AreDistinct}
use Rattle.dictcol.proofs.plain.excerpt.Excerpt.new.Goals as goal

pub returns-clause-none : goal.returns-clause-none
returns-clause-none c =
    let codes : c.deref.result.now ≡ c.args.codes.items = c.deref.ensures.value in
    let none : c.new.result.items ≡ [] = search rules in
    let first : c.in-Ok.bounds.items ≡ 0 ∷ [] = search rules in
    record {
      distinct = subst (λ cs. AreDistinct cs c.in_ok-numbers.numbers.items) codes c.in_ok-numbers.ensures.ok;
      few = omega arith;
      below = λ i d inside. absurd (omega (arith, inside));
      ahead = λ i d inside. omega arith;
      text_is = none;
      bounds_are = first;
      total_is = refl;
    }
