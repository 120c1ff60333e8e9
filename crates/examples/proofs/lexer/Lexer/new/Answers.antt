use Rattle.std.proofs.Common.{rules, ◌≡◌, refl, sym, subst}
use Rattle.examples.specs.Lexer.{HasKeywords, keywords}
use Rattle.examples.proofs.lexer.Lexer.new.Goals as goal

-- the keywords by themselves have their numbers
at_start : HasKeywords keywords
at_start = record {
  zero = record { index = 0; entry = refl; symbol_is = refl };
  one = record { index = 1; entry = refl; symbol_is = refl };
  two = record { index = 2; entry = refl; symbol_is = refl };
}

pub invariant_of-result : goal.invariant_of-result
invariant_of-result g c =
    let is : c.get_or_intern-3.new.self.texts ≡ keywords = search rules in
    subst HasKeywords (sym is) at_start
