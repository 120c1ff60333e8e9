use Rattle.std.proofs.Common.{rules, arith, sym, ap, ◌≡◌, ◌∙◌, ◌++◌, [], ◌∷◌, ◌+◌, suc, length, take, Some}
use Rattle.std.proofs.lemmas.List.{append_assoc, append-nil, length-map, take_all}
use Rattle.string_interner.proofs.Lemmas.Interner.InternsEach.{named-at}
use Rattle.string_interner.proofs.interner.intern_all.push_numbers.Goals as goal

pub loop-at-init : goal.loop-at-init
loop-at-init g c = record { pushed = λ list named. sym (append-nil c.args.symbols.now.items); count = search rules; capacity = search rules }

pub unreachable-requires : goal.unreachable-requires
unreachable-requires g c =
    let at = named-at g.S.Symbol.symbol_of c.args.numbers.now c.requires.named.0 c.loop-at.at 0 c.requires.named.1 (search rules) in
    let e = sym c.try_from_usize.ensures ∙ c.in_default.is in absurd (cc)

pub loop-at-preserved : goal.loop-at-preserved
loop-at-preserved g c = let inv = c.loop-at.invariant in record {
  pushed = λ list named.
      let at = named-at g.S.Symbol.symbol_of c.args.numbers.now list c.loop-at.at 0 named (search rules) in
      let e = sym c.try_from_usize.ensures ∙ c.in-Some.is in
      let same : c.in-Some.symbol ≡ at.0 = cc in
      c.push_reserved.ensures.items ∙ ap (λ xs. xs ++ c.in-Some.symbol ∷ []) (inv.pushed list named) ∙ append_assoc c.args.symbols.now.items (take c.loop-at.at list) (c.in-Some.symbol ∷ [])
      ∙ ap (λ s. c.args.symbols.now.items ++ (take c.loop-at.at list ++ s ∷ [])) same ∙ ap (λ xs. c.args.symbols.now.items ++ xs) (sym at.2 ∙ ap (λ n. take n list) (let e : suc c.loop-at.at ≡ c.loop-at.at + 1 = omega arith in e));
  count = search rules;
  capacity = search rules;
}

pub returns-clause-pushed : goal.returns-clause-pushed
returns-clause-pushed g c = λ list named.
    let long : length c.args.numbers.now ≡ length list = sym (length-map c.args.numbers.now g.S.Symbol.symbol_of) ∙ ap length named ∙ length-map list Some in
    c.loop-at.invariant.pushed list named ∙ ap (λ xs. c.args.symbols.now.items ++ xs) (take_all c.loop-at.at list (let over = c.loop-at-test.false in omega (arith, over, long)))
