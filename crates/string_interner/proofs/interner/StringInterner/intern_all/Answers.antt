use Rattle.std.proofs.Common.{◌≡◌, ℕ, List, ◌+◌, refl, rules, arith, sym, ap, subst, ◌∙◌, ◌++◌, [], ◌∷◌, Ok, None, slice_set, take}
use Rattle.std.proofs.lemmas.List.{append-nil}
use Rattle.string_interner.specs.Extend.{YieldedBy, texts_of}
use Rattle.string_interner.specs.InternAll.{AppendsSymbols}
use Rattle.string_interner.proofs.Lemmas.Interner.InternsEach.{each-none, block-done, block-last, block-stopped, waits-more}
use Rattle.string_interner.proofs.Lemmas.Interner.Extends.{yields-more, yielded-front, drained-by}
use Rattle.string_interner.proofs.interner.StringInterner.intern_all.Goals as goal

pub loop-text-init : goal.loop-text-init
loop-text-init g c = (
  [],
  refl,
  each-none g.B.Store.numbering g.I.TextIndex.rule g.met.I.TextIndex.rule_laws _ _ c.len.ensures.holds.loaded,
  omega arith,
  omega arith,
  refl,
  λ some. absurd (some refl),
)

-- where the block is empty, all items so far went in
all-in : {X : Type 0} (items done block : List X) (len : ℕ) → items ≡ done ++ take len block → len ≡ 0 → items ≡ done
all-in items done block len is empty = is ∙ ap (λ n. done ++ take n block) empty ∙ append-nil done

pub returns-in_err-intern_next : goal.returns-in_err-intern_next
returns-in_err-intern_next g c =
    let inv = c.loop-text.invariant in let block = c.in-Some.text ∷ [] in
    block-stopped g.B.Store.numbering g.I.TextIndex.rule g.met.I.TextIndex.rule_laws (YieldedBy g.T.IntoIterator g.T.IntoIter.Iterator c.args.texts) inv.0 block _ c.loop-text.self _ c.args.symbols.now c.loop-text.symbols c.intern_next.new.symbols c.in_err-intern_next.field-0.0 c.from_residual.result (search rules)
    (yielded-front g.T.IntoIterator.into_iter_gives g.T.IntoIter.Iterator.next_gives c.args.texts c.into_iter-text-iterator.result c.next.new.self inv.0 block (c.loop-text.yielded ++ block) c.into_iter-text-iterator.ensures.into_iter_gives
    (ap (λ xs. xs ++ block) (all-in c.loop-text.yielded inv.0 c.loop-text.block c.loop-text.len inv.1 (search rules)))
    (yields-more g.T.IntoIter.Iterator.next_gives c.loop-text.yielded c.in-Some.text c.into_iter-text-iterator.result _ c.next.new.self c.loop-text.yielded_by c.in-Some.ensures.steps))
    inv.3 inv.2 c.in_err-intern_next.ensures.interns

pub loop-text-preserved-then-is_alone : goal.loop-text-preserved-then-is_alone
loop-text-preserved-then-is_alone g c =
    let inv = c.loop-text.invariant in let block = c.in-Some.text ∷ [] in let empty : c.loop-text.len ≡ 0 = search rules in (
      inv.0 ++ block,
      ap (λ xs. xs ++ block) (all-in c.loop-text.yielded inv.0 c.loop-text.block c.loop-text.len inv.1 empty) ∙ sym (all-in _ (inv.0 ++ block) c.loop-text.block c.loop-text.len refl empty),
      block-done g.B.Store.numbering g.I.TextIndex.rule g.met.I.TextIndex.rule_laws inv.0 block _ c.loop-text.self _ c.args.symbols.now c.loop-text.symbols c.intern_next.new.symbols (Ok tt) refl inv.2 c.in_ok-intern_next.ensures.interns,
      omega (arith, inv.3, c.in_ok-intern_next.ensures.capacity),
      inv.4,
      inv.5,
      λ some. absurd (some empty),
    )

pub returns-in_err-intern_block : goal.returns-in_err-intern_block
returns-in_err-intern_block g c =
    let inv = c.loop-text.invariant in let block = take (c.loop-text.len + 1) (slice_set c.loop-text.block c.loop-text.len c.in-Some.text) in
    let same : c.if-len-eq0-2.symbols.items ≡ c.loop-text.symbols.items = search rules in
    block-stopped g.B.Store.numbering g.I.TextIndex.rule g.met.I.TextIndex.rule_laws (YieldedBy g.T.IntoIterator g.T.IntoIter.Iterator c.args.texts) inv.0 block _ c.loop-text.self _ c.args.symbols.now c.if-len-eq0-2.symbols c.intern_block.new.symbols c.in_err-intern_block.field-0.0 c.from_residual-in_err-intern_block.result (search rules)
    (yielded-front g.T.IntoIterator.into_iter_gives g.T.IntoIter.Iterator.next_gives c.args.texts c.into_iter-text-iterator.result c.next.new.self inv.0 block (c.loop-text.yielded ++ c.in-Some.text ∷ []) c.into_iter-text-iterator.ensures.into_iter_gives
    (waits-more c.loop-text.yielded inv.0 c.loop-text.block c.loop-text.len c.in-Some.text inv.1 (search rules))
    (yields-more g.T.IntoIter.Iterator.next_gives c.loop-text.yielded c.in-Some.text c.into_iter-text-iterator.result _ c.next.new.self c.loop-text.yielded_by c.in-Some.ensures.steps))
    (search rules) (subst (λ items. AppendsSymbols g.B.Store.numbering g.I.TextIndex.rule c.args.self.now c.args.symbols.now.items (texts_of inv.0) c.loop-text.self items) (sym same) inv.2) c.in_err-intern_block.ensures.interns

pub loop-text-preserved-in-loop-text : goal.loop-text-preserved-in-loop-text
loop-text-preserved-in-loop-text g c =
    let inv = c.loop-text.invariant in let block = take (c.loop-text.len + 1) (slice_set c.loop-text.block c.loop-text.len c.in-Some.text) in
    let same : c.if-len-eq0-2.symbols.items ≡ c.loop-text.symbols.items = search rules in (
      inv.0 ++ block,
      waits-more c.loop-text.yielded inv.0 c.loop-text.block c.loop-text.len c.in-Some.text inv.1 (search rules) ∙ sym (append-nil (inv.0 ++ block)),
      block-done g.B.Store.numbering g.I.TextIndex.rule g.met.I.TextIndex.rule_laws inv.0 block _ c.loop-text.self _ c.args.symbols.now c.if-len-eq0-2.symbols c.intern_block.new.symbols (Ok tt) refl
          (subst (λ items. AppendsSymbols g.B.Store.numbering g.I.TextIndex.rule c.args.self.now c.args.symbols.now.items (texts_of inv.0) c.loop-text.self items) (sym same) inv.2) c.in_ok-intern_block.ensures.interns,
      search rules,
      omega arith,
      search rules,
      λ some. absurd (some refl),
    )

pub returns : goal.returns
returns g c =
    let inv = c.loop-text.invariant in let block = take c.loop-text.len c.loop-text.block in
    let by = YieldedBy g.T.IntoIterator g.T.IntoIter.Iterator c.args.texts in
    block-last g.B.Store.numbering g.I.TextIndex.rule g.met.I.TextIndex.rule_laws by inv.0 block _ c.loop-text.self _ c.args.symbols.now c.loop-text.symbols c.intern_block-2.new.symbols c.intern_block-2.result
    (λ ok. subst (λ xs. by xs None) inv.1 (drained-by g.T.IntoIterator.into_iter_gives g.T.IntoIter.Iterator.next_gives c.args.texts c.into_iter-text-iterator.result c.loop-text.yielded c.into_iter-text-iterator.ensures.into_iter_gives (search rules)))
    (yielded-front g.T.IntoIterator.into_iter_gives g.T.IntoIter.Iterator.next_gives c.args.texts c.into_iter-text-iterator.result _ inv.0 block c.loop-text.yielded c.into_iter-text-iterator.ensures.into_iter_gives inv.1 c.loop-text.yielded_by)
    inv.3 inv.2 c.intern_block-2.ensures.interns
