use Rattle.std.proofs.Common.{length, ap, sym, subst, arith, refl, ◌∙◌}
use Rattle.std.proofs.lemmas.List.{length-take-le}
use Rattle.string_interner.specs.Entry.{entry_text}
use Rattle.string_interner.proofs.Lemmas.Interner.IsSoundInterner.{list-take}
use Rattle.string_interner.proofs.interner.StringInterner.truncate.Goals as goal

pub refill-requires-clause-room : goal.refill-requires-clause-room
refill-requires-clause-room g c =
    let n = length-take-le c.args.len (g.B.Store.texts c.self.inside.backend) (omega (arith, c.if-len.true, c.len.ensures.value, c.self.invariant.count)) in
    subst (λ slots. g.I.TextIndex.rule.holds slots (length (g.B.Store.texts c.truncate.new.self))) (sym c.remove_from-removed.ensures.slots)
    (g.met.I.TextIndex.rule_laws.fewer _ _ _ c.len.ensures.loaded.load (omega (arith, n, ap length c.truncate.ensures.texts, c.if-len.true, c.len.ensures.value, c.self.invariant.count)))

pub invariant_of-self : goal.invariant_of-self
invariant_of-self g c = record {
  texts = list-take g.B.Store.numbering g.met.B.Store.grows c.args.len (g.B.Store.texts c.self.inside.backend) _ c.truncate.ensures.texts c.self.invariant.texts;
  whole = c.refill.ensures.whole;
  count = c.refill.ensures.count;
}

pub invariant_of-self-else-not-removed : goal.invariant_of-self-else-not-removed
invariant_of-self-else-not-removed g c =
    let n = length-take-le c.args.len (g.B.Store.texts c.self.inside.backend) (omega (arith, c.if-len.true, c.len.ensures.value, c.self.invariant.count)) in
    record {
      texts = list-take g.B.Store.numbering g.met.B.Store.grows c.args.len (g.B.Store.texts c.self.inside.backend) _ c.truncate.ensures.texts c.self.invariant.texts;
      whole = subst (λ texts. g.I.TextIndex.indexes c.remove_from-removed.new.self (entry_text g.B.Store.numbering texts) (g.H.TextHasher.code c.self.inside.hasher)) (sym c.truncate.ensures.texts) (c.if-not-removed.ensures.whole refl);
      count = c.if-not-removed.ensures.count refl ∙ sym n ∙ ap length (sym c.truncate.ensures.texts);
    }
