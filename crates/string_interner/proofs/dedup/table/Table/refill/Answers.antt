use Rattle.std.proofs.Common.{refl, max, ap, subst, sym, ◌∙◌, arith, length}
use Rattle.string_interner.proofs.Lemmas.Table.IsSoundTable.{IsSoundTable-filled}
use Rattle.string_interner.proofs.dedup.table.Table.refill.Goals as goal

pub returns : goal.returns
returns g c = record {
  whole = c.put_all.ensures.whole;
  count_is = c.put_all.ensures.entries;
  slots = c.put_all.ensures.count ∙ c.clear.ensures.count ∙ ap (λ x. length (g.L.Layout.layout.slots x.slots)) c.self.view_is;
  put_back = ap (λ x. x.put_back) c.self.view_is;
  greatest = ap (λ m. max m c.count-self-inside.result) c.max-self-inside.ensures ∙ ap (λ x. max x.greatest c.count-self-inside.result) c.self.view_is ∙ ap (max c.args.self.now.greatest) c.count-self-inside.ensures.value;
}

pub invariant_of-self : goal.invariant_of-self
invariant_of-self g c =
    let n = c.count-self-inside.ensures.value in
    IsSoundTable-filled g.L.Layout.layout g.met.L.Layout.layout_laws.load _ _ c.self.invariant _ _
    (subst (λ m. g.L.Layout.layout.holds (length (g.L.Layout.layout.slots c.self.inside.slots)) m) (sym n) (subst (λ x. g.L.Layout.layout.holds (length (g.L.Layout.layout.slots x.slots)) (length (g.B.Store.texts c.args.backend.now))) (sym c.self.view_is) c.requires.room))
    (c.put_all.ensures.entries ∙ sym n) (c.put_all.ensures.count ∙ c.clear.ensures.count) refl (omega (arith, c.max-self-inside.ensures)) (omega arith)
