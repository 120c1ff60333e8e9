use Rattle.std.proofs.Common.{ap, subst, sym, ◌+◌, arith, length}
use Rattle.string_interner.specs.LoadFactorLaws.{room-grown}
use Rattle.string_interner.specs.Table.{IsSoundTable}
use Rattle.string_interner.proofs.Lemmas.Table.IsSoundTable.{IsSoundTable-grown, sum-le}
use Rattle.string_interner.proofs.dedup.table.Table.grow.Goals as goal

pub returns-clause-room : goal.returns-clause-room
returns-clause-room g c =
    let sound = subst (λ x. IsSoundTable g.L.Layout.layout x c.self.inside.len) c.self.view_is c.self.invariant in
    subst (λ n. g.L.Layout.layout.holds (length (g.L.Layout.layout.slots c.args.bigger)) (n + 1)) (sym c.requires.symbols) (room-grown g.L.Layout.layout.holds g.met.L.Layout.layout_laws.load _ _ _ sound.bounded.load c.requires.count)

pub invariant_of-self : goal.invariant_of-self
invariant_of-self g c =
    IsSoundTable-grown g.L.Layout.layout g.met.L.Layout.layout_laws.load c.args.self.now _ (subst (λ x. IsSoundTable g.L.Layout.layout x c.self.inside.len) c.self.view_is c.self.invariant) _
    c.requires.full c.requires.count c.requires.symbols (ap (λ x. x.put_back + c.self.inside.len) c.self.view_is) (ap (λ x. x.greatest) c.self.view_is)

pub overflow_add-self : goal.overflow_add-self
overflow_add-self g c =
    let back = ap (λ x. x.put_back) c.self.view_is in
    let sum = sum-le g.L.Layout.layout g.met.L.Layout.layout_laws.load c.args.self.now _
    (subst (λ x. IsSoundTable g.L.Layout.layout x c.self.inside.len) c.self.view_is c.self.invariant) (record { slots = c.args.bigger; put_back = 0; greatest = 0 }) c.requires.full c.requires.count in
    omega (arith, c.requires.small)
