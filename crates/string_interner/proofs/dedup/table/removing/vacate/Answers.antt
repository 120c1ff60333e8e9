use Rattle.std.proofs.Common.{◌≡◌, ◌+◌, ◌<◌, ◌%◌, true, false, Some, None, length, get_or, set, refl, sym, ap, subst, ◌∙◌, arith}
use Rattle.std.proofs.lemmas.List.Elements.{Contains-get_or}
use Rattle.std.specs.List.{Contains}
use Rattle.string_interner.specs.Entry.{entry_text}
use Rattle.string_interner.specs.Index.{Fits, RemovesPair, text_of}
use Rattle.string_interner.specs.Layout.{IsCoded}
use Rattle.string_interner.specs.Probe.{Follows, IsBetween}
use Rattle.string_interner.specs.Slots.{symbols}
use Rattle.string_interner.proofs.Lemmas.Index.Inserts.{text_of_is}
use Rattle.string_interner.proofs.Lemmas.Index.IsVacating.{IsVacating, IsVacating-moved, IsVacating-passed, IsWalking-more, IsWalking-ends, Fits-vacated, RemovesPair-vacated, symbols-vacated}
use Rattle.string_interner.proofs.Lemmas.Index.Swapped.{empty-swapped}
use Rattle.string_interner.proofs.Lemmas.Table.IsCoded.{IsCoded-set, IsCoded-unset}
use Rattle.string_interner.proofs.Lemmas.Table.IsTable.{Fits-of, IsCoded-of, fits-of}
use Rattle.string_interner.proofs.dedup.table.removing.vacate.Goals as goal
use Rattle.string_interner.proofs.dedup.table.removing.vacate.Goals.{then-is_between, else-is_between}

pub returns-in_default-clause-fits : goal.returns-in_default-clause-fits
returns-in_default-clause-fits g c =
    let layout = g.L.Layout.layout in let inv = c.loop-step.invariant in
    let entry = entry_text g.B.Store.numbering (g.B.Store.texts c.args.backend.now) in let code = g.H.TextHasher.code c.args.hasher.now in
    let slots = layout.slots c.loop-step.slots in
    let same = c.in_default.ensures.same in
    let is : layout.slots c.unset.new.self ≡ set slots c.loop-step.hole None = c.unset.ensures.slots ∙ ap (λ x. set (layout.slots x) c.loop-step.hole None) same in
    let m : c.loop-step.next < length slots = (let a = inv.walking.1.after.within in let b = inv.vacating.size in omega arith) in
    fits-of layout g.met.L.Layout.layout_laws entry code c.unset.new.self
    (subst (Fits entry code) (sym is) (Fits-vacated entry code _ slots c.args.symbol _ _ inv.vacating m c.in_default.ensures.empty))
    (subst (λ xs. IsCoded layout.stores entry code xs (layout.stored c.unset.new.self)) (sym is)
    (IsCoded-unset layout.stores entry code slots (layout.stored c.loop-step.slots) (layout.stored c.unset.new.self) c.loop-step.hole
    (λ k ne. c.unset.ensures.others k ne ∙ ap (λ x. layout.stored x k) same) (IsCoded-of layout g.met.L.Layout.layout_laws entry code c.loop-step.slots inv.fits)))

pub returns-in_default-clause-pair : goal.returns-in_default-clause-pair
returns-in_default-clause-pair g c =
    let layout = g.L.Layout.layout in let inv = c.loop-step.invariant in
    let entry = entry_text g.B.Store.numbering (g.B.Store.texts c.args.backend.now) in let code = g.H.TextHasher.code c.args.hasher.now in
    let slots = layout.slots c.loop-step.slots in
    let is : layout.slots c.unset.new.self ≡ set slots c.loop-step.hole None = c.unset.ensures.slots ∙ ap (λ x. set (layout.slots x) c.loop-step.hole None) c.in_default.ensures.same in
    let m : c.loop-step.next < length slots = (let a = inv.walking.1.after.within in let b = inv.vacating.size in omega arith) in
    subst (λ xs. RemovesPair entry (layout.slots c.args.slots.now) xs c.args.symbol) (sym is)
    (RemovesPair-vacated entry code _ slots c.args.symbol _ _ inv.vacating m c.in_default.ensures.empty (Fits-of layout g.met.L.Layout.layout_laws entry code c.args.slots.now c.requires.fits))

pub returns-in_default-clause-entries : goal.returns-in_default-clause-entries
returns-in_default-clause-entries g c =
    let layout = g.L.Layout.layout in let inv = c.loop-step.invariant in
    let entry = entry_text g.B.Store.numbering (g.B.Store.texts c.args.backend.now) in let code = g.H.TextHasher.code c.args.hasher.now in
    let slots = layout.slots c.loop-step.slots in
    let is : layout.slots c.unset.new.self ≡ set slots c.loop-step.hole None = c.unset.ensures.slots ∙ ap (λ x. set (layout.slots x) c.loop-step.hole None) c.in_default.ensures.same in
    let m : c.loop-step.next < length slots = (let a = inv.walking.1.after.within in let b = inv.vacating.size in omega arith) in
    symbols-vacated entry code _ slots c.args.symbol _ _ inv.vacating m c.in_default.ensures.empty ∙ ap (λ xs. length (symbols xs) + 1) (sym is)

pub loop-step-preserved : goal.loop-step-preserved
loop-step-preserved g c =
    let layout = g.L.Layout.layout in let laws = g.met.L.Layout.layout_laws in let inv = c.loop-step.invariant in
    let entry = entry_text g.B.Store.numbering (g.B.Store.texts c.args.backend.now) in let code = g.H.TextHasher.code c.args.hasher.now in
    let old = layout.slots c.args.slots.now in let slots = layout.slots c.loop-step.slots in
    let hole = c.loop-step.hole in let next = c.loop-step.next in let u = c.in-Some.moved.1 in
    let same = c.in-Some.ensures.same in let there : get_or slots next None ≡ Some u = c.in-Some.ensures.symbol in
    let m : next < length slots = (let a = inv.walking.1.after.within in let b = inv.vacating.size in omega arith) in
    let is_entry : entry u ≡ Some (text_of entry u) = text_of_is entry u (inv.vacating.rebuilt.fits.entries u (subst (Contains slots) there (Contains-get_or slots next None m))) in
    let n : c.len-count.result ≡ length slots = c.len-count.ensures ∙ sym inv.vacating.size in
    let home : c.home_of.result ≡ code (text_of entry u) % length slots = c.home_of.ensures ∙ c.in-Some.ensures.home ∙ ap (λ k. code (text_of entry u) % k) n in
    let after : Follows (length slots) next c.slot_after-next-in-loop-step.result = subst (λ k. Follows k next c.slot_after-next-in-loop-step.result) n c.slot_after-next-in-loop-step.ensures in
    let after_old : Follows (length old) next c.slot_after-next-in-loop-step.result = subst (λ k. Follows k next c.slot_after-next-in-loop-step.result) inv.vacating.size after in
    let step : c.loop-step._step < length old = (let a = c.len-count.ensures in let b = c.loop-step-test.true in omega arith) in
    elim c.if-is_between.branch [
      | then-is_between w ↦
          let meets : IsBetween (code (text_of entry u) % length slots) hole next = subst (λ h. IsBetween h hole next) home (w.if-is_between.ensures.0 refl) in
          let first : layout.slots w.set.new.self ≡ set slots hole (Some u) = w.set.ensures.slots ∙ ap (λ x. set (layout.slots x) hole (Some u)) same in
          let is : layout.slots w.set-then-is_between.new.self ≡ set (set slots hole (Some u)) next (Some c.args.symbol) = w.set-then-is_between.ensures.slots ∙ ap (λ xs. set xs next (Some c.args.symbol)) first in
          let vacating = IsVacating-moved entry code old slots c.args.symbol hole next inv.vacating m u c.slot_after-next-in-loop-step.result there meets after in
          let symbol_is : entry c.args.symbol ≡ Some (text_of entry c.args.symbol) = text_of_is entry c.args.symbol (inv.vacating.rebuilt.fits.entries c.args.symbol (subst (Contains slots) inv.vacating.here (Contains-get_or slots hole None inv.vacating.within))) in
          let coded = IsCoded-set layout.stores entry code slots (layout.stored c.loop-step.slots) (layout.stored w.set.new.self) hole (λ k ne. w.set.ensures.others k ne ∙ ap (λ x. layout.stored x k) same)
          (IsCoded-of layout laws entry code c.loop-step.slots inv.fits) u (text_of entry u) is_entry (w.set.ensures.stored ∙ c.in-Some.ensures.stored) in
          let coded_both = IsCoded-set layout.stores entry code (set slots hole (Some u)) (layout.stored w.set.new.self) (layout.stored w.set-then-is_between.new.self) next w.set-then-is_between.ensures.others
          coded c.args.symbol (text_of entry c.args.symbol) symbol_is (w.set-then-is_between.ensures.stored ∙ ap layout.stores c.requires.code) in
          rw (w.slots-is, w.hole-is) (record {
            fits = fits-of layout laws entry code w.set-then-is_between.new.self (subst (Fits entry code) (sym is) vacating.rebuilt.fits)
                (subst (λ xs. IsCoded layout.stores entry code xs (layout.stored w.set-then-is_between.new.self)) (sym is) coded_both);
            vacating = subst (λ xs. IsVacating entry code old xs c.args.symbol next c.slot_after-next-in-loop-step.result) (sym is) vacating;
            walking = (
              inv.walking.0,
              IsWalking-more entry code old slots _ _ next inv.walking.1 (layout.slots w.set-then-is_between.new.self) u c.slot_after-next-in-loop-step.result step there
                  (λ k l e. empty-swapped entry code slots inv.vacating.rebuilt.fits hole next c.args.symbol u inv.vacating.within m inv.vacating.here there meets k (let a = inv.vacating.size in omega arith) (ap (λ xs. get_or xs k None) (sym is) ∙ e)) after_old,
            );
          })
      | else-is_between w ↦
          let apart : ¬ IsBetween (code (text_of entry u) % length slots) hole next = λ x. let z : false ≡ true = w.if-is_between.ensures.1 (subst (λ h. IsBetween h hole next) (sym home) x) in cc in
          rw (w.slots-is, w.hole-is) (record {
            fits = subst (layout.fits entry code) (sym same) inv.fits;
            vacating = subst (λ x. IsVacating entry code old (layout.slots x) c.args.symbol hole c.slot_after-next-in-loop-step.result) (sym same)
                (IsVacating-passed entry code old slots c.args.symbol hole next inv.vacating m u c.slot_after-next-in-loop-step.result there apart after);
            walking = (inv.walking.0, IsWalking-more entry code old slots _ _ next inv.walking.1 _ u c.slot_after-next-in-loop-step.result step there (λ k l e. ap (λ x. get_or (layout.slots x) k None) (sym same) ∙ e) after_old);
          })
    ]

pub returns-clause-pair : goal.returns-clause-pair
returns-clause-pair g c =
    let layout = g.L.Layout.layout in let inv = c.loop-step.invariant in
    absurd (IsWalking-ends _ _ _ _ _ _ _ inv.walking.1 (let a = c.len-count.ensures in let b = c.loop-step-test.false in omega arith) inv.vacating.size
    (let a = inv.vacating.size in let b = inv.vacating.rebuilt.count in let d = c.requires.free.free in omega arith))

pub returns-clause-entries : goal.returns-clause-entries
returns-clause-entries g c =
    let layout = g.L.Layout.layout in let inv = c.loop-step.invariant in
    absurd (IsWalking-ends _ _ _ _ _ _ _ inv.walking.1 (let a = c.len-count.ensures in let b = c.loop-step-test.false in omega arith) inv.vacating.size
    (let a = inv.vacating.size in let b = inv.vacating.rebuilt.count in let d = c.requires.free.free in omega arith))
