use Rattle.std.proofs.Common.{rules, ◌≡◌, Ok, Err, [], ◌∷◌, ◌++◌, length, ◌+◌, ◌^◌, ◌<◌, ◌≤◌, IfErr, inl, inr, sym, subst, arith}
use Rattle.std.proofs.lemmas.Result.{IfErr-weaker}
use Rattle.string_interner.specs.declared.backend.InternError.{InternError}
use Rattle.string_column.specs.Entries.{FindsIndex}
use Rattle.dictcol.specs.Counts.{HasCounted, contents_of}
use Rattle.dictcol.specs.Fault.{IsTakeFault, intern_fault}
use Rattle.dictcol.specs.TooMany.{LacksCount}
use Rattle.dictcol.specs.declared.fault.Fault.TheVariants.{TooMany}
use Rattle.dictcol.proofs.Counted.{counted-again, counted-long, counted-new, index-known, index-new}
use Rattle.dictcol.proofs.TooMany.{counted-refused}
use Rattle.dictcol.proofs.count.CountsTakesBlocks.add.Goals as goal

pub returns-then-index-len-clause-taken : goal.returns-then-index-len-clause-taken
returns-then-index-len-clause-taken g c = λ lines has.
    let old = c.self.inside.lines in
    let counts = c.self.inside.counts.items in
    let index = c.in_ok-index.index in
    let given : c.intern.result ≡ Ok c.in_ok-index.index = search rules in
    let found : FindsIndex g.B.Store.numbering old c.args.line.now (Ok index) c.intern.new.self = rw given at c.intern.ensures in
    let within : index < length counts = search rules in
    let total : c.in_ok-total.total ≡ c.self.inside.total + 1 = search rules in
    let fits : c.self.inside.total + 1 < 2 ^ 64 = search rules in
    let counted : HasCounted (contents_of old counts c.self.inside.total) lines = subst (λ contents. HasCounted contents lines) (sym c.self.view_is) has in
    let known = index-known old c.intern.new.self c.args.line.now index found.0 found.1 (omega (arith, within, counted-long old counts c.self.inside.total lines counted)) in
    rw (known.1, total) (counted-again old counts c.self.inside.total lines c.args.line.now index c.index.result.now c.saturating_add.result known.0
    within c.index.ensures c.saturating_add.ensures fits counted)

pub returns-clause-taken : goal.returns-clause-taken
returns-clause-taken g c = λ lines has.
    let old = c.self.inside.lines in
    let counts = c.self.inside.counts.items in
    let index = c.in_ok-index.index in
    let given : c.intern.result ≡ Ok c.in_ok-index.index = search rules in
    let found : FindsIndex g.B.Store.numbering old c.args.line.now (Ok index) c.intern.new.self = rw given at c.intern.ensures in
    let behind : length counts ≤ index = search rules in
    let total : c.in_ok-total.total ≡ c.self.inside.total + 1 = search rules in
    let counted : HasCounted (contents_of old counts c.self.inside.total) lines = subst (λ contents. HasCounted contents lines) (sym c.self.view_is) has in
    let new = index-new old c.intern.new.self c.args.line.now index found.0 found.1 (omega (arith, behind, counted-long old counts c.self.inside.total lines counted)) in
    let put : c.push.new.self.items ≡ counts ++ 1 ∷ [] = search rules in
    rw (new.1, put, total) (counted-new old counts c.self.inside.total lines c.args.line.now new.0 counted)

pub returns-in_err-total-clause-fault : goal.returns-in_err-total-clause-fault
returns-in_err-total-clause-fault g c = λ lines has.
    let counted : HasCounted (contents_of c.self.inside.lines c.self.inside.counts.items c.self.inside.total) lines = subst (λ contents. HasCounted contents lines) (sym c.self.view_is) has in
    let many : IfErr c.from_residual.result (λ fault. fault ≡ TooMany) = search rules in
    let full : 2 ^ 64 ≤ c.self.inside.total + 1 = search rules in
    IfErr-weaker c.from_residual.result (λ fault. fault ≡ TooMany) (IsTakeFault (LacksCount g.B.Store.numbering lines c.args.line.now))
    (λ fault is. inr (is, inl (omega (arith, full, counted.total_is)))) many

pub returns-in_err-index-clause-fault : goal.returns-in_err-index-clause-fault
returns-in_err-index-clause-fault g c = λ lines has.
    let numbering = g.B.Store.numbering in
    let old = c.self.inside.lines in
    let counted : HasCounted (contents_of old c.self.inside.counts.items c.self.inside.total) lines = subst (λ contents. HasCounted contents lines) (sym c.self.view_is) has in
    let refused : (error : InternError) × (c.intern.result ≡ Err error) × IfErr c.from_residual-in_err-index.result (λ fault. fault ≡ intern_fault error) = search rules in
    let found = rw refused.1 at c.intern.ensures in
    let taking = counted-refused numbering old c.self.inside.counts.items c.self.inside.total lines c.args.line.now refused.0 counted found.0 in
    IfErr-weaker c.from_residual-in_err-index.result (λ fault. fault ≡ intern_fault refused.0) (IsTakeFault (LacksCount numbering lines c.args.line.now)) (λ fault is. subst (IsTakeFault (LacksCount numbering lines c.args.line.now)) (sym is) taking) refused.2
