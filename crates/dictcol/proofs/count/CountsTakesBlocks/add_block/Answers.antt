use Rattle.std.proofs.Common.{rules, ◌≡◌, Ok, Err, [], ◌++◌, length, ◌+◌, ◌^◌, ◌<◌, ◌≤◌, IfErr, inr, sym, subst}
use Rattle.std.proofs.lemmas.Result.{IfErr-weaker}
use Rattle.string_interner.specs.Extend.{texts_of}
use Rattle.string_interner.specs.declared.backend.InternError.{InternError}
use Rattle.dictcol.specs.Counts.{HasCounted, contents_of}
use Rattle.dictcol.specs.Fault.{IsTakeFault, intern_fault}
use Rattle.dictcol.specs.TooMany.{HasRefused, LacksCount}
use Rattle.dictcol.specs.declared.fault.Fault.TheVariants.{TooMany}
use Rattle.dictcol.proofs.CountBlocks.{block-counted, block-past, block-refused}
use Rattle.dictcol.proofs.count.CountsTakesBlocks.add_block.Goals as goal

pub returns-clause-taken : goal.returns-clause-taken
returns-clause-taken g c = λ lines has.
    let old = c.self.inside.lines in
    let counts = c.self.inside.counts.items in
    let given : c.intern_block.result ≡ Ok tt = search rules in
    let puts = rw given at c.intern_block.ensures in
    let none : c.truncate.new.self.items ≡ [] = c.truncate.ensures.items in
    let total : c.in_ok-total.total ≡ c.self.inside.total + length c.args.block.now = search rules in
    let fits : c.self.inside.total + length c.args.block.now < 2 ^ 64 = search rules in
    let counted : HasCounted (contents_of old counts c.self.inside.total) lines = subst (λ contents. HasCounted contents lines) (sym c.self.view_is) has in
    let ended : c.count_codes.result ≡ Ok tt = search rules in
    block-counted g.B.Store.numbering c.args.block.now old c.intern_block.new.self c.truncate.new.self.items c.intern_block.new.codes.items counts c.count_codes.new.counts.items c.self.inside.total c.in_ok-total.total
    puts none (rw ended at c.count_codes.ensures) total fits lines counted

pub returns-in_err-total-clause-fault : goal.returns-in_err-total-clause-fault
returns-in_err-total-clause-fault g c = λ lines has.
    let old = c.self.inside.lines in
    let counted : HasCounted (contents_of old c.self.inside.counts.items c.self.inside.total) lines = subst (λ contents. HasCounted contents lines) (sym c.self.view_is) has in
    let many : IfErr c.from_residual.result (λ fault. fault ≡ TooMany) = search rules in
    let past : 2 ^ 64 ≤ c.self.inside.total + length c.args.block.now = search rules in
    let small : c.self.inside.total < 2 ^ 64 = search rules in
    let why = block-past g.B.Store.numbering c.args.block.now old c.self.inside.counts.items c.self.inside.total small past lines counted in
    IfErr-weaker c.from_residual.result (λ fault. fault ≡ TooMany) (IsTakeFault (HasRefused (LacksCount g.B.Store.numbering) (lines ++ texts_of c.args.block.now)))
    (λ fault is. inr (is, why)) many

pub returns-in_err-map_err-clause-fault : goal.returns-in_err-map_err-clause-fault
returns-in_err-map_err-clause-fault g c = λ lines has.
    let numbering = g.B.Store.numbering in
    let old = c.self.inside.lines in
    let counted : HasCounted (contents_of old c.self.inside.counts.items c.self.inside.total) lines = subst (λ contents. HasCounted contents lines) (sym c.self.view_is) has in
    let refused : (error : InternError) × (c.intern_block.result ≡ Err error) × IfErr c.from_residual-in_err-map_err.result (λ fault. fault ≡ intern_fault error) = search rules in
    let puts = rw refused.1 at c.intern_block.ensures in
    let why = block-refused numbering c.args.block.now old c.intern_block.new.self c.truncate.new.self.items c.intern_block.new.codes.items c.self.inside.counts.items c.self.inside.total refused.0 puts lines counted in
    let Taking = IsTakeFault (HasRefused (LacksCount numbering) (lines ++ texts_of c.args.block.now)) in
    IfErr-weaker c.from_residual-in_err-map_err.result (λ fault. fault ≡ intern_fault refused.0) Taking (λ fault is. subst Taking (sym is) why) refused.2
