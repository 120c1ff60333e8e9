use Rattle.std.proofs.Common.{rules, ◌≡◌, Ok, Err, [], ◌++◌, IfErr, refl, sym, ap, ◌∙◌, arith}
use Rattle.std.proofs.lemmas.List.{length-map}
use Rattle.std.proofs.lemmas.Result.{IfErr-weaker}
use Rattle.string_interner.specs.Extend.{fresh, texts_of}
use Rattle.string_interner.specs.declared.backend.InternError.{InternError}
use Rattle.dictcol.specs.Fault.{IsTakeFault, intern_fault}
use Rattle.dictcol.specs.Lines.{ended_text}
use Rattle.dictcol.specs.TooMany.{HasRefused, LacksLine}
use Rattle.dictcol.proofs.HasMet.{met-more}
use Rattle.dictcol.proofs.PutsRows.{puts-codes, puts-grown, puts-long, puts-refused}
use Rattle.dictcol.proofs.distinct.DistinctLinesTakesBlocks.add_block.Goals as goal

pub returns-in_err-map_err-clause-fault : goal.returns-in_err-map_err-clause-fault
returns-in_err-map_err-clause-fault g c = λ lines has.
    let numbering = g.B.Store.numbering in
    let block = c.args.block.now in
    let refused : (error : InternError) × (c.intern_block.result ≡ Err error) × IfErr c.from_residual.result (λ fault. fault ≡ intern_fault error) = search rules in
    let puts = rw refused.1 at c.intern_block.ensures in
    let why = puts-refused numbering block c.args.self.now.lines c.intern_block.new.self c.truncate.new.self.items c.intern_block.new.codes.items lines has.lines_are refused.0 puts in
    let Taking = IsTakeFault (HasRefused (LacksLine numbering) (lines ++ texts_of block)) in
    IfErr-weaker c.from_residual.result (λ fault. fault ≡ intern_fault refused.0) Taking (λ fault is. rw is why) refused.2

pub push_new-requires : goal.push_new-requires
push_new-requires g c =
    let given : c.intern_block.result ≡ Ok tt = search rules in
    let none : c.truncate.new.self.items ≡ [] = c.truncate.ensures.items in
    let long = puts-long g.B.Store.numbering c.args.block.now c.args.self.now.lines c.intern_block.new.self c.truncate.new.self.items c.intern_block.new.codes.items (rw given at c.intern_block.ensures) none in
    omega (arith, long)

pub returns-clause-taken : goal.returns-clause-taken
returns-clause-taken g c = λ lines has.
    let numbering = g.B.Store.numbering in
    let block = c.args.block.now in
    let old = c.args.self.now.lines in
    let waiting = c.args.self.now.waiting.items in
    let given : c.intern_block.result ≡ Ok tt = search rules in
    let puts = rw given at c.intern_block.ensures in
    let none : c.truncate.new.self.items ≡ [] = c.truncate.ensures.items in
    let codes = puts-codes numbering block old c.intern_block.new.self c.truncate.new.self.items c.intern_block.new.codes.items lines has.lines_are puts none in
    let long = length-map block (λ line. line.now) in
    let pushed = c.in_ok-push_new.ensures.ok lines (record { known_is = rw (← has.lines_are) (search rules); codes_are = codes }) in
    met-more _ _ lines (texts_of block) (puts-grown numbering block old c.intern_block.new.self c.truncate.new.self.items c.intern_block.new.codes.items puts) refl
    (omega (arith, c.saturating_add-self.ensures, long)) (pushed ∙ ap (λ texts. waiting ++ ended_text (fresh texts (texts_of block))) (sym has.lines_are)) has
