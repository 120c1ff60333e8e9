use Rattle.std.proofs.Common.{rules, ◌≡◌, ◌++◌, ◌∷◌, [], length, replicate, None, Err, refl, sym, subst}
use Rattle.string_interner.specs.Text.{IsDistinct}
use Rattle.string_interner.specs.Extend.{texts_of}
use Rattle.string_column.proofs.Lemmas.Counts.{dictionary-distinct}
use Rattle.dictcol.specs.Fault.{IsTakeFault}
use Rattle.dictcol.specs.TooMany.{HasRefused, LacksLine}
use Rattle.dictcol.proofs.Sought.{no-numbers, one-indexed, text-refused}
use Rattle.dictcol.proofs.plain.find.Sought.new.Goals as goal

pub returns-in-Err-clause-fault : goal.returns-in-Err-clause-fault
returns-in-Err-clause-fault g c =
    let refused : c.intern.result ≡ Err c.in-Err.error = search rules in
    let found = rw refused at c.intern.ensures in
    let Is = IsTakeFault (HasRefused (LacksLine g.B.Store.numbering) (texts_of c.args.asked.now)) in
    subst Is (sym c.of_intern.ensures.value)
    (text-refused g.B.Store.numbering c.args.asked.now c.loop-text.text-index _ c.loop-text.texts c.in-Err.error c.loop-text-test.true c.loop-text.invariant.dictionary_is found.0)

pub loop-text-preserved : goal.loop-text-preserved
loop-text-preserved g c =
    let put : c.push.new.self.items ≡ c.loop-text.codes.items ++ c.in-Ok.code ∷ [] = search rules in
    one-indexed c.args.asked.now c.loop-text.text-index _ c.loop-text.texts c.intern.new.self _ _ _ c.loop-text-test.true c.loop-text.invariant c.in-Ok.ensures.0 c.in-Ok.ensures.1 put

pub returns-clause-none : goal.returns-clause-none
returns-clause-none g c =
    let numbers : c.in-Ok-vec.numbers.items ≡ replicate (length c.loop-text.texts) None = search rules in
    record {
      distinct = subst IsDistinct (sym c.loop-text.invariant.dictionary_is) (dictionary-distinct _);
      numbers_are = no-numbers c.loop-text.texts _ _ numbers refl;
      total_is = refl;
    }
