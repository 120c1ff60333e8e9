use Rattle.std.proofs.Common.{◌≡◌, [], Result, Ok, Err, IfOk, MatchResult, sym, subst}
use Rattle.std.specs.Result.{is_ok}
use mathlib.Core.Bool.{true≢false}
use Rattle.string_interner.specs.Run.{RunsAll}
use Rattle.intern.proofs.serve.run_over.Goals as goal

-- what holds of a value, and what follows from it, hold under another error
mapped : {T E F : Type 0} (outcome : Result T E) (told : Result T F) (P Q : T → Type 0) (R : E → Type 0) → ((value : T) → P value → Q value)
    → MatchResult outcome (λ value. told ≡ Ok value) R → is_ok told ≡ is_ok outcome → IfOk outcome P → IfOk told Q
mapped (Ok value) told P Q R f is same p = subst (λ it. IfOk it Q) (sym is) (f value p)
mapped (Err error) (Ok value) P Q R f is same p = absurd (true≢false same)
mapped (Err error) (Err other) P Q R f is same p = tt

pub returns-clause-ran : goal.returns-clause-ran
returns-clause-ran g c =
    mapped c.run.result c.map_err.result _ _ _ (λ replies ran. (c.run.new.interner.texts, ran)) c.map_err.ensures.cases c.map_err.ensures.variant
    (subst (λ texts. RunsAll g.B.Store.numbering texts c.args.commands.now c.run.result c.run.new.interner.texts) c.new-interner.ensures.texts c.run.ensures.run)
