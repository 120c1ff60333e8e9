use Rattle.std.proofs.Common.{refl, rules, ap, set}
use Rattle.std.proofs.lemmas.List.{length-set}
use Rattle.handles.specs.Status.{status_of}
use Rattle.handles.proofs.Lemmas.InternMany.{interns_as, no-texts, more-texts, given_refused, text_refused}
use Rattle.handles.proofs.any.intern_many.intern_each.Goals as goal

pub loop-at-init : goal.loop-at-init
loop-at-init g c = record { fits = search rules; takes = λ kind is. no-texts _ _ _ (search rules); done = refl }

pub loop-at-preserved : goal.loop-at-preserved
loop-at-preserved g c =
    let so_far = c.loop-at.invariant in
    record {
      fits = rw (length-set c.loop-at.symbols c.loop-at.at c.to_u32.result) so_far.fits;
      takes = λ kind is. more-texts _ _ _ _ c.loop-at.at c.loop-at.symbols (so_far.takes kind is) (search rules) c.in_ok-text.text c.in_ok-text.ensures _ c.in_ok-symbol.symbol _ (interns_as _ _ _ _ _ c.in_ok-symbol.ensures kind is)
          (ap (λ s. set c.loop-at.symbols c.loop-at.at s) c.to_u32.ensures);
      done = refl;
    }

pub returns-in_err-text : goal.returns-in_err-text
returns-in_err-text g c = λ kind is.
    let so_far = c.loop-at.invariant in
    rw so_far.done (given_refused _ _ _ _ c.loop-at.at _ (so_far.takes kind is) (search rules) c.args.done.now c.in_err-text.field-0.0 c.from_residual.result (search rules) c.in_err-text.ensures)

pub returns-in_err-symbol : goal.returns-in_err-symbol
returns-in_err-symbol g c = λ kind is.
    let so_far = c.loop-at.invariant in
    rw so_far.done (text_refused _ _ _ _ c.loop-at.at _ (so_far.takes kind is) (search rules) c.args.done.now c.in_ok-text.text c.in_ok-text.ensures _ c.in_err-symbol.field-0.0 (status_of c.in_err-symbol.field-0.0)
    c.from_residual-in_err-symbol.result (search rules) refl (interns_as _ _ _ _ _ c.in_err-symbol.ensures kind is))
