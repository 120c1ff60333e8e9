use Rattle.std.proofs.Common.{◌≡◌, ◌+◌, ◌-◌, IfErr, length, inr, ap, subst, ◌∙◌, arith, rules}
use Rattle.std.proofs.lemmas.Result.{IfErr-weaker}
use Rattle.dictcol.specs.Plain.{AreNumbers, IsLinesFile, IsNpy, IsNumbersFault}
use Rattle.dictcol.proofs.HeldRows.{files-held, text-held}
use Rattle.dictcol.proofs.LineBounds.{bounds-long}
use Rattle.dictcol.proofs.plain.held.HeldRows.new.Goals as goal

pub overflow_sub-len : goal.overflow_sub-len
overflow_sub-len c =
    let read = c.in_ok-bounds.ensures.ok in
    let long : length c.in_ok-bounds.bounds.items ≡ length read.0 + 1 = ap length read.2 ∙ bounds-long 0 read.0 in
    let same : c.len.result ≡ length c.in_ok-bounds.bounds.items = search rules in
    omega (arith, long, same)

pub returns-in_err-read-clause-err : goal.returns-in_err-read-clause-err
returns-in_err-read-clause-err c =
    let read = c.in_ok-bounds.ensures.ok in
    let is = subst (IsLinesFile read.0) c.deref.ensures.value read.1 in
    let long : length c.in_ok-bounds.bounds.items ≡ length read.0 + 1 = ap length read.2 ∙ bounds-long 0 read.0 in
    let same : c.len.result ≡ length c.in_ok-bounds.bounds.items = search rules in
    let count : c.len.result - 1 ≡ length read.0 = omega (arith, long, same) in
    let none : IfErr c.from_residual-in_err-read.result (IsNumbersFault (c.len.result - 1) c.args.numbers.items) = search rules in
    IfErr-weaker c.from_residual-in_err-read.result _ _ (λ fault why. inr (read.0, is, subst (λ n. IsNumbersFault n c.args.numbers.items fault) count why)) none

pub invariant_of-result : goal.invariant_of-result
invariant_of-result c =
    let read = c.in_ok-bounds.ensures.ok in
    let numbers = c.in_ok-read.ensures.ok in
    let is = subst (IsLinesFile read.0) c.deref.ensures.value read.1 in
    let npy = subst (IsNpy numbers.0) c.deref-2.ensures.value numbers.2 in
    let long : length c.in_ok-bounds.bounds.items ≡ length read.0 + 1 = ap length read.2 ∙ bounds-long 0 read.0 in
    let same : c.len.result ≡ length c.in_ok-bounds.bounds.items = search rules in
    let count : c.len.result - 1 ≡ length read.0 = omega (arith, long, same) in
    let are = subst (λ n. AreNumbers n numbers.0 c.in_ok-read.field-0.now) count numbers.1 in
    files-held read.0 numbers.0 c.in_ok-bounds.bounds.items c.args.dictionary.items c.args.numbers.items c.in_ok-read.field-0.now is read.2 are npy

pub returns-clause-ok : goal.returns-clause-ok
returns-clause-ok c =
    let read = c.in_ok-bounds.ensures.ok in
    let numbers = c.in_ok-read.ensures.ok in
    let is = subst (IsLinesFile read.0) c.deref.ensures.value read.1 in
    let npy = subst (IsNpy numbers.0) c.deref-2.ensures.value numbers.2 in
    let long : length c.in_ok-bounds.bounds.items ≡ length read.0 + 1 = ap length read.2 ∙ bounds-long 0 read.0 in
    let same : c.len.result ≡ length c.in_ok-bounds.bounds.items = search rules in
    let count : c.len.result - 1 ≡ length read.0 = omega (arith, long, same) in
    let are = subst (λ n. AreNumbers n numbers.0 c.in_ok-read.field-0.now) count numbers.1 in
    text-held read.0 numbers.0 c.in_ok-bounds.bounds.items c.args.dictionary.items c.args.numbers.items c.in_ok-read.field-0.now is read.2 are npy c.args.is_cut
