use Rattle.std.proofs.Common.{◌≡◌, ℕ, ◌+◌, ◌%◌, ◌<◌, [], ◌∷◌, ◌++◌, length, map, get_or, None, sym, ap, ap₂, ◌∙◌, arith, rules, ◌^◌, ◌≤◌, IfErr, inr}
use Rattle.std.specs.Prelude.{decimal}
use Rattle.std.specs.Io.KnownBytes.{append_known}
use Rattle.std.proofs.lemmas.List.{length_push, length-map, map-set, get_or-map}
use Rattle.dictcol.specs.Shards.{held_by}
use Rattle.dictcol.proofs.Sharded.{shards-push, held-push}
use Rattle.std.proofs.lemmas.Result.{IfErr-weaker}
use Rattle.dictcol.specs.Fault.{IsTakeFault}
use Rattle.dictcol.specs.TooMany.{IsPastCount}
use Rattle.dictcol.specs.declared.fault.Fault.TheVariants.{TooMany}
use Rattle.dictcol.proofs.shards.Shards.add.Goals as goal

pub returns-clause-added : goal.returns-clause-added
returns-clause-added g c lines has =
    let code = g.H.TextHasher.code c.args.self.now.hasher in
    let hold = held_by g.W.Write.contents in
    let items = c.args.self.now.shards.items in
    let at = c.hash_text-code.result % c.len.result in
    let total : c.in_ok-total.total ≡ c.args.self.now.total + 1 = search rules in
    let count : c.len.result ≡ length items = search rules in
    let long = length-map items hold in
    let within : at < length items = search rules in
    let old = c.index_mut.result.now in
    let read : get_or (map hold items) at None ≡ hold old = get_or-map hold items at old None within ∙ ap hold (sym c.index_mut.ensures.value) in
    let put = held-push g.W.Write.contents old c.push_line.new.self c.args.line.now c.in_ok-push_line.ensures.same c.in_ok-push_line.ensures.ok in
    let told = held-push g.W.Write.contents c.args.self.now.order c.push_line-2.new.self (decimal at) c.in_ok-push_line-2.ensures.same
    (c.in_ok-push_line-2.ensures.ok ∙ ap (λ t. c.args.self.now.order.waiting.items ++ t ++ 10 ∷ []) c.format.ensures.text) in
    record {
      total_is = omega (arith, total, has.total_is, length_push lines c.args.line.now);
      held_are = λ known. rw map-set (shards-push code (map hold items) (hold c.args.self.now.order) lines c.args.line.now at (hold c.push_line.new.self) (hold c.push_line-2.new.self)
          (omega (arith, within, long)) (ap₂ (λ (a b : ℕ). a % b) c.hash_text-code.ensures (count ∙ sym long)) (put ∙ ap (λ o. append_known o (c.args.line.now ++ 10 ∷ [])) (sym read)) told (has.held_are known));
    }

pub returns-in_err-total-clause-fault : goal.returns-in_err-total-clause-fault
returns-in_err-total-clause-fault g c lines has =
    let many : IfErr c.from_residual.result (λ fault. fault ≡ TooMany) = search rules in
    let full : 2 ^ 64 ≤ c.args.self.now.total + 1 = search rules in
    IfErr-weaker c.from_residual.result (λ fault. fault ≡ TooMany) (IsTakeFault (IsPastCount lines c.args.line.now)) (λ fault is. inr (is, omega (arith, full, has.total_is))) many
