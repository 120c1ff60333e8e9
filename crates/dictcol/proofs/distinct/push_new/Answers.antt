use Rattle.std.proofs.Common.{◌+◌, ◌<◌, ◌≤◌, [], length, sym, arith, rules}
use Rattle.std.proofs.lemmas.List.{get_or-map}
use Rattle.std.proofs.lemmas.Slice.Zip.{AllZip-long}
use Rattle.string_interner.specs.Extend.{texts_of}
use Rattle.dictcol.proofs.HasMet.{pushed-begin, pushed-end, pushed-known, pushed-new}
use Rattle.dictcol.proofs.distinct.push_new.Goals as goal

pub loop-at-init : goal.loop-at-init
loop-at-init c = record { few = omega arith; pushed = λ lines by. pushed-begin c.args.waiting.now.items lines (texts_of c.args.block.now) }

pub loop-at-preserved-then-code-known : goal.loop-at-preserved-then-code-known
loop-at-preserved-then-code-known c =
    let within : c.loop-at.at < length c.args.codes.now.items = search rules in
    let before : c.at-code.result < c.args.known = search rules in
    record {
      few = omega (arith, c.loop-at.invariant.few);
      pushed = λ lines by. pushed-known _ _ lines _ c.args.known c.args.codes.now.items c.loop-at.at c.at-code.result c.loop-at.new by within c.at-code.ensures (c.loop-at.invariant.pushed lines by) (omega (arith, before));
    }

pub loop-at-preserved-then-code-known-2 : goal.loop-at-preserved-then-code-known-2
loop-at-preserved-then-code-known-2 c =
    let within : c.loop-at.at < length c.args.codes.now.items = search rules in
    let before : c.at-code.result < c.args.known + c.loop-at.new = search rules in
    record {
      few = omega (arith, c.loop-at.invariant.few);
      pushed = λ lines by. pushed-known _ _ lines _ c.args.known c.args.codes.now.items c.loop-at.at c.at-code.result c.loop-at.new by within c.at-code.ensures (c.loop-at.invariant.pushed lines by) before;
    }

pub loop-at-preserved : goal.loop-at-preserved
loop-at-preserved c =
    let block = c.args.block.now in
    let within : c.loop-at.at < length c.args.codes.now.items = search rules in
    let inside : c.loop-at.at < length block = search rules in
    let behind : c.args.known + c.loop-at.new ≤ c.at-code.result = search rules in
    record {
      few = omega (arith, c.loop-at.invariant.few);
      pushed = λ lines by. pushed-new _ _ lines _ c.args.known c.args.codes.now.items c.loop-at.at c.at-code.result c.loop-at.new by within c.at-code.ensures (c.loop-at.invariant.pushed lines by)
          c.push_line.new.bytes.items _ behind (sym (get_or-map (λ line. line.now) block c.loop-at.at _ [] inside)) c.in_ok-push_line.ensures.ok;
    }

pub returns-clause-ok : goal.returns-clause-ok
returns-clause-ok c = λ lines by.
    let long = AllZip-long _ c.args.codes.now.items (texts_of c.args.block.now) by.codes_are in
    let all : length c.args.codes.now.items ≤ c.loop-at.at = search rules in
    pushed-end c.args.waiting.now.items c.loop-at.waiting.items lines (texts_of c.args.block.now) c.args.known c.args.codes.now.items c.loop-at.at c.loop-at.new by (omega (arith, long, all)) (c.loop-at.invariant.pushed lines by)
