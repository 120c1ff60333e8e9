use Rattle.std.proofs.Common.{◌≡◌, ◌<◌, ◌≤◌, [], subst, sym, map, length, vec_capacity, arith, rules}
use Rattle.std.proofs.lemmas.List.{length_push}
use Rattle.std.proofs.lemmas.List.Elements.{AllWithin-more, AllWithin-none, at_read}
use Rattle.std.proofs.lemmas.Grind.{common_steps}
use Rattle.std.proofs.lemmas.Iterator.Consumers.{YieldsList-from_first, YieldsList-turn, YieldsList-end, count_from_yields_List}
use Rattle.std.proofs.lemmas.Slice.Zip.{all_zipped_more}
use Rattle.std.specs.List.{AllWithin, AllZip}
use Rattle.intern.specs.Line.{States}
use Rattle.intern.specs.Lines.{IsBad, IsStated, lines_of}
use Rattle.intern.proofs.serve.parse_commands.Goals as goal

pub returns-in_default-parse_command-clause-fault : goal.returns-in_default-parse_command-clause-fault
returns-in_default-parse_command-clause-fault c =
    let given = YieldsList-from_first (λ line. line.now) (λ lines. lines) (lines_of c.args.text.now) (cc) in
    let turn = YieldsList-turn given c.loop-line.yielded _ c.loop-line.yielded_by _ c.next.new.self c.in-Some.line c.in-Some.is c.next.ensures.steps in
    let bad : IsBad c.in-Some.line.now = c.parse_command.ensures.bad (search rules) in (
      length c.loop-line.yielded,
      omega (arith, c.len.ensures, c.loop-line.invariant.count),
      (turn.0, at_read (lines_of c.args.text.now) IsBad _ _ turn.0 turn.1 bad, c.loop-line.invariant.good),
    )

pub push_reserved-requires : goal.push_reserved-requires
push_reserved-requires c =
    let given = YieldsList-from_first (λ line. line.now) (λ lines. lines) (lines_of c.args.text.now) (cc) in
    let within : length c.loop-line.yielded < length (lines_of c.args.text.now) =
    (YieldsList-turn given c.loop-line.yielded _ c.loop-line.yielded_by _ c.next.new.self c.in-Some.line c.in-Some.is c.next.ensures.steps).0 in
    omega (arith, within, c.loop-line.invariant.count, c.loop-line.invariant.room)

pub loop-line-init : goal.loop-line-init
loop-line-init c =
    let given = YieldsList-from_first (λ line. line.now) (λ lines. lines) (lines_of c.args.text.now) c.new.ensures.lines in
    let all = count_from_yields_List _ _ c.count.ensures.ran given in
    let fits : c.count.result ≤ vec_capacity c.in-Ok.commands = search rules in
    let none : c.in-Ok.commands.items ≡ [] = search rules in
    record { stated = rw none tt; count = search rules; room = omega (arith, all, fits); good = AllWithin-none IsStated _ 0 }

pub loop-line-preserved : goal.loop-line-preserved
loop-line-preserved c =
    let given = YieldsList-from_first (λ line. line.now) (λ lines. lines) (lines_of c.args.text.now) (cc) in
    let turn = YieldsList-turn given c.loop-line.yielded _ c.loop-line.yielded_by _ c.next.new.self c.in-Some.line c.in-Some.is c.next.ensures.steps in
    let stated : States c.in-Some-parse_command.command c.in-Some.line.now = search rules in
    let good = AllWithin-more IsStated (lines_of c.args.text.now) 0 (length c.loop-line.yielded) c.loop-line.invariant.good
    (at_read (lines_of c.args.text.now) IsStated _ _ turn.0 turn.1 (c.in-Some-parse_command.command, stated)) in
    let more = all_zipped_more States c.loop-line.commands.items (map (λ x. x.now) c.loop-line.yielded) c.in-Some-parse_command.command c.in-Some.line.now c.loop-line.invariant.stated stated in
    record {
      stated = grind (arith, common_steps, more);
      count = grind (arith, common_steps);
      room = grind (arith, common_steps);
      good = subst (AllWithin IsStated (lines_of c.args.text.now) 0) (sym (length_push c.loop-line.yielded c.in-Some.line)) good;
    }

pub returns-clause-stated : goal.returns-clause-stated
returns-clause-stated c =
    let given = YieldsList-from_first (λ line. line.now) (λ lines. lines) (lines_of c.args.text.now) (cc) in
    let end = YieldsList-end given c.loop-line.yielded _ c.loop-line.yielded_by _ c.next.new.self c.in-None.is c.next.ensures.steps in
    subst (λ lines. AllZip States c.loop-line.commands.items lines) end.0 c.loop-line.invariant.stated
