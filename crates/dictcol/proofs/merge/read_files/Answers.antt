use Rattle.std.proofs.Common.{◌≡◌, ◌<◌, ◌≤◌, ◌+◌, length, map, take, string_bytes, sym, ap, subst, ◌∙◌, arith, rules, inl}
use Rattle.std.specs.Prelude.{IfSome}
use Rattle.std.proofs.lemmas.List.{get_or-set_other, length-set, take_all, take-map}
use Rattle.dictcol.specs.File.{DecodesFile, HoldTogether}
use Rattle.dictcol.specs.Lines.{AreLines, has_newline, lines_of, text_of_ended}
use Rattle.dictcol.specs.Merge.{IsInputFault}
use Rattle.dictcol.specs.TooMany.{HasRefused, LacksLine}
use Rattle.dictcol.proofs.HoldTogether.{input-at, inputs-more, together-more}
use Rattle.dictcol.proofs.TooMany.{take-weaker}
use Rattle.dictcol.proofs.merge.read_files.Goals as goal

pub loop-at-preserved : goal.loop-at-preserved
loop-at-preserved g c =
    let known = g.R.Read.remaining in
    let inputs = c.args.inputs.now in
    let now = c.loop-at.inputs in
    let at = c.loop-at.at in
    let input = c.index-inputs-at.result in
    let inv = c.loop-at.invariant in
    let within : at < length inputs = omega (arith, inv.all, c.loop-at-test.true) in
    let more = c.in-Ok.ensures.ok in
    let holds = subst (λ r. IfSome (known r) (λ file. DecodesFile file more.0)) (sym c.index-inputs-at.is) more.2 in
    record {
      so_far = subst (HoldTogether (map known (take (at + 1) inputs))) (sym more.1)
          (rw (inputs-more known inputs now at input inv.ahead within c.index-inputs-at.is) (together-more (map known (take at inputs)) (known input) c.loop-at.text more.0 inv.so_far holds));
      ahead = λ i d further. get_or-set_other now at i c.append_input.new.input d (λ e. omega (arith, e, further)) ∙ inv.ahead i d (omega (arith, further));
      long = length-set now at c.append_input.new.input ∙ inv.long;
      all = inv.all;
    }

pub returns-in-Err-clause-fault : goal.returns-in-Err-clause-fault
returns-in-Err-clause-fault g c =
    let inv = c.loop-at.invariant in
    let within : c.loop-at.at < length c.args.inputs.now = omega (arith, inv.all, c.loop-at-test.true) in
    let input = c.index-inputs-at.result in (
      g.R.Read.remaining input,
      input-at g.R.Read.remaining c.args.inputs.now c.loop-at.inputs c.loop-at.at input inv.ahead within c.index-inputs-at.is,
      (
        c.loop-at.text,
        subst (λ before. HoldTogether before c.loop-at.text) (sym (take-map g.R.Read.remaining c.loop-at.at c.args.inputs.now)) inv.so_far,
        subst (λ r. IsInputFault g.B.Store.numbering c.loop-at.text (g.R.Read.remaining r) c.in-Err.fault) (sym c.index-inputs-at.is) c.in-Err.ensures.fault,
      ),
    )

pub end_rest-requires-clause-plain : goal.end_rest-requires-clause-plain
end_rest-requires-clause-plain g c = c.text-2.invariant.0

pub end_rest-requires-clause-rest_plain : goal.end_rest-requires-clause-rest_plain
end_rest-requires-clause-rest_plain g c =
    let last : c.as_str.result.now ≡ string_bytes c.text-2.inside.rest = search rules in ap has_newline last ∙ c.text-2.invariant.1

pub returns-in-Ok-end_rest-clause-lines : goal.returns-in-Ok-end_rest-clause-lines
returns-in-Ok-end_rest-clause-lines g c =
    let inv = c.loop-at.invariant in
    let inputs = c.args.inputs.now in
    let over : length inputs ≤ c.loop-at.at = omega (arith, inv.all, c.loop-at-test.false) in
    let last : c.as_str.result.now ≡ string_bytes c.text-2.inside.rest = search rules in (
      c.loop-at.text,
      subst (λ read. HoldTogether (map g.R.Read.remaining read) c.loop-at.text) (take_all c.loop-at.at inputs over) inv.so_far,
      subst (λ text. AreLines text c.end_rest.new.lines c.in-Ok-end_rest.is_ended) (ap (text_of_ended c.text-2.inside.lines) last ∙ c.text-2.view_is) c.in-Ok-end_rest.ensures.ok,
    )

pub returns-in-Err-end_rest-clause-fault : goal.returns-in-Err-end_rest-clause-fault
returns-in-Err-end_rest-clause-fault g c =
    let inv = c.loop-at.invariant in
    let inputs = c.args.inputs.now in
    let over : length inputs ≤ c.loop-at.at = omega (arith, inv.all, c.loop-at-test.false) in
    let last : c.as_str.result.now ≡ string_bytes c.text-2.inside.rest = search rules in
    let together = subst (λ read. HoldTogether (map g.R.Read.remaining read) c.loop-at.text) (take_all c.loop-at.at inputs over) inv.so_far in
    inl (take-weaker _ (λ refused. (
      c.loop-at.text,
      together,
      subst (λ text. HasRefused (LacksLine g.B.Store.numbering) (lines_of text)) (ap (text_of_ended c.text-2.inside.lines) last ∙ c.text-2.view_is) refused,
    )) c.in-Err-end_rest.ensures.fault)
