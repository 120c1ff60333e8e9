use Rattle.std.proofs.Common.{◌≡◌, ◌<◌, ◌+◌, ◌-◌, ◌*◌, ◌^◌, length, get_or, take, ap, subst, ◌∙◌, arith, rules}
use Rattle.std.specs.Char.{digit_value, IsAsciiDigit}
use Rattle.std.specs.Str.Parse.{AllDigits, digits_value}
use Rattle.std.proofs.lemmas.List.{take_all}
use Rattle.std.proofs.lemmas.Str.{digit_value_digit}
use Rattle.dictcol.proofs.StreamTokens.{number-is, digit-more}
use Rattle.dictcol.proofs.json_form.stream.read_index.Goals as goal

pub loop-byte-preserved : goal.loop-byte-preserved
loop-byte-preserved c =
    let bytes = c.as_bytes-bytes.result.now in
    let i = c.loop-byte.byte-index in
    let byte = get_or c.as_bytes-bytes.result.now c.loop-byte.byte-index 0 in
    let range : IsAsciiDigit byte = search rules in
    let digit : digit_value byte < 10 = search rules in
    let tens : c.in_ok-tens.tens ≡ c.loop-byte.index * 10 = search rules in
    let sum : c.in_ok-index.index ≡ c.in_ok-tens.tens + (byte - 48) = search rules in
    let more = digit-more bytes i c.loop-byte.index c.in_ok-index.index c.loop-byte-test.true c.loop-byte.invariant.digits c.loop-byte.invariant.value digit
    (omega (arith, digit_value_digit byte range, range, tens, sum)) in
    record { digits = more.0; value = more.1 }

pub returns-then-index-count-clause-number : goal.returns-then-index-count-clause-number
returns-then-index-count-clause-number c =
    let bytes = c.as_bytes-bytes.result.now in
    let whole : take c.loop-byte.byte-index c.as_bytes-bytes.result.now ≡ c.args.text.now = take_all c.loop-byte.byte-index bytes (omega (arith, c.loop-byte-test.false)) ∙ c.as_bytes-bytes.ensures.value in
    let some : 0 < length c.args.text.now = search rules in
    let fits : c.loop-byte.index < 2 ^ 64 = search rules in
    number-is c.args.text.now c.loop-byte.index some (subst (AllDigits 10) whole c.loop-byte.invariant.digits)
    (c.loop-byte.invariant.value ∙ ap (digits_value 10) whole) fits
