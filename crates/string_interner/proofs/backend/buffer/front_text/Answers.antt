use Rattle.std.proofs.Common.{length, ap, ◌∙◌, arith}
use Rattle.std.specs.Option.{option_copied}
use Rattle.std.specs.Str.{IsValidUpTo, valid_up_to}
use Rattle.string_interner.specs.declared.backend.buffer.leb128.Spelled.{Spelled}
use Rattle.string_interner.proofs.Lemmas.BufferBackend.Reads.{read_front-no_front, read_front-short, read_front-tested, after_spelled, text_spelled}
use Rattle.string_interner.proofs.backend.buffer.front_text.Goals as goal

pub returns-in_err-spelled : goal.returns-in_err-spelled
returns-in_err-spelled c = rw c.from_residual.ensures (read_front-no_front c.args.bytes.now c.in_err-spelled.ensures)

pub returns-in_err-text : goal.returns-in_err-text
returns-in_err-text c =
    let number = ap (λ (r : Spelled). r.number) c.in_ok-spelled.ensures.1 in
    let after = after_spelled c.args.bytes.now c.in_ok-spelled.spelled c.in_ok-spelled.ensures.1 in
    rw c.from_residual-in_err-text.ensures (read_front-short c.args.bytes.now c.in_ok-spelled.ensures.0 (omega (arith, number, ap length after, c.in_err-text.ensures.lookup)))

pub returns : goal.returns
returns c =
    let number = ap (λ (r : Spelled). r.number) c.in_ok-spelled.ensures.1 in
    let after = after_spelled c.args.bytes.now c.in_ok-spelled.spelled c.in_ok-spelled.ensures.1 in
    let found = c.in_ok-text.ensures.lookup in
    ap option_copied c.ok.ensures.value
    ∙ read_front-tested c.args.bytes.now c.in_ok-text.text.now c.from_utf8.result (λ e. IsValidUpTo _ (valid_up_to e)) c.in_ok-spelled.ensures.0 (omega (arith, number, ap length after, found.0.1)) (text_spelled c.args.bytes.now c.in_ok-text.text.now c.in_ok-spelled.spelled c.in_ok-spelled.ensures.1 found.0.2) c.from_utf8.ensures.cases
