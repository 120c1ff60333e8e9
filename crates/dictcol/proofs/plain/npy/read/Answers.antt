use Rattle.std.proofs.Common.{◌≡◌, ◌<◌, ◌^◌, ℕ, List, All, IfErr, inr, rules}
use Rattle.std.specs.List.{flat_map}
use Rattle.std.proofs.lemmas.Result.{IfErr-weaker}
use Rattle.dictcol.specs.Plain.{code_bytes, IsNotALine}
use Rattle.dictcol.proofs.PlainColumns.{is-npy, npy-of}
use Rattle.dictcol.proofs.plain.npy.read.Goals as goal

pub returns-clause-ok : goal.returns-clause-ok
returns-clause-ok c =
    let header = c.in_ok-bytes.ensures.ok in
    let read = c.in_ok-check_numbers.ensures.ok in
    (read.0, read.1, is-npy c.args.limit read.0 c.args.file.now c.in_ok-bytes.bytes.now header.0 header.3 header.1 header.2 read.1)

pub returns-in_err-check_numbers-clause-err : goal.returns-in_err-check_numbers-clause-err
returns-in_err-check_numbers-clause-err c =
    let header = c.in_ok-bytes.ensures.ok in
    let found : IfErr c.from_residual-in_err-check_numbers.result (λ fault. (numbers : List ℕ) × (c.in_ok-bytes.bytes.now ≡ flat_map code_bytes numbers) × All (λ number. number < 2 ^ 32) numbers × IsNotALine c.args.limit numbers fault) = search rules in
    IfErr-weaker c.from_residual-in_err-check_numbers.result _ _ (λ fault why.
    inr (why.0, npy-of why.0 c.args.file.now c.in_ok-bytes.bytes.now header.0 header.3 header.1 header.2 why.1 why.2, why.3)) found
