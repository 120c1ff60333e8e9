use Rattle.std.proofs.Common.{◌≡◌, ℕ, ◌<◌, ◌^◌, ◌++◌, [], get_or, take, sym, subst, arith, append-nil, rules}
use Rattle.std.specs.Io.KnownBytes.{Appends}
use Rattle.std.specs.List.{flat_map}
use Rattle.std.proofs.KnownBytes.{Appends-trans}
use Rattle.std.proofs.lemmas.List.{take_all}
use Rattle.dictcol.specs.Plain.{code_bytes}
use Rattle.dictcol.specs.Writes.{Puts}
use Rattle.dictcol.proofs.PlainColumns.{appends-kept, in-any-case, npy-written}
use Rattle.dictcol.proofs.Puts.{puts-all}
use Rattle.dictcol.proofs.plain.npy.write_file.Goals as goal

pub loop-number-init : goal.loop-number-init
loop-number-init g c =
    let start = g.W.Write.contents c.args.output.now in
    let front = c.args.header.now ++ c.args.earlier.now in
    subst (Puts start c.args.block.now (g.W.Write.contents c.append-2.new.output) c.append-2.new.self) (sym (append-nil front))
    (Appends-trans _ _ _ c.args.header.now c.args.earlier.now c.in_ok-append.ensures.puts c.in_ok-append-2.ensures.puts)

pub returns : goal.returns
returns g c = λ limit front are.
    let numbers = c.args.numbers.now in
    let start = g.W.Write.contents c.args.output.now in
    let written = g.W.Write.contents c.write.new.output in
    let all : take c.loop-number.number-index c.args.numbers.now ≡ c.args.numbers.now = search (rules, take_all) in
    let bytes = (c.args.header.now ++ c.args.earlier.now) ++ flat_map code_bytes numbers in
    let small : (i : ℕ) → get_or c.args.numbers.now i 0 < 2 ^ 32 = λ i. omega (arith, c.type_inv.numbers i) in
    let puts = rw all at c.loop-number.invariant in
    let wrote = puts-all _ _ _ _ _ c.requires.empty c.in_ok-write.ensures.empty (Appends-trans _ _ _ _ [] puts c.in_ok-write.ensures.puts) in
    in-any-case c.flush.result (
      bytes,
      npy-written limit front numbers c.args.header.now c.args.earlier.now c.requires.header c.requires.fits are small,
      appends-kept start written (g.W.Write.contents c.flush.new.self) bytes (subst (Appends start written) (append-nil bytes) wrote) c.flush.ensures.bytes,
    )
