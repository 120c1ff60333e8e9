use Rattle.std.proofs.Common.{◌≡◌, ◌<◌, ◌^◌, ◌++◌, ◌∷◌, ◌-◌, ◌∙◌, [], length, take, replicate, arith, rules}
use Rattle.dictcol.specs.Plain.{npy_start}
use Rattle.dictcol.proofs.PlainColumns.{header-filled}
use Rattle.dictcol.proofs.plain.npy.format_header.Goals as goal

pub returns : goal.returns
returns c =
    let start : c.extend_from_slice-4.new.self.items ≡ npy_start c.args.count = search rules in
    let filled : c.resize.new.self.items ≡ take 127 c.extend_from_slice-4.new.self.items ++ replicate (127 - length c.extend_from_slice-4.new.self.items) 32 = search rules in
    let put : c.push.new.self.items ≡ c.resize.new.self.items ++ 10 ∷ [] = search rules in
    let fits : c.args.count < 2 ^ 64 = omega arith in
    put ∙ rw (filled, start) (header-filled c.args.count fits)
