use Rattle.std.proofs.Common.{rules}
use Rattle.std.specs.Cmp.{unsigned_Decides}
use Rattle.handles.proofs.Lemmas.Ascii.{eights_are_ascii, fours_are_ascii}
use Rattle.handles.proofs.text.is_short_ascii.Goals as goal

pub returns-then-len-ge8 : goal.returns-then-len-ge8
returns-then-len-ge8 c none = eights_are_ascii c.args.bytes.now c.from_le_bytes-first.result c.from_le_bytes-last.result
    (search rules) (search rules) (search rules) (search rules) (search rules) ((unsigned_Decides _ _).0 none)

pub returns-else-len-ge8 : goal.returns-else-len-ge8
returns-else-len-ge8 c none = fours_are_ascii c.args.bytes.now c.from_le_bytes-first-else-len-ge8.result c.from_le_bytes-last-else-len-ge8.result
    (search rules) (search rules) (search rules) (search rules) (search rules) ((unsigned_Decides _ _).0 none)
