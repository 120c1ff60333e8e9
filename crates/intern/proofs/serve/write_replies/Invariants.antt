use Rattle.std.proofs.Common.{take}
use Rattle.std.specs.Io.KnownBytes.{Appends}
use Rattle.std.specs.List.{flat_map}
use Rattle.intern.specs.Line.{reply_line}
use Rattle.intern.proofs.serve.write_replies.Given as goal

-- the lines of the replies so far were written
abbrev pub invariant-loop-reply : goal.invariant-loop-reply
invariant-loop-reply g l =
    Appends (g.W.Write.contents l.initial.output) (g.W.Write.contents l.output) (flat_map reply_line (take l.reply-index l.replies))
