use Rattle.std.proofs.Common.{sym}
use Rattle.handles.proofs.Lemmas.InternMany.{parts-length}
use Rattle.handles.proofs.any.intern_many.PartsTexts.len.Goals as goal

pub returns : goal.returns
returns c = sym (parts-length c.args.self.now.bytes.now 0 c.args.self.now.ends.now)
