use Rattle.std.proofs.Common.{◌++◌, ap, sym, ◌∙◌}
use Rattle.std.proofs.lemmas.List.{map-id}
use Rattle.std.proofs.lemmas.Iterator.{items_from_drains, YieldsList-from_slice}
use Rattle.std.proofs.lemmas.Iterator.Consumers.{YieldsList-from_copied}
use Rattle.string_interner.specs.Extend.{texts_of}
use Rattle.examples.proofs.column.encode_day.Goals as goal

pub returns : goal.returns
returns c =
    let h = c.in_ok-encode.ensures in
    let yielded = h.2 in
    let then = rw yielded.1 at yielded.3 in
    let all = YieldsList-from_copied (YieldsList-from_slice c.args.pages.now (rw c.copied.ensures.source c.iter.ensures.rest)) in
    let are = items_from_drains h.0 (then.0, then.1, λ _. (yielded.2, then.2)) all in
    h.1 ∙ ap (λ old. old ++ texts_of h.0) c.new-visits.ensures ∙ ap texts_of (sym (map-id h.0) ∙ are)
