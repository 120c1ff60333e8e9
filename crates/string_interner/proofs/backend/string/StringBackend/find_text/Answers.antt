use Rattle.std.proofs.Common.{◌≡◌, length, sym, ap, ◌∙◌, arith}
use Rattle.std.proofs.lemmas.Option.{slice_get_past}
use Rattle.string_interner.specs.Backend.{Contents}
use Rattle.string_interner.proofs.Lemmas.StringBackend.IsCut.{cut_length}
use Rattle.string_interner.proofs.backend.string.StringBackend.find_text.Goals as goal

pub text_at-requires : goal.text_at-requires
text_at-requires g c =
    let n : length c.args.self.now.texts ≡ length c.self.inside.ends.items = ap (λ (b : Contents). length b.texts) (sym c.self.view_is) ∙ cut_length 0 _ _ in
    omega (arith, c.len.ensures)

pub returns-in-None-2 : goal.returns-in-None-2
returns-in-None-2 g c =
    let n : length c.args.self.now.texts ≡ length c.self.inside.ends.items = ap (λ (b : Contents). length b.texts) (sym c.self.view_is) ∙ cut_length 0 _ _ in
    sym (slice_get_past c.args.self.now.texts c.args.index (omega (arith, c.len.ensures)))
