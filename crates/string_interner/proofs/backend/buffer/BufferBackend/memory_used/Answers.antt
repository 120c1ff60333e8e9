use Rattle.std.proofs.Common.{◌≡◌, ◌≤◌, length, arith, rules, ap, ◌∙◌}
use Rattle.std.specs.Prelude.{vec_len, vec_capacity}
use Rattle.string_interner.specs.Backend.{Contents}
use Rattle.string_interner.specs.BufferBackend.{place_of}
use Rattle.string_interner.specs.BufferLaws.{length-bytes_of}
use Rattle.string_interner.proofs.backend.buffer.BufferBackend.memory_used.Goals as goal

pub returns : goal.returns
returns g c =
    let len : vec_len c.self.inside.bytes ≡ place_of c.args.self.now.texts = search rules ∙ ap length c.self.invariant.bytes_are ∙ length-bytes_of _ ∙ ap (λ (b : Contents). place_of b.texts) c.self.view_is in
    let room = ap (λ (b : Contents). b.room) c.self.view_is in
    let within : vec_len c.self.inside.bytes ≤ vec_capacity c.self.inside.bytes = search rules in
    omega (arith, len, room, within, c.capacity.ensures)
