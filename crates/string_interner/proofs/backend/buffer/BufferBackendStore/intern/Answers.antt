use Rattle.std.proofs.Common.{◌≡◌, ◌+◌, ◌++◌, ◌∷◌, [], length, arith, rules, ap, ◌∙◌}
use Rattle.string_interner.specs.Backend.{Contents}
use Rattle.string_interner.specs.BufferBackend.{front_texts, IsSpelled}
use Rattle.string_interner.specs.BufferLaws.{digits-least_count}
use Rattle.string_interner.proofs.Lemmas.BufferBackend.Bytes.{spelled-more, count_below}
use Rattle.string_interner.proofs.backend.buffer.BufferBackendStore.intern.Goals as goal
use Rattle.string_interner.proofs.backend.buffer.BufferBackendStore.intern.Goals.{After-unwrap}
use Rattle.string_interner.proofs.backend.buffer.BufferBackendStore.intern.Given.{Over}

-- the text is spelled
spelled : (g : Over) (c : After-unwrap g) → (front_texts (c.self.inside.count + 1) c.extend_from_slice.new.self.items ≡ front_texts c.self.inside.count c.self.inside.bytes.items ++ c.args.text.now ∷ []) × IsSpelled g.S.Symbol.symbol_of c.extend_from_slice.new.self.items (front_texts (c.self.inside.count + 1) c.extend_from_slice.new.self.items)
spelled g c = spelled-more g.S.Symbol.symbol_of _ _ _ _ c.self.invariant c.utf8.text (rw (ap (λ (b : Contents). b.texts) c.self.view_is) (search rules)) (omega (arith, c.extend_from_slice.new.self.small, c.extend_from_slice.new.self.ok.1, c.extend_from_slice.new.self.ok.0)) (search rules)

pub overflow_add-self : goal.overflow_add-self
overflow_add-self g c = omega (arith, count_below g.S.Symbol.symbol_of _ _ c.self.invariant, (digits-least_count (length c.args.text.now)).positive, c.push_number.new.buffer.ok.1)

pub invariant_of-self-2 : goal.invariant_of-self-2
invariant_of-self-2 g c = (spelled g (goal.at.invariant_of-self-2 g c).After-unwrap).1

pub returns : goal.returns
returns g c = let is = spelled g (goal.at.returns g c).After-unwrap in record {
  appends = (search rules, is.0 ∙ ap (λ (b : Contents). b.texts ++ c.args.text.now ∷ []) c.self.view_is);
  valid = is.1.valid;
  buckets = search rules;
  room = search rules;
}
