use Rattle.std.proofs.Common.{◌≡◌, ◌++◌, ◌∷◌, [], rules, ap, ◌∙◌}
use Rattle.std.specs.String.{string_bytes}
use Rattle.string_interner.specs.StringBackend.{cut, IsJoined}
use Rattle.string_interner.specs.Backend.{Contents}
use Rattle.string_interner.proofs.Lemmas.StringBackend.IsCut.{stored-more}
use Rattle.string_interner.proofs.backend.string.StringBackendStore.intern.Goals as goal
use Rattle.string_interner.proofs.backend.string.StringBackendStore.intern.Goals.{After-push_reserved}
use Rattle.string_interner.proofs.backend.string.StringBackendStore.intern.Given.{Over}

-- the text is stored
stored : (g : Over) (c : After-push_reserved g) → (cut 0 (string_bytes c.push_str.new.self) c.push_reserved.new.self.items ≡ cut 0 (string_bytes c.self.inside.joined) c.self.inside.ends.items ++ c.args.text.now ∷ []) × IsJoined g.S.Symbol.symbol_of (string_bytes c.push_str.new.self) c.push_reserved.new.self.items (cut 0 (string_bytes c.push_str.new.self) c.push_reserved.new.self.items)
stored g c = stored-more g.S.Symbol.symbol_of _ _ _ _ _ c.self.invariant c.utf8.text (rw (ap (λ (b : Contents). b.texts) c.self.view_is) (search rules)) c.push_reserved.ensures.fits (search rules) (search rules)

pub invariant_of-self-2 : goal.invariant_of-self-2
invariant_of-self-2 g c = (stored g c).1

pub returns : goal.returns
returns g c = record {
  appends = (search rules, (stored g c).0 ∙ ap (λ (b : Contents). b.texts ++ c.args.text.now ∷ []) c.self.view_is);
  valid = (stored g c).1.valid;
  buckets = search rules;
  room = search rules;
}
