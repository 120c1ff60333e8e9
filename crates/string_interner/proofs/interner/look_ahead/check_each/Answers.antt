use Rattle.std.proofs.Common.{rules, sym, ap, subst, ◌≡◌, ◌∙◌, Bor}
use Rattle.std.specs.Prelude.{slice_index_or, None}
use Rattle.std.proofs.lemmas.Bool.{not-false}
use Rattle.std.proofs.lemmas.List.{get_or_default}
use Rattle.std.proofs.lemmas.Slice.Eq.{bytes_eq-Decides}
use Rattle.string_interner.specs.Text.{Text}
use Rattle.string_interner.specs.InternAll.{IsKnown, IsResolved}
use Rattle.string_interner.specs.Entry.{entry_text}
use Rattle.string_interner.proofs.Lemmas.Backend.Numbering.{numbered, injective}
use Rattle.string_interner.proofs.Lemmas.Interner.IsSoundInterner.{resolved-known}
use Rattle.string_interner.proofs.interner.look_ahead.check_each.Goals.{then-ne, else-ne}
use Rattle.string_interner.proofs.interner.look_ahead.check_each.Goals as goal

pub loop-at-preserved : goal.loop-at-preserved
loop-at-preserved g c = elim c.if-ne.branch [
  | then-ne w ↦ search rules
  | else-ne w ↦
      let at = c.loop-at.at in
      let same : (text : Bor Text) → (slice_index_or c.resolve_each.new.found at text).now ≡ (slice_index_or c.args.texts.now at text).now = λ text.
      ap (λ (b : Bor Text). b.now) (get_or_default c.resolve_each.new.found at text _ (search rules)) ∙ (bytes_eq-Decides _ _).0 (not-false _ (sym c.ne.ensures ∙ w.if-ne.false))
      ∙ ap (λ (b : Bor Text). b.now) (get_or_default c.args.texts.now at _ text (search rules)) in
      let here : (text : Bor Text) → IsKnown g.B.Symbol.Symbol.symbol_of g.B.Store.numbering (g.B.Store.texts c.args.backend.now) (slice_index_or c.args.texts.now at text).now (slice_index_or c.if-ne.guesses at None) = λ text.
      resolved-known g.B.Store.numbering (numbered g.B.Store.numbering g.met.B.Store.symbols g.met.B.Symbol.Symbol.numbered) (injective g.B.Store.numbering g.met.B.Store.symbols g.met.B.Symbol.Symbol.injective) g.met.B.Store.grows (g.B.Store.texts c.args.backend.now) c.requires.texts.distinct c.requires.texts.valid
      g.B.Symbol.Symbol.symbol_of (slice_index_or c.if-ne.guesses at None) (slice_index_or c.args.texts.now at text).now
      (subst (λ t. IsResolved g.B.Symbol.Symbol.symbol_of (entry_text g.B.Store.numbering (g.B.Store.texts c.args.backend.now)) (slice_index_or c.if-ne.guesses at None) t) (same text) (search rules)) in
      search (rules, here)
]
