use Rattle.std.proofs.Common.{rules, ◌≡◌, length, refl, sym, ◌∙◌, inl, inr, Some, None, Err}
use Rattle.std.specs.Option.{unwrap_or}
use Rattle.string_interner.specs.declared.backend.InternError.TheVariants.{Memory}
use Rattle.string_interner.proofs.Lemmas.Backend.Numbering.{numbered, injective}
use Rattle.string_interner.proofs.Lemmas.Interner.IsSoundInterner.{known_none, known-found}
use Rattle.string_interner.proofs.Lemmas.Interner.InternsInto.{into-known}
use Rattle.string_interner.proofs.interner.StringInterner.get_or_intern_part.Goals as goal

pub returns-in_default : goal.returns-in_default
returns-in_default g c = rw (← c.self.view_is) (None, rw (← c.in_default.ensures) refl, (refl, refl))

pub returns-in_default-get : goal.returns-in_default-get
returns-in_default-get g c = let end : c.unwrap_or-end.result ≡ unwrap_or c.args.end (length c.in-Some.text.now) = search rules in
    rw (← c.self.view_is) (None, rw (← c.in-Some.ensures) (rw (← end) c.in_default-get.ensures.cases), (refl, refl))

pub returns-in-Some-find : goal.returns-in-Some-find
returns-in-Some-find g c = let end : c.unwrap_or-end.result ≡ unwrap_or c.args.end (length c.in-Some.text.now) = search rules in
    rw (← c.self.view_is) (
      Some c.in-Some-get.part,
      rw (← c.in-Some.ensures) (rw (← end) c.in-Some-get.ensures.cases),
      into-known g.B.Store.numbering g.I.TextIndex.rule _ _ c.in-Some-get.part.now _ c.self.invariant.texts
          (sym (known-found g.B.Store.numbering (numbered g.B.Store.numbering g.met.B.Store.symbols g.met.B.Symbol.Symbol.numbered) (injective g.B.Store.numbering g.met.B.Store.symbols g.met.B.Symbol.Symbol.injective) g.met.B.Store.grows _ c.self.invariant.texts.distinct c.self.invariant.texts.valid c.in-Some-get.part.now _ c.find.ensures) ∙ c.in-Some-find.is) refl,
    )

pub returns-in_err-copy : goal.returns-in_err-copy
returns-in_err-copy g c = let end : c.unwrap_or-end.result ≡ unwrap_or c.args.end (length c.in-Some.text.now) = search rules in
    let is : c.from_residual.result ≡ Err (Memory c.in_err-copy.field-0.0) = search rules in
    rw is (rw (← c.self.view_is) (
      Some c.in-Some-get.part,
      rw (← c.in-Some.ensures) (rw (← end) c.in-Some-get.ensures.cases),
      inl (
        known_none g.B.Store.numbering _ c.in-Some-get.part.now c.self.invariant.texts.valid
            (sym (known-found g.B.Store.numbering (numbered g.B.Store.numbering g.met.B.Store.symbols g.met.B.Symbol.Symbol.numbered) (injective g.B.Store.numbering g.met.B.Store.symbols g.met.B.Symbol.Symbol.injective) g.met.B.Store.grows _ c.self.invariant.texts.distinct c.self.invariant.texts.valid c.in-Some-get.part.now _ c.find.ensures) ∙ c.in_default-find.is),
        tt,
        refl,
      ),
    ))

pub returns-in_err-symbol : goal.returns-in_err-symbol
returns-in_err-symbol g c = let end : c.unwrap_or-end.result ≡ unwrap_or c.args.end (length c.in-Some.text.now) = search rules in
    let is : c.from_residual-in_err-symbol.result ≡ Err c.in_err-symbol.field-0.0 = search rules in
    let same : c.as_str.result.now ≡ c.in-Some-get.part.now = search rules in
    rw is (rw (← c.self.view_is) (Some c.in-Some-get.part, rw (← c.in-Some.ensures) (rw (← end) c.in-Some-get.ensures.cases), inr (rw (← same) c.in_err-symbol.ensures.interns)))

pub returns : goal.returns
returns g c = let end : c.unwrap_or-end.result ≡ unwrap_or c.args.end (length c.in-Some.text.now) = search rules in
    let same : c.as_str.result.now ≡ c.in-Some-get.part.now = search rules in
    rw (← c.self.view_is) (Some c.in-Some-get.part, rw (← c.in-Some.ensures) (rw (← end) c.in-Some-get.ensures.cases), rw (← same) c.in_ok-symbol.ensures.interns)
