use Rattle.std.proofs.Common.{rules, ◌≡◌, None, length, arith, sym, subst, ◌∙◌}
use Rattle.std.specs.List.{Contains}
use Rattle.std.proofs.lemmas.List.{length-map}
use Rattle.std.proofs.lemmas.List.Elements.{Contains-get_or}
use Rattle.string_interner.specs.Entry.{entry_text}
use Rattle.string_interner.specs.Index.{has_text}
use Rattle.string_interner.specs.Probe.{Follows}
use Rattle.string_interner.specs.Tagged.{symbol_in, symbols_in}
use Rattle.string_interner.proofs.Lemmas.TaggedSlots.SymbolsIn.{symbols_in-at}
use Rattle.string_interner.proofs.Lemmas.WordSlots.{misses_coded}
use Rattle.string_interner.proofs.dedup.words.WordSlotsProbe.step.Goals as goal

pub has_text-requires : goal.has_text-requires
has_text-requires g c =
    let slots = symbols_in c.args.self.now in let m = length-map c.args.self.now symbol_in in let l = c.requires.within in
    c.requires.fits.1.0.slots.entries c.in-Some.item.symbol
    (subst (Contains slots) (symbols_in-at c.args.self.now c.args.at _ (sym c.item_at.ensures ∙ c.in-Some.is)) (Contains-get_or slots c.args.at None c.requires.within))

pub returns-in-Some-clause-leads : goal.returns-in-Some-clause-leads
returns-in-Some-clause-leads g c =
    let tagged = c.args.self.now in let m = length-map tagged symbol_in in let w = c.requires.within in
    let entry = entry_text g.B.Store.numbering (g.B.Store.texts c.args.looks.now.backend) in
    let after : Follows (length (symbols_in tagged)) c.args.at c.slot_after.result = subst (λ n. Follows n c.args.at c.slot_after.result) c.len.ensures c.slot_after.ensures in (
      c.args.at,
      record { ordered = omega arith; within = w; missed = λ k from before. absurd (omega arith) },
      misses_coded entry _ tagged c.requires.fits.1.0 c.args.text.now c.args.code c.requires.fits.1.1 c.args.at c.in-Some.item (omega arith) (sym c.item_at.ensures ∙ c.in-Some.is)
          (λ same. absurd (let e : c.in-Some.item.code ≡ c.stored_code.result = same ∙ sym c.stored_code.ensures in search rules)),
      after,
    )

pub returns-in-Some-2-clause-leads : goal.returns-in-Some-2-clause-leads
returns-in-Some-2-clause-leads g c =
    let w = c.requires.within in (
      c.args.at,
      record { ordered = omega arith; within = w; missed = λ k from before. absurd (omega arith) },
      symbols_in-at c.args.self.now c.args.at _ (sym c.item_at.ensures ∙ c.in-Some.is),
      sym c.has_text.ensures.value ∙ c.if-has_text.true,
    )
