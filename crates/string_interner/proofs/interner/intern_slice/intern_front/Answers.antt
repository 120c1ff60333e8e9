use Rattle.std.proofs.Common.{refl, rules, arith, sym, ap, subst, ◌∙◌, ◌<◌, length}
use Rattle.string_interner.specs.SlotRule.{IsLoaded}
use Rattle.string_interner.proofs.Lemmas.Interner.InternsEach.{front-none, front-more, ahead-kept, slice-stopped}
use Rattle.string_interner.proofs.interner.intern_slice.intern_front.Goals as goal

pub loop-at-init : goal.loop-at-init
loop-at-init g c = let loaded = subst (IsLoaded g.I.TextIndex.rule (g.I.TextIndex.slots c.args.index.now)) c.requires.sound.count c.len.ensures.loaded in record {
  front = front-none g.B.Store.numbering g.I.TextIndex.rule g.met.I.TextIndex.rule_laws _ _ _ loaded;
  sound = c.requires.sound;
  loaded = loaded;
  ahead = record {
    begun = search rules;
    within = search rules;
    few = search rules;
    codes_are = λ k above below text. let none = c.requires.none_ahead.end in absurd (omega (arith, below, none));
    known_are = λ k above below text. let none = c.requires.none_ahead.end in absurd (omega (arith, below, none));
  };
}

pub intern_coded-requires-clause-code : goal.intern_coded-requires-clause-code
intern_coded-requires-clause-code g c = c.find-code.ensures.code _

pub intern_coded-requires-clause-known : goal.intern_coded-requires-clause-known
intern_coded-requires-clause-known g c = c.find-code.ensures.known _

pub loop-at-preserved : goal.loop-at-preserved
loop-at-preserved g c =
    let inv = c.loop-at.invariant in let call = c.in-Ok.ensures in
    let within : c.loop-at.at < length c.args.texts.now = search rules in
    let room : c.loop-at.at < length c.loop-at.numbers = omega (arith, within, inv.front.count, c.requires.room) in
    let loaded = subst (IsLoaded g.I.TextIndex.rule (g.I.TextIndex.slots c.intern_coded.new.index)) call.sound.count c.len-in-loop-at.ensures.loaded in
    record {
      front = front-more g.B.Store.numbering g.I.TextIndex.rule g.met.I.TextIndex.rule_laws _ _ c.args.texts.now c.loop-at.at _ _ _ c.loop-at.numbers c.in-Ok.symbol _ within room inv.loaded loaded
          (c.to_usize.ensures.value ∙ ap (λ f. f c.in-Ok.symbol) (sym g.met.B.Store.symbols.1)) inv.front call.interns;
      sound = call.sound;
      loaded = loaded;
      ahead = ahead-kept g.B.Store.numbering (g.H.TextHasher.code c.args.hasher.now) g.B.Symbol.Symbol.symbol_of _ _ call.interns.keeps _ _ _ c.find-code.ensures.ahead;
    }

pub returns-in-Err-clause-interns : goal.returns-in-Err-clause-interns
returns-in-Err-clause-interns g c = slice-stopped g.B.Store.numbering g.I.TextIndex.rule g.met.I.TextIndex.rule_laws c.args.texts.now c.loop-at.at _ _ _ _ _ _ c.in-Err.error _ (search rules) refl c.loop-at.invariant.front c.in-Err.ensures.interns
