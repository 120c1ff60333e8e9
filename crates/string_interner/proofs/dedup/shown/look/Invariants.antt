use Rattle.std.proofs.Common.{◌<◌, length}
use Rattle.string_interner.specs.Shown.{AreSure, IsShown}
use Rattle.string_interner.proofs.Lemmas.Shown.{HasSeen}
use Rattle.string_interner.proofs.dedup.shown.look.Given as goal

abbrev pub invariant-loop-step : goal.invariant-loop-step
invariant-loop-step g l = record {
  some : 0 < length (g.W.ShownWords.sure l.words);
  within : l.at < length (g.W.ShownWords.sure l.words);
  seen : IsShown (g.T.ShownTexts.text_of l.texts) (g.W.ShownWords.sure l.words) l.code l.text → AreSure (g.T.ShownTexts.is_sure l.texts) (g.W.ShownWords.sure l.words)
      → HasSeen (g.T.ShownTexts.text_of l.texts) (g.W.ShownWords.sure l.words) l.code l.text l._step l.at;
}
