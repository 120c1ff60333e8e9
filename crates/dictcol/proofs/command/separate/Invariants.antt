use Rattle.std.proofs.Common.{◌≡◌, [], ◌∷◌, length, map, take}
use Rattle.dictcol.proofs.command.separate.Given as goal

-- each of the files so far is an input of its own
abbrev pub invariant-loop-at : goal.invariant-loop-at
invariant-loop-at l = record {
  each : map (λ input. input.sources.now) l.inputs.items ≡ map (λ file. file ∷ []) (take l.at l.files);
  all : length l.files ≡ l.at-end;
}
