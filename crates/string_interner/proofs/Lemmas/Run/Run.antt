-- A run goes on by a step.
use Rattle.std.proofs.Common.{◌≡◌, ℕ, ◌+◌, ◌<◌, List, [], ◌∷◌, ◌++◌, length, take, get_or, refl, subst}
use Rattle.std.proofs.lemmas.List.{append_assoc, append-nil, take_more}
use Rattle.string_interner.specs.Text.{Text}
use Rattle.string_interner.specs.Run.{Step, Run}
use Rattle.string_interner.specs.declared.run.Command.{Command}
use Rattle.string_interner.specs.declared.run.Reply.{Reply}
use Rattle.string_interner.specs.Numbering.{Numbering}

module _ {S : Type 0} (numbering : Numbering S) where
  -- one more command, with its reply
  Run-more : (old : List Text) (earlier : List Reply) (commands : List Command) (replies : List Reply) (mid : List Text) (command : Command) (reply : Reply) (new : List Text)
      → Run numbering old earlier commands replies mid → Step numbering mid (earlier ++ replies) command reply new
      → Run numbering old earlier (commands ++ command ∷ []) (replies ++ reply ∷ []) new
  Run-more old earlier [] [] mid command reply new r s = (new, subst (λ xs. Step numbering xs earlier command reply new) r (subst (λ rs. Step numbering mid rs command reply new) (append-nil earlier) s), refl)
  Run-more old earlier (c ∷ cs) (x ∷ xs) mid command reply new r s = (r.0, r.1, Run-more r.0 (earlier ++ x ∷ []) cs xs mid command reply new r.2 (rw append_assoc s))
  Run-more old earlier [] (x ∷ xs) mid command reply new r s = absurd r
  Run-more old earlier (c ∷ cs) [] mid command reply new r s = absurd r

  -- the same in a loop over the commands
  pub Run-step : (old : List Text) (commands : List Command) (i : ℕ) (replies said more_replies : List Reply) (mid new : List Text) (reply : Reply) (d : Command)
      → i < length commands → Run numbering old [] (take i commands) replies mid → said ≡ replies → Step numbering mid said (get_or commands i d) reply new → more_replies ≡ replies ++ reply ∷ []
      → Run numbering old [] (take (i + 1) commands) more_replies new
  Run-step old commands i replies said more_replies mid new reply d h r e s m = rw (m, take_more commands i d h) (Run-more old [] (take i commands) replies mid (get_or commands i d) reply new r (subst (λ rs. Step numbering mid rs (get_or commands i d) reply new) e s))
