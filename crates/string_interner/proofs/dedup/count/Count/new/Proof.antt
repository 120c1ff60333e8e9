use Rattle.string_interner.proofs.Lemmas.Index.Steps.{[], ◌∷◌, refl, proved, vstruct, vnil, Val, ‵, raw, ◌$◌, ◌∵◌, !, qed, done, keep, use0, suffices, enter, no_more, returns, agg, alloc_all, pass_all, free_all, look_at, sets, makes_shadow, nothing, on_entry, says, ends_at}
use Rattle.string_interner.specs.contracts.dedup.count.Count.new as f
use Rattle.string_interner.specs.contracts.dedup.count.Count.{the_row as R}
use Rattle.string_interner.proofs.dedup.count.Count.new.Statement.{statement}
use Rattle.string_interner.proofs.dedup.count.Count.new.Code as code

pub new_spec : {M : Type 1} → statement M
new_spec 𝓤 𝓛 𝓜 𝓡 wired =
    let c = f.clauses 𝓛 𝓜.mem 𝓡.returns in
    proved 𝓛 f.ended tt c 𝓜 𝓡 tt
    f.Key.name code.function (code.unfolded 𝓤 𝓛.H 𝓜 𝓡 wired)
    (λ κs. tt) (λ κs. tt) (λ κs qs bounds a _ are.
    let v : Val = vstruct vnil in let r : R.Denot = record { value = 0 } in
    qed 𝓛 (raw (on_entry 𝓛 f.signature κs qs a tt) ∷ raw ((c κs a).requires tt) ∷ []) ∵ keep ! [] $
    enter ! _ _ _ _ _ $ alloc_all ! (λ l. pass_all ! refl tt $
    sets ! (agg ! (no_more !)) refl (tt, tt) $
    returns ! (look_at ! 0 refl) $ free_all ! refl $
    use0 𝓛 (‵ (R.own_val r (v ∷ []))) (makes_shadow 𝓛 (R.own_val r (v ∷ [])) ((λ _. (tt, tt)), tt) ((tt, (refl, tt)), tt)) $
    suffices ! _ (ends_at 𝓛 f.ended tt c ((κs, qs, bounds, a, tt), tt) v r tt tt) $ says ! refl $
    nothing ! $ nothing ! $ done !))
