-- The replies of a run in which nothing is refused are what the list answers.
use Rattle.std.proofs.Common.{zero, suc, ◌≡◌, ℕ, ◌<◌, ◌≤◌, List, [], ◌∷◌, ◌++◌, length, take, refl, sym, ap, ◌∙◌, subst, arith, Option, Some, None, Ok, Err}
use Rattle.std.specs.Prelude.{◌^◌, ⊤, All, slice_get, MatchOption, IsSome, option_and_then}
use Rattle.std.specs.List.{AllZip}
use Rattle.std.specs.Option.{option_map_or, unwrap_or}
use Rattle.std.proofs.lemmas.List.{append_assoc, append-nil, length-append, take-append-le}
use Rattle.std.proofs.lemmas.List.Elements.{All-head, All-tail}
use Rattle.std.proofs.lemmas.Option.{slice_get-get_or}
use Rattle.std.proofs.lemmas.Slice.Zip.{all_zipped_more}
use Rattle.string_interner.specs.Text.{Text, first}
use Rattle.string_interner.specs.Backend.{BeginsAt, IsValidList}
use Rattle.string_interner.specs.Extend.{texts_of, fresh}
use Rattle.string_interner.specs.Run.{reply_number, CopyReply, text_at_number, NumberReply, InternReply, ExtendReply, Step, Run}
use Rattle.string_interner.specs.ListAnswers.{Answer, entry, nothing, text, count, done, no_reply, answer_index, list_answer, texts_interned, list_answers, IsReplyFor, IsSuccess, IsTextCommand, AnswersAsAList}
use Rattle.string_interner.specs.declared.backend.InternError.TheVariants.{NoSymbol as InternNoSymbol, Memory}
use Rattle.string_interner.specs.declared.run.Command.{Command}
use Rattle.string_interner.specs.declared.run.Command.TheVariants.{Intern, InternStatic, Get, Resolve, Number, Len, Shrink, Truncate, Extend}
use Rattle.string_interner.specs.declared.run.Reply.{Reply}
use Rattle.string_interner.specs.declared.run.Reply.TheVariants.{Symbol, Nothing, Text as TextReply, Len as LenReply, Done, NoReply, NoSymbol, NoMemory}
use Rattle.string_interner.proofs.Lemmas.Interner.Extends.{interned-fresh, all-fresh}
use Rattle.string_interner.proofs.Lemmas.Texts.First.{first_within}
use Rattle.string_interner.proofs.Lemmas.Backend.IsValidList.{valid-front}
use Rattle.string_interner.proofs.Laws.{answered-place}
use Rattle.string_interner.specs.Numbering.{Numbering}

zip_implied : {A B : Type 0} (R Q : A → B → Type 0) → ((x : A) (y : B) → R x y → Q x y) → (xs : List A) (ys : List B) → AllZip R xs ys → AllZip Q xs ys
zip_implied R Q f [] [] z = tt
zip_implied R Q f [] (b ∷ ys) z = absurd z
zip_implied R Q f (a ∷ xs) [] z = absurd z
zip_implied R Q f (a ∷ xs) (b ∷ ys) z = (f a b z.0, zip_implied R Q f xs ys z.1)

module _ (place : List Text → ℕ) where
  -- a reply and an answer told one entry, or none
  abbrev TellAlike : List Text → Option ℕ → Option ℕ → Type 0
  TellAlike texts (Some n) (Some i) = BeginsAt place texts n i
  TellAlike texts None None = ⊤
  TellAlike texts _ _ = ⊥

  told_alike : (texts : List Text) (reply : Reply) (answer : Answer) → IsReplyFor place texts reply answer → TellAlike texts (reply_number (Some reply)) (answer_index (Some answer))
  told_alike texts (Symbol n) (entry i) t = t
  told_alike texts Nothing nothing t = tt
  told_alike texts (TextReply copy) (text s) t = tt
  told_alike texts (LenReply n) (count m) t = tt
  told_alike texts Done done t = tt
  told_alike texts NoReply no_reply t = tt
  told_alike texts _ _ t = absurd t

  -- what an earlier reply told, the answer that goes with it told
  told_earlier : (texts : List Text) (replies : List Reply) (answers : List Answer) (k : ℕ) → AllZip (IsReplyFor place texts) replies answers → TellAlike texts (reply_number (slice_get replies k)) (answer_index (slice_get answers k))
  told_earlier texts [] [] k z = tt
  told_earlier texts (r ∷ rs) (a ∷ more) zero z = told_alike texts r a z.0
  told_earlier texts (r ∷ rs) (a ∷ more) (suc k) z = told_earlier texts rs more k z.1
  told_earlier texts [] (a ∷ more) k z = absurd z
  told_earlier texts (r ∷ rs) [] k z = absurd z

  -- what is told of a list is told of a longer one
  told_later : (texts more : List Text) (reply : Reply) (answer : Answer) → IsReplyFor place texts reply answer → IsReplyFor place (texts ++ more) reply answer
  told_later texts more (Symbol n) (entry i) t =
      let l : i ≤ length texts = omega (arith, t.within) in
      record { within = omega (arith, t.within, length-append texts more); begins = ap place (take-append-le i texts more l) ∙ t.begins }
  told_later texts more Nothing nothing t = tt
  told_later texts more (TextReply copy) (text s) t = t
  told_later texts more (LenReply n) (count m) t = t
  told_later texts more Done done t = tt
  told_later texts more NoReply no_reply t = tt
  told_later texts more _ _ t = absurd t

module _ {S : Type 0} (numbering : Numbering S)
    (numbered : (i : ℕ) (s : S) → numbering.symbol_of i ≡ Some s → (numbering.number s ≡ i) × (i < 2 ^ 64))
    (grows : (texts : List Text) (text : Text) → numbering.place texts < numbering.place (texts ++ text ∷ []))
    (reads : (texts : List Text) (i : ℕ) → IsValidList numbering.symbol_of numbering.place texts → i < length texts → numbering.read texts (numbering.place (take i texts)) ≡ slice_get texts i) where
  -- the text of an entry is read at its place
  read_entry : (texts : List Text) (n i : ℕ) → IsValidList numbering.symbol_of numbering.place texts → BeginsAt numbering.place texts n i → text_at_number numbering texts n ≡ slice_get texts i
  read_entry texts n i k b = of (numbering.symbol_of n) (subst (λ at. IsSome (numbering.symbol_of at)) b.begins (k.has_symbols i b.within))
    where
      of : (o : Option S) → IsSome o → option_and_then (λ _. numbering.read texts n) o ≡ slice_get texts i
      of (Some s) h = ap (numbering.read texts) (sym b.begins) ∙ reads texts i k b.within
      of None h = absurd (cc)

  interned_tells : (old : List Text) (t : Text) (reply : Reply) (new : List Text) → IsSuccess reply → InternReply numbering old t reply new
      → (new ≡ old ++ fresh old (t ∷ [])) × IsReplyFor numbering.place new reply (entry (unwrap_or (first old t) (length old)))
  interned_tells old t reply new g (Ok s, i, e) = (interned-fresh numbering old t s new i, rw e (answered-place numbering numbered old new t s i).0)
  interned_tells old t reply new g (Err InternNoSymbol, i, e) = let none : IsSuccess NoSymbol = subst IsSuccess e g in absurd none
  interned_tells old t reply new g (Err (Memory x), i, e) = let none : IsSuccess NoMemory = subst IsSuccess e g in absurd none

  extended_tells : (old texts : List Text) (reply : Reply) (new : List Text) → IsSuccess reply → ExtendReply numbering old texts reply new
      → (new ≡ old ++ fresh old texts) × IsReplyFor numbering.place new reply done
  extended_tells old texts reply new g (Ok u, i, e) = (all-fresh numbering old texts new i, rw e tt)
  extended_tells old texts reply new g (Err InternNoSymbol, i, e) = let none : IsSuccess NoSymbol = subst IsSuccess e g in absurd none
  extended_tells old texts reply new g (Err (Memory x), i, e) = let none : IsSuccess NoMemory = subst IsSuccess e g in absurd none

  got_tells : (old : List Text) (o : Option ℕ) (reply : Reply) → ((i : ℕ) → o ≡ Some i → i < length old) → reply ≡ option_map_or (λ i. Symbol (numbering.place (take i old))) o Nothing → IsReplyFor numbering.place old reply (option_map_or entry o nothing)
  got_tells old None reply within e = rw e tt
  got_tells old (Some i) reply within e = rw e (record { within = within i refl; begins = refl })

  copied_tells : (old : List Text) (t : Text) (reply : Reply) → IsSuccess reply → CopyReply t reply → IsReplyFor numbering.place old reply (text t)
  copied_tells old t (TextReply copy) g c = c
  copied_tells old t NoMemory g c = absurd g
  copied_tells old t _ g c = absurd c

  -- what is resolved is the text of the entry that was told
  resolved_tells : (old : List Text) (n_told i_told : Option ℕ) (reply : Reply) → IsValidList numbering.symbol_of numbering.place old → TellAlike numbering.place old n_told i_told → IsSuccess reply
      → MatchOption n_told (reply ≡ NoReply) (λ n. NumberReply numbering old n reply) → IsReplyFor numbering.place old reply (option_map_or text (option_and_then (slice_get old) i_told) no_reply)
  resolved_tells old None None reply k t g r = rw r tt
  resolved_tells old (Some n) (Some i) reply k b g r = of (slice_get old i) (rw (slice_get-get_or old i [] b.within) refl) (subst (λ o. MatchOption o (reply ≡ Nothing) (λ t. CopyReply t reply)) (read_entry old n i k b) r)
    where
      of : (o : Option Text) → IsSome o → MatchOption o (reply ≡ Nothing) (λ t. CopyReply t reply) → IsReplyFor numbering.place old reply (option_map_or text o no_reply)
      of (Some t) h c = copied_tells old t reply g c
      of None h c = absurd (cc)
  resolved_tells old _ _ reply k t g r = absurd t

  -- a step in which nothing is refused puts the fresh texts last
  step_fresh : (old : List Text) (earlier : List Reply) (command : Command) (reply : Reply) (new : List Text) → IsTextCommand command → IsSuccess reply → Step numbering old earlier command reply new → new ≡ old ++ fresh old (texts_interned command)
  step_fresh old earlier (Intern t) reply new c g s = (interned_tells old t.now reply new g s).0
  step_fresh old earlier (InternStatic t) reply new c g s = (interned_tells old t.now reply new g s).0
  step_fresh old earlier (Get t) reply new c g s = s.1 ∙ sym (append-nil old)
  step_fresh old earlier (Resolve k) reply new c g s = s.1 ∙ sym (append-nil old)
  step_fresh old earlier (Number n) reply new c g s = s.1 ∙ sym (append-nil old)
  step_fresh old earlier Len reply new c g s = s.1 ∙ sym (append-nil old)
  step_fresh old earlier Shrink reply new c g s = s.1 ∙ sym (append-nil old)
  step_fresh old earlier (Truncate len) reply new c g s = absurd c
  step_fresh old earlier (Extend ts) reply new c g s = (extended_tells old (texts_of ts.now) reply new g s).0

  -- so a run leaves the old texts in front
  run_grows : (old : List Text) (earlier : List Reply) (commands : List Command) (replies : List Reply) (new : List Text) → All IsTextCommand commands → All IsSuccess replies → Run numbering old earlier commands replies new → (more : List Text) × (new ≡ old ++ more)
  run_grows old earlier [] [] new k g r = ([], r ∙ sym (append-nil old))
  run_grows old earlier (c ∷ cs) (x ∷ xs) new k g (mid, s, r) =
      let one = fresh old (texts_interned c) in
      let later = run_grows mid (earlier ++ x ∷ []) cs xs new (All-tail IsTextCommand c cs k) (All-tail IsSuccess x xs g) r in
      (one ++ later.0, later.1 ∙ ap (λ ts. ts ++ later.0) (step_fresh old earlier c x mid (All-head IsTextCommand c cs k) (All-head IsSuccess x xs g) s) ∙ append_assoc old one later.0)
  run_grows old earlier [] (x ∷ xs) new k g r = absurd r
  run_grows old earlier (c ∷ cs) [] new k g r = absurd r

  -- the reply of such a step is what the list answers
  step_tells : (old : List Text) (earlier : List Reply) (answers : List Answer) (command : Command) (reply : Reply) (new : List Text) → IsValidList numbering.symbol_of numbering.place old → AllZip (IsReplyFor numbering.place old) earlier answers
      → IsTextCommand command → IsSuccess reply → Step numbering old earlier command reply new → IsReplyFor numbering.place new reply (list_answer old answers command)
  step_tells old earlier answers (Intern t) reply new k z c g s = (interned_tells old t.now reply new g s).1
  step_tells old earlier answers (InternStatic t) reply new k z c g s = (interned_tells old t.now reply new g s).1
  step_tells old earlier answers (Get t) reply new k z c g s = rw s.1 (got_tells old (first old t.now) reply (first_within old t.now) s.0)
  step_tells old earlier answers (Resolve j) reply new k z c g s = rw s.1 (resolved_tells old (reply_number (slice_get earlier j)) (answer_index (slice_get answers j)) reply k (told_earlier numbering.place old earlier answers j z) g s.0)
  step_tells old earlier answers (Number n) reply new k z c g s = absurd c
  step_tells old earlier answers Len reply new k z c g s = rw s.0 refl
  step_tells old earlier answers Shrink reply new k z c g s = rw s.0 tt
  step_tells old earlier answers (Truncate len) reply new k z c g s = absurd c
  step_tells old earlier answers (Extend ts) reply new k z c g s = (extended_tells old (texts_of ts.now) reply new g s).1

  -- the replies of a run, after earlier ones
  run_tells : (old : List Text) (earlier : List Reply) (answers : List Answer) (commands : List Command) (replies : List Reply) (new : List Text) → IsValidList numbering.symbol_of numbering.place new → AllZip (IsReplyFor numbering.place old) earlier answers
      → All IsTextCommand commands → All IsSuccess replies → Run numbering old earlier commands replies new → AllZip (IsReplyFor numbering.place new) replies (list_answers old answers commands)
  run_tells old earlier answers [] [] new k z c g r = tt
  run_tells old earlier answers (command ∷ commands) (reply ∷ replies) new k z c g (mid, s, r) =
      let granted = All-head IsSuccess reply replies g in let all_granted = All-tail IsSuccess reply replies g in
      let a = list_answer old answers command in
      let one = fresh old (texts_interned command) in
      let e : mid ≡ old ++ one = step_fresh old earlier command reply mid (All-head IsTextCommand command commands c) granted s in
      let later = run_grows mid (earlier ++ reply ∷ []) commands replies new (All-tail IsTextCommand command commands c) all_granted r in
      let mid_kept : IsValidList numbering.symbol_of numbering.place mid = valid-front numbering.symbol_of numbering.place grows mid later.0 (subst (IsValidList numbering.symbol_of numbering.place) later.1 k) in
      let old_kept : IsValidList numbering.symbol_of numbering.place old = valid-front numbering.symbol_of numbering.place grows old one (subst (IsValidList numbering.symbol_of numbering.place) e mid_kept) in
      let t : IsReplyFor numbering.place mid reply a = step_tells old earlier answers command reply mid old_kept z (All-head IsTextCommand command commands c) granted s in
      let still : AllZip (IsReplyFor numbering.place mid) earlier answers = rw e (zip_implied (IsReplyFor numbering.place old) (IsReplyFor numbering.place (old ++ one)) (told_later numbering.place old one) earlier answers z) in
      let rest' = run_tells mid (earlier ++ reply ∷ []) (answers ++ a ∷ []) commands replies new k (all_zipped_more (IsReplyFor numbering.place mid) earlier answers reply a still t) (All-tail IsTextCommand command commands c) all_granted r in
      (rw later.1 (told_later numbering.place mid later.0 reply a t), subst (λ texts. AllZip (IsReplyFor numbering.place new) replies (list_answers texts (answers ++ a ∷ []) commands)) e rest')
  run_tells old earlier answers [] (reply ∷ replies) new k z c g r = absurd r
  run_tells old earlier answers (command ∷ commands) [] new k z c g r = absurd r

  pub Run-tells : (old : List Text) (commands : List Command) (replies : List Reply) (new : List Text) → IsValidList numbering.symbol_of numbering.place new → Run numbering old [] commands replies new → AnswersAsAList numbering.place old commands replies new
  Run-tells old commands replies new k r = λ c g. run_tells old [] [] commands replies new k tt c g r
