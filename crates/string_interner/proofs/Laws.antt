-- Laws of interning and of runs that a sceptic would ask for. They follow from the definitions of specs/ that every
-- contract cites, so they speak of the code.
use Rattle.std.proofs.Common.{zero, suc, ◌≡◌, ℕ, ◌<◌, List, [], ◌∷◌, ◌++◌, length, take, get_or, refl, sym, ap, ◌∙◌, subst, arith, ◌⊎◌, inl, inr, Option, Some, None, Result, Ok, Err}
use Rattle.std.specs.Prelude.{slice_get, MatchOption, IsOkAnd, ◌^◌, ⊤}
use Rattle.std.specs.List.{AllByRecursion}
use Rattle.std.specs.Option.{unwrap_or}
use Rattle.std.specs.String.{string_bytes}
use Rattle.std.proofs.Math.Seq.{get_or-append_seam}
use Rattle.std.proofs.lemmas.List.{length_push, take-append-le, take_all}
use Rattle.string_interner.specs.Text.{Text, first}
use Rattle.string_interner.specs.Backend.{Appends, BeginsAt}
use Rattle.string_interner.specs.Interner.{Interns, entry_symbol}
use Rattle.string_interner.specs.Extend.{texts_of, InternsAll, InternsInOrder}
use Rattle.string_interner.specs.Run.{intern_reply, extend_reply, reply_number, CopyReply, text_at_number, NumberReply, InternReply, ExtendReply, Step, Run}
use Rattle.string_interner.specs.declared.backend.InternError.{InternError}
use Rattle.string_interner.specs.declared.backend.InternError.TheVariants.{NoSymbol as InternNoSymbol, Memory}
use Rattle.string_interner.specs.declared.run.Command.{Command}
use Rattle.string_interner.specs.declared.run.Command.TheVariants.{Intern, InternStatic, Get, Resolve, Number, Len, Shrink, Truncate, Extend}
use Rattle.string_interner.specs.declared.run.Reply.{Reply}
use Rattle.string_interner.specs.declared.run.Reply.TheVariants.{Symbol, Nothing, Text as TextReply, Len as LenReply, Done, NoReply, NoSymbol, NoMemory}
use Rattle.string_interner.proofs.Lemmas.Texts.First.{first_within, first_is}
use Rattle.string_interner.specs.Numbering.{Numbering}

-- memory was not refused
abbrev pub HasMemory : {S : Type 0} → Result S InternError → Type 0
HasMemory (Err (Memory _)) = ⊥
HasMemory _ = ⊤

abbrev pub ReplyHasMemory : Reply → Type 0
ReplyHasMemory NoMemory = ⊥
ReplyHasMemory _ = ⊤

-- two replies say the same: a text by its bytes, wherever its copy lies
abbrev pub SayTheSame : Reply → Reply → Type 0
SayTheSame (TextReply a) (TextReply b) = string_bytes a ≡ string_bytes b
SayTheSame a b = a ≡ b

-- reply by reply
abbrev pub AllSayTheSame : List Reply → List Reply → Type 0
AllSayTheSame [] [] = ⊤
AllSayTheSame (a ∷ rest') (b ∷ bs) = SayTheSame a b × AllSayTheSame rest' bs
AllSayTheSame _ _ = ⊥

equal-say : (a b : Reply) → a ≡ b → SayTheSame a b
equal-say (TextReply a) b e = subst (SayTheSame (TextReply a)) e refl
equal-say (Symbol n) b e = subst (SayTheSame (Symbol n)) e refl
equal-say Nothing b e = subst (SayTheSame Nothing) e refl
equal-say (LenReply n) b e = subst (SayTheSame (LenReply n)) e refl
equal-say Done b e = subst (SayTheSame Done) e refl
equal-say NoReply b e = subst (SayTheSame NoReply) e refl
equal-say NoSymbol b e = subst (SayTheSame NoSymbol) e refl
equal-say NoMemory b e = subst (SayTheSame NoMemory) e refl

same-told : (a b : Reply) → SayTheSame a b → reply_number (Some a) ≡ reply_number (Some b)
same-told (TextReply a) (TextReply b) e = refl
same-told a b e = ap (λ r. reply_number (Some r)) e

numbers_told : (k : ℕ) (xs ys : List Reply) → AllSayTheSame xs ys → reply_number (slice_get xs k) ≡ reply_number (slice_get ys k)
numbers_told k [] [] say = refl
numbers_told zero (x ∷ xs) (y ∷ ys) say = same-told x y say.0
numbers_told (suc k) (x ∷ xs) (y ∷ ys) say = numbers_told k xs ys say.1
numbers_told k [] (y ∷ ys) say = absurd say
numbers_told k (x ∷ xs) [] say = absurd say

one-more : (xs ys : List Reply) (x y : Reply) → AllSayTheSame xs ys → SayTheSame x y → AllSayTheSame (xs ++ x ∷ []) (ys ++ y ∷ [])
one-more [] [] x y say s = (s, tt)
one-more (a ∷ xs) (b ∷ ys) x y say s = (say.0, one-more xs ys x y say.1 s)
one-more [] (b ∷ ys) x y say s = absurd say
one-more (a ∷ xs) [] x y say s = absurd say

module _ {S : Type 0} (numbering : Numbering S) where
  -- by what `first` answers
  abbrev Cases : List Text → Text → Result S InternError → List Text → Option ℕ → Type 0
  Cases old text outcome new o = MatchOption o (Appends numbering.symbol_of numbering.place old text outcome new) (λ i. IsOkAnd outcome (λ symbol. entry_symbol numbering old i ≡ Some symbol) × (new ≡ old))

  appends-keeps : (old new : List Text) (text : Text) (e : InternError) → Appends numbering.symbol_of numbering.place old text (Err e) new → new ≡ old
  appends-keeps old new text InternNoSymbol a = a.1
  appends-keeps old new text (Memory e) a = a.1

  -- a refused text leaves the list
  pub refused-keeps : (old new : List Text) (text : Text) (e : InternError) → Interns numbering old text (Err e) new → new ≡ old
  refused-keeps old new text e i = of (first old text) i
    where
      of : (o : Option ℕ) → Cases old text (Err e) new o → new ≡ old
      of None h = appends-keeps old new text e h
      of (Some i) h = h.1

  appends-determined : (old new new' : List Text) (text : Text) (o o' : Result S InternError) → HasMemory o → HasMemory o' → Appends numbering.symbol_of numbering.place old text o new → Appends numbering.symbol_of numbering.place old text o' new' → (o ≡ o') × (new ≡ new')
  appends-determined old new new' text (Ok s) (Ok s') m m' a a' = let e : s ≡ s' = cc (a.0, a'.0) in (ap Ok e, a.1 ∙ sym a'.1)
  appends-determined old new new' text (Err InternNoSymbol) (Err InternNoSymbol) m m' a a' = (refl, a.1 ∙ sym a'.1)
  appends-determined old new new' text (Ok s) (Err InternNoSymbol) m m' a a' = let x = a.0 in let x' = a'.0 in cc
  appends-determined old new new' text (Err InternNoSymbol) (Ok s') m m' a a' = let x = a.0 in let x' = a'.0 in cc
  appends-determined old new new' text (Err (Memory e)) o' m m' a a' = absurd m
  appends-determined old new new' text o (Err (Memory e)) m m' a a' = absurd m'

  -- interning is determined, but for want of memory
  pub interning-determined : (old new new' : List Text) (text : Text) (o o' : Result S InternError) → HasMemory o → HasMemory o' → Interns numbering old text o new → Interns numbering old text o' new' → (o ≡ o') × (new ≡ new')
  interning-determined old new new' text o o' m m' i i' = of (first old text) i i'
    where
      known : (i : ℕ) (o o' : Result S InternError) → IsOkAnd o (λ symbol. entry_symbol numbering old i ≡ Some symbol) → IsOkAnd o' (λ symbol. entry_symbol numbering old i ≡ Some symbol) → o ≡ o'
      known i (Ok s) (Ok s') e e' = let q : s ≡ s' = cc (e, e') in ap Ok q
      known i (Err x) o' e e' = absurd e
      known i o (Err x) e e' = absurd e'

      of : (f : Option ℕ) → Cases old text o new f → Cases old text o' new' f → (o ≡ o') × (new ≡ new')
      of None h h' = appends-determined old new new' text o o' m m' h h'
      of (Some i) h h' = (known i o o' h.0 h'.0, h.1 ∙ sym h'.1)

  -- the same of many texts, by recursion over them
  abbrev InTurn : List Text → List Text → Result (Unit {0}) InternError → List Text → Type 0
  InTurn old [] outcome new = (outcome ≡ Ok tt) × (new ≡ old)
  InTurn old (text ∷ texts) outcome new = ((mid : List Text) × (symbol : S) × Interns numbering old text (Ok symbol) mid × InTurn mid texts outcome new)
      ⊎ ((error : InternError) × (outcome ≡ Err error) × Interns numbering old text (Err error) new)

  all-in-turn : (old texts new : List Text) → InternsAll numbering old texts new → InTurn old texts (Ok tt) new
  all-in-turn old [] new h = (refl, h)
  all-in-turn old (text ∷ texts) new h = inl (h.0, h.1.0, h.1.1, all-in-turn h.0 texts new h.2)

  front-in-turn : (old front : List Text) (text : Text) (rest' new : List Text) (error : InternError) → InternsAll numbering old front new → Interns numbering new text (Err error) new → InTurn old (front ++ text ∷ rest') (Err error) new
  front-in-turn old [] text rest' new error h i = inr (error, refl, subst (λ (xs : List Text). Interns numbering xs text (Err error) new) h i)
  front-in-turn old (t ∷ ts) text rest' new error h i = inl (h.0, h.1.0, h.1.1, front-in-turn h.0 ts text rest' new error h.2 i)

  in-turn : (old texts : List Text) (outcome : Result (Unit {0}) InternError) (new : List Text) → InternsInOrder numbering old texts outcome new → InTurn old texts outcome new
  in-turn old texts (Ok u) new h = all-in-turn old texts new h
  in-turn old texts (Err error) new (front, text, rest', e, h, i) = rw e (front-in-turn old front text rest' new error h i)

  has-memory : (e : InternError) → HasMemory {S = Unit {0}} (Err e) → HasMemory {S = S} (Err e)
  has-memory InternNoSymbol m = tt
  has-memory (Memory e) m = absurd m

  same-error : (o : Result S InternError) (e e' : InternError) → o ≡ Err e → o ≡ Err e' → e ≡ e'
  same-error o e e' a b = cc

  turn-determined : (old texts new new' : List Text) (o o' : Result (Unit {0}) InternError) → HasMemory o → HasMemory o' → InTurn old texts o new → InTurn old texts o' new' → (o ≡ o') × (new ≡ new')
  turn-determined old [] new new' o o' m m' t t' = (t.0 ∙ sym t'.0, t.1 ∙ sym t'.1)
  turn-determined old (text ∷ texts) new new' o o' m m' (inl (mid, s, i, t)) (inl (mid', s', i', t')) =
      let d = interning-determined old mid mid' text (Ok s) (Ok s') tt tt i i' in
      turn-determined mid texts new new' o o' m m' t (subst (λ (xs : List Text). InTurn xs texts o' new') (sym d.1) t')
  turn-determined old (text ∷ texts) new new' o o' m m' (inl (mid, s, i, t)) (inr (e', q', i')) =
      let d = interning-determined old mid new' text (Ok s) (Err e') tt (has-memory e' (subst HasMemory q' m')) i i' in let x = d.0 in cc
  turn-determined old (text ∷ texts) new new' o o' m m' (inr (e, q, i)) (inl (mid', s', i', t')) =
      let d = interning-determined old new mid' text (Err e) (Ok s') (has-memory e (subst HasMemory q m)) tt i i' in let x = d.0 in cc
  turn-determined old (text ∷ texts) new new' o o' m m' (inr (e, q, i)) (inr (e', q', i')) =
      let d = interning-determined old new new' text (Err e) (Err e') (has-memory e (subst HasMemory q m)) (has-memory e' (subst HasMemory q' m')) i i' in
      (q ∙ (ap Err (same-error (Err e) e e' refl d.0) ∙ sym q'), d.1)

  -- interning many texts is determined, but for want of memory
  pub order-determined : (old texts new new' : List Text) (o o' : Result (Unit {0}) InternError) → HasMemory o → HasMemory o' → InternsInOrder numbering old texts o new → InternsInOrder numbering old texts o' new' → (o ≡ o') × (new ≡ new')
  order-determined old texts new new' o o' m m' h h' = turn-determined old texts new new' o o' m m' (in-turn old texts o new h) (in-turn old texts o' new' h')

  -- the number of an answered symbol is the place of the text's first entry, which is the last one where the text was new
  pub answered-place : ((i : ℕ) (s : S) → numbering.symbol_of i ≡ Some s → (numbering.number s ≡ i) × (i < 2 ^ 64))
      → (old new : List Text) (text : Text) (s : S) → Interns numbering old text (Ok s) new
      → BeginsAt numbering.place new (numbering.number s) (unwrap_or (first old text) (length old)) × (get_or new (unwrap_or (first old text) (length old)) [] ≡ text)
  answered-place numbered old new text s i = of (first old text) refl i
    where
      of : (f : Option ℕ) → first old text ≡ f → Cases old text (Ok s) new f → BeginsAt numbering.place new (numbering.number s) (unwrap_or f (length old)) × (get_or new (unwrap_or f (length old)) [] ≡ text)
      of None e h =
          let n : numbering.number s ≡ numbering.place old = (numbered (numbering.place old) s h.0).0 in
          let t : take (length old) new ≡ old = rw (h.1, take-append-le (length old) old (text ∷ []) (omega arith)) (take_all (length old) old (omega arith)) in
          (record { within = rw h.1 (omega (arith, length_push old text)); begins = rw t (sym n) }, rw h.1 (get_or-append_seam old text [] []))
      of (Some i) e h = (record { within = rw h.1 (first_within old text i e); begins = rw h.1 (sym (numbered (numbering.place (take i old)) s h.0).0) }, rw h.1 (first_is old text i e))

module _ {S : Type 0} (numbering : Numbering S) where
  told : (outcome : Result S InternError) (reply : Reply) → reply ≡ intern_reply numbering.number outcome → ReplyHasMemory reply → HasMemory outcome
  told (Ok s) reply e m = tt
  told (Err InternNoSymbol) reply e m = tt
  told (Err (Memory x)) reply e m = let none : ReplyHasMemory NoMemory = subst ReplyHasMemory e m in absurd none

  extend-told : (outcome : Result (Unit {0}) InternError) (reply : Reply) → reply ≡ extend_reply outcome → ReplyHasMemory reply → HasMemory outcome
  extend-told (Ok u) reply e m = tt
  extend-told (Err InternNoSymbol) reply e m = tt
  extend-told (Err (Memory x)) reply e m = let none : ReplyHasMemory NoMemory = subst ReplyHasMemory e m in absurd none

  copies-say : (text : Text) (reply reply' : Reply) → ReplyHasMemory reply → ReplyHasMemory reply' → CopyReply text reply → CopyReply text reply' → SayTheSame reply reply'
  copies-say text (TextReply a) (TextReply b) m m' c c' = c ∙ sym c'
  copies-say text NoMemory reply' m m' c c' = absurd m
  copies-say text (TextReply a) NoMemory m m' c c' = absurd m'
  copies-say text (TextReply a) _ m m' c c' = absurd c'
  copies-say text _ reply' m m' c c' = absurd c

  numbers-say : (read_there : Option Text) (reply reply' : Reply) → ReplyHasMemory reply → ReplyHasMemory reply'
      → MatchOption read_there (reply ≡ Nothing) (λ text. CopyReply text reply) → MatchOption read_there (reply' ≡ Nothing) (λ text. CopyReply text reply') → SayTheSame reply reply'
  numbers-say None reply reply' m m' r r' = equal-say reply reply' (r ∙ sym r')
  numbers-say (Some text) reply reply' m m' r r' = copies-say text reply reply' m m' r r'

  resolved-say : (old : List Text) (o : Option ℕ) (reply reply' : Reply) → ReplyHasMemory reply → ReplyHasMemory reply'
      → MatchOption o (reply ≡ NoReply) (λ n. NumberReply numbering old n reply) → MatchOption o (reply' ≡ NoReply) (λ n. NumberReply numbering old n reply') → SayTheSame reply reply'
  resolved-say old None reply reply' m m' r r' = equal-say reply reply' (r ∙ sym r')
  resolved-say old (Some n) reply reply' m m' r r' = numbers-say (text_at_number numbering old n) reply reply' m m' r r'

  interned-say : (old : List Text) (text : Text) (reply reply' : Reply) (new new' : List Text) → ReplyHasMemory reply → ReplyHasMemory reply'
      → InternReply numbering old text reply new → InternReply numbering old text reply' new' → SayTheSame reply reply' × (new ≡ new')
  interned-say old text reply reply' new new' m m' (outcome, i, e) (outcome', i', e') =
      let d = interning-determined numbering old new new' text outcome outcome' (told outcome reply e m) (told outcome' reply' e' m') i i' in
      (equal-say reply reply' (e ∙ (ap (intern_reply numbering.number) d.0 ∙ sym e')), d.1)

  extended-say : (old texts : List Text) (reply reply' : Reply) (new new' : List Text) → ReplyHasMemory reply → ReplyHasMemory reply'
      → ExtendReply numbering old texts reply new → ExtendReply numbering old texts reply' new' → SayTheSame reply reply' × (new ≡ new')
  extended-say old texts reply reply' new new' m m' (outcome, i, e) (outcome', i', e') =
      let d = order-determined numbering old texts new new' outcome outcome' (extend-told outcome reply e m) (extend-told outcome' reply' e' m') i i' in
      (equal-say reply reply' (e ∙ (ap extend_reply d.0 ∙ sym e')), d.1)

  -- from one list, a command to which memory is not refused is answered one way and leaves one list
  pub step-determined : (old : List Text) (earlier earlier' : List Reply) (command : Command) (reply reply' : Reply) (new new' : List Text) → AllSayTheSame earlier earlier' → ReplyHasMemory reply → ReplyHasMemory reply'
      → Step numbering old earlier command reply new → Step numbering old earlier' command reply' new' → SayTheSame reply reply' × (new ≡ new')
  step-determined old earlier earlier' (Intern text) reply reply' new new' say m m' s s' = interned-say old text.now reply reply' new new' m m' s s'
  step-determined old earlier earlier' (InternStatic text) reply reply' new new' say m m' s s' = interned-say old text.now reply reply' new new' m m' s s'
  step-determined old earlier earlier' (Get text) reply reply' new new' say m m' s s' = (equal-say reply reply' (s.0 ∙ sym s'.0), s.1 ∙ sym s'.1)
  step-determined old earlier earlier' (Resolve k) reply reply' new new' say m m' s s' =
      let r' = subst (λ o. MatchOption o (reply' ≡ NoReply) (λ n. NumberReply numbering old n reply')) (sym (numbers_told k earlier earlier' say)) s'.0 in
      (resolved-say old (reply_number (slice_get earlier k)) reply reply' m m' s.0 r', s.1 ∙ sym s'.1)
  step-determined old earlier earlier' (Number n) reply reply' new new' say m m' s s' = (numbers-say (text_at_number numbering old n) reply reply' m m' s.0 s'.0, s.1 ∙ sym s'.1)
  step-determined old earlier earlier' Len reply reply' new new' say m m' s s' = (equal-say reply reply' (s.0 ∙ sym s'.0), s.1 ∙ sym s'.1)
  step-determined old earlier earlier' Shrink reply reply' new new' say m m' s s' = (equal-say reply reply' (s.0 ∙ sym s'.0), s.1 ∙ sym s'.1)
  step-determined old earlier earlier' (Truncate len) reply reply' new new' say m m' s s' = (equal-say reply reply' (s.0 ∙ sym s'.0), s.1 ∙ sym s'.1)
  step-determined old earlier earlier' (Extend texts) reply reply' new new' say m m' s s' = extended-say old (texts_of texts.now) reply reply' new new' m m' s s'

  -- from one list, commands to which memory is not refused are answered one way and leave one list
  pub run-determined : (old : List Text) (earlier earlier' : List Reply) (commands : List Command) (replies replies' : List Reply) (new new' : List Text) → AllSayTheSame earlier earlier' → AllByRecursion ReplyHasMemory replies → AllByRecursion ReplyHasMemory replies'
      → Run numbering old earlier commands replies new → Run numbering old earlier' commands replies' new' → AllSayTheSame replies replies' × (new ≡ new')
  run-determined old earlier earlier' [] [] [] new new' say m m' r r' = (tt, r ∙ sym r')
  run-determined old earlier earlier' (c ∷ cs) (x ∷ xs) (y ∷ ys) new new' say m m' (mid, s, r) (mid', s', r') =
      let d = step-determined old earlier earlier' c x y mid mid' say m.0 m'.0 s s' in
      let r'' = subst (λ l. Run numbering l (earlier' ++ y ∷ []) cs ys new') (sym d.1) r' in
      let e = run-determined mid (earlier ++ x ∷ []) (earlier' ++ y ∷ []) cs xs ys new new' (one-more earlier earlier' x y say d.0) m.1 m'.1 r r'' in
      ((d.0, e.0), e.1)
  run-determined old earlier earlier' [] (x ∷ xs) _ new new' say m m' r r' = absurd r
  run-determined old earlier earlier' [] [] (y ∷ ys) new new' say m m' r r' = absurd r'
  run-determined old earlier earlier' (c ∷ cs) [] _ new new' say m m' r r' = absurd r
  run-determined old earlier earlier' (c ∷ cs) (x ∷ xs) [] new new' say m m' r r' = absurd r'
