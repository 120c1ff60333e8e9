-- The possible replies to a list of commands: a step for each command, and a run of steps.
-- Cited by `run`.
use Rattle.std.specs.Prelude.{◌≡◌, ℕ, All, List, [], ◌∷◌, ◌++◌, length, take, slice_get, Option, Some, None, MatchOption, option_and_then, IsSome, Result, Ok, Err, ⊤, IfOk, Vec}
use Rattle.std.specs.declared.alloc.Global.{Global}
use Rattle.std.specs.Option.{option_map_or}
use Rattle.std.specs.String.{string_bytes}
use Rattle.string_interner.specs.Text.{Text, first}
use Rattle.string_interner.specs.Numbering.{Numbering}
use Rattle.string_interner.specs.Interner.{Interns, InternerContents, KeepsBucketsAndSlots}
use Rattle.string_interner.specs.Extend.{texts_of, fresh, InternsInOrder}
use Rattle.string_interner.specs.declared.backend.InternError.{InternError}
use Rattle.string_interner.specs.declared.backend.InternError.TheVariants.{NoSymbol as InternNoSymbol, Memory}
use Rattle.string_interner.specs.declared.run.Command.{Command}
use Rattle.string_interner.specs.declared.run.Command.TheVariants.{Intern, InternStatic, Get, Resolve, Number, Len, Shrink, Truncate, Extend}
use Rattle.string_interner.specs.declared.run.Reply.{Reply}
use Rattle.string_interner.specs.declared.run.Reply.TheVariants.{Symbol, Nothing, Text as TextReply, Len as LenReply, Done, NoReply, NoSymbol, NoMemory}

-- the reply for an error
abbrev pub refusal : InternError → Reply
refusal InternNoSymbol = NoSymbol
refusal (Memory _) = NoMemory

-- the reply for the outcome of interning a text
abbrev pub intern_reply : {S : Type 0} → (S → ℕ) → Result S InternError → Reply
intern_reply number (Ok symbol) = Symbol (number symbol)
intern_reply number (Err error) = refusal error

-- the reply for the outcome of interning many texts
abbrev pub extend_reply : Result (Unit {0}) InternError → Reply
extend_reply (Ok _) = Done
extend_reply (Err error) = refusal error

-- the number that a reply holds, if there is such a reply and it holds one
abbrev pub reply_number : Option Reply → Option ℕ
reply_number (Some (Symbol n)) = Some n
reply_number _ = None

-- the reply is a copy of the text, or the copy could not be allocated
abbrev pub CopyReply : Text → Reply → Type 0
CopyReply text (TextReply copy) = string_bytes copy ≡ text
CopyReply text NoMemory = ⊤
CopyReply text _ = ⊥

-- the command interns no text
abbrev pub InternsNone : Command → Type 0
InternsNone (Intern _) = ⊥
InternsNone (InternStatic _) = ⊥
InternsNone (Extend _) = ⊥
InternsNone _ = ⊤

-- the command interns no text that is new to this list, and is no `Truncate`
abbrev pub InternsKnown : List Text → Command → Type 0
InternsKnown texts (Intern text) = IsSome (first texts text.now)
InternsKnown texts (InternStatic text) = IsSome (first texts text.now)
InternsKnown texts (Extend items) = fresh texts (texts_of items.now) ≡ []
InternsKnown texts (Truncate _) = ⊥
InternsKnown _ _ = ⊤

-- buckets and slots are unchanged if no command interns a text; texts, too, if every text that a command interns is known
-- and no command is a `Truncate`
pub record KeepsUnlessNew (old : InternerContents) (commands : List Command) (new : InternerContents) : Type 0 where
  pub none : All InternsNone commands → KeepsBucketsAndSlots old new
  pub known : All (InternsKnown old.texts) commands → (new.texts ≡ old.texts) × KeepsBucketsAndSlots old new

module _ {S : Type 0} (numbering : Numbering S) where
  -- the text at a number, if the number has a symbol and a text is read there
  abbrev pub text_at_number : List Text → ℕ → Option Text
  text_at_number texts n = option_and_then (λ _. numbering.read texts n) (numbering.symbol_of n)

  -- the reply to a number: a copy of the text, or nothing
  abbrev pub NumberReply : List Text → ℕ → Reply → Type 0
  NumberReply texts n reply = MatchOption (text_at_number texts n) (reply ≡ Nothing) (λ text. CopyReply text reply)

  -- the text is interned, and the reply is for the outcome
  abbrev pub InternReply : List Text → Text → Reply → List Text → Type 0
  InternReply old text reply new = (outcome : Result S InternError) × Interns numbering old text outcome new × (reply ≡ intern_reply numbering.number outcome)

  -- the texts are interned in order, and the reply is for the outcome
  abbrev pub ExtendReply : List Text → List Text → Reply → List Text → Type 0
  ExtendReply old texts reply new = (outcome : Result (Unit {0}) InternError) × InternsInOrder numbering old texts outcome new × (reply ≡ extend_reply outcome)

  -- From the old list, after the earlier replies of the run, the command may have this reply and leave the new list.
  abbrev pub Step : List Text → List Reply → Command → Reply → List Text → Type 0
  Step old earlier (Intern text) reply new = InternReply old text.now reply new
  Step old earlier (InternStatic text) reply new = InternReply old text.now reply new
  -- the place of a known text, as the number of its symbol
  Step old earlier (Get text) reply new = (reply ≡ option_map_or (λ i. Symbol (numbering.place (take i old))) (first old text.now) Nothing) × (new ≡ old)
  -- the reply to the number that reply `k` holds
  Step old earlier (Resolve k) reply new = MatchOption (reply_number (slice_get earlier k)) (reply ≡ NoReply) (λ n. NumberReply old n reply) × (new ≡ old)
  Step old earlier (Number n) reply new = NumberReply old n reply × (new ≡ old)
  Step old earlier Len reply new = (reply ≡ LenReply (length old)) × (new ≡ old)
  Step old earlier Shrink reply new = (reply ≡ Done) × (new ≡ old)
  Step old earlier (Truncate len) reply new = (reply ≡ Done) × (new ≡ take len old)
  Step old earlier (Extend texts) reply new = ExtendReply old (texts_of texts.now) reply new

  -- From the old list, after the earlier replies, the commands may have these replies, one for each, and leave the new
  -- list.
  abbrev pub Run : List Text → List Reply → List Command → List Reply → List Text → Type 0
  Run old earlier [] [] new = new ≡ old
  Run old earlier (command ∷ commands) (reply ∷ replies) new =
      (mid : List Text) × Step old earlier command reply mid × Run mid (earlier ++ reply ∷ []) commands replies new
  Run old earlier _ _ new = ⊥

  -- From the old list all commands have these replies and leave the new list, unless the call fails.
  abbrev pub RunsAll : {E : Type 0} → List Text → List Command → Result (Vec Reply Global) E → List Text → Type 0
  RunsAll old commands result new = IfOk result (λ replies. Run old [] commands replies.items new)
