-- The answers of a list of distinct texts to commands, if none fails: a function of the list and the commands alone. An
-- answer holds the index of an entry; no backend, symbol type or hasher occurs.
-- Cited by `run`.
use Rattle.std.specs.Prelude.{◌≡◌, ℕ, List, [], ◌∷◌, ◌++◌, length, slice_get, All, Option, Some, None, option_and_then, ⊤}
use Rattle.std.specs.List.{AllZip}
use Rattle.std.specs.Option.{option_map_or, unwrap_or}
use Rattle.std.specs.String.{string_bytes}
use Rattle.string_interner.specs.Text.{Text, first}
use Rattle.string_interner.specs.Backend.{BeginsAt}
use Rattle.string_interner.specs.Extend.{texts_of, fresh}
use Rattle.string_interner.specs.declared.run.Command.{Command}
use Rattle.string_interner.specs.declared.run.Command.TheVariants.{Intern, InternStatic, Get, Resolve, Number, Len, Shrink, Truncate, Extend}
use Rattle.string_interner.specs.declared.run.Reply.{Reply}
use Rattle.string_interner.specs.declared.run.Reply.TheVariants.{Symbol, Nothing, Text as TextReply, Len as LenReply, Done, NoReply, NoSymbol, NoMemory}

-- a reply that holds the index of an entry instead of its symbol
pub data Answer : Type 0 where
  entry : ℕ → Answer
  nothing : Answer
  text : Text → Answer
  count : ℕ → Answer
  done : Answer
  no_reply : Answer

-- the index that an earlier answer holds, if there is such an answer and it holds one
abbrev pub answer_index : Option Answer → Option ℕ
answer_index (Some (entry i)) = Some i
answer_index _ = None

-- the answer of the list, after the earlier answers, to a command that names no number and drops no text
abbrev pub list_answer : List Text → List Answer → Command → Answer
list_answer texts earlier (Intern t) = entry (unwrap_or (first texts t.now) (length texts))
list_answer texts earlier (InternStatic t) = entry (unwrap_or (first texts t.now) (length texts))
list_answer texts earlier (Get t) = option_map_or entry (first texts t.now) nothing
list_answer texts earlier (Resolve k) = option_map_or text (option_and_then (slice_get texts) (answer_index (slice_get earlier k))) no_reply
-- nothing is claimed of lists of commands with this one or `Truncate`: `IsTextCommand`
list_answer texts earlier (Number n) = nothing
list_answer texts earlier Len = count (length texts)
list_answer texts earlier Shrink = done
list_answer texts earlier (Truncate len) = done
list_answer texts earlier (Extend ts) = done

-- the texts that a command interns
abbrev pub texts_interned : Command → List Text
texts_interned (Intern t) = t.now ∷ []
texts_interned (InternStatic t) = t.now ∷ []
texts_interned (Extend ts) = texts_of ts.now
texts_interned _ = []

-- the answers to the commands in order, each of which appends the texts that are new
abbrev pub list_answers : List Text → List Answer → List Command → List Answer
list_answers texts earlier [] = []
list_answers texts earlier (command ∷ commands) =
    let answer = list_answer texts earlier command in
    answer ∷ list_answers (texts ++ fresh texts (texts_interned command)) (earlier ++ answer ∷ []) commands

-- the reply is the answer, with the place of the entry in this list instead of its index
abbrev pub IsReplyFor : (List Text → ℕ) → List Text → Reply → Answer → Type 0
IsReplyFor place texts (Symbol n) (entry i) = BeginsAt place texts n i
IsReplyFor place texts Nothing nothing = ⊤
IsReplyFor place texts (TextReply copy) (text t) = string_bytes copy ≡ t
IsReplyFor place texts (LenReply n) (count m) = n ≡ m
IsReplyFor place texts Done done = ⊤
IsReplyFor place texts NoReply no_reply = ⊤
IsReplyFor place texts _ _ = ⊥

-- the reply is no failure
abbrev pub IsSuccess : Reply → Type 0
IsSuccess NoSymbol = ⊥
IsSuccess NoMemory = ⊥
IsSuccess _ = ⊤

-- the command names no number and drops no text
abbrev pub IsTextCommand : Command → Type 0
IsTextCommand (Number n) = ⊥
IsTextCommand (Truncate len) = ⊥
IsTextCommand _ = ⊤

-- If no command names a number or drops texts and none fails, the replies are the answers of the old list, with each
-- index replaced by the place of that entry in the new list.
abbrev pub AnswersAsAList : (List Text → ℕ) → List Text → List Command → List Reply → List Text → Type 0
AnswersAsAList place old commands replies new = All IsTextCommand commands → All IsSuccess replies → AllZip (IsReplyFor place new) replies (list_answers old [] commands)
