-- The lines of the input and of the output. `parse_number`, `parse_command` and `write_reply` cite it.
use Rattle.std.specs.Prelude.{◌≡◌, ℕ, ◌^◌, ◌<◌, List, [], ◌∷◌, ◌++◌, codes}
use Rattle.std.specs.Fmt.{decimal}
use Rattle.std.specs.Str.Parse.{IsNumeral, digits_value}
use Rattle.std.specs.String.{string_bytes}
use Rattle.string_interner.specs.declared.run.Command.{Command}
use Rattle.string_interner.specs.declared.run.Command.TheVariants.{Intern, InternStatic, Get, Resolve, Number, Len, Shrink, Truncate, Extend}
use Rattle.string_interner.specs.declared.run.Reply.{Reply}
use Rattle.string_interner.specs.declared.run.Reply.TheVariants.{Symbol, Nothing, Text, Len as LenReply, Done, NoReply, NoSymbol, NoMemory}

-- one or more decimal digits, of a number that fits 64 bits
abbrev pub IsNumber : List ℕ → Type 0
IsNumber digits = IsNumeral 10 digits × (digits_value 10 digits < 2 ^ 64)

-- the line is the word, which ends in a space, and digits that write n
abbrev pub StatesNumber : List ℕ → ℕ → List ℕ → Type 0
StatesNumber word n line = (digits : List ℕ) × (line ≡ word ++ digits) × IsNumber digits × (n ≡ digits_value 10 digits)

-- the line states the command
abbrev pub States : Command → List ℕ → Type 0
States (Intern text) line = line ≡ codes "i " ++ text.now
States (Get text) line = line ≡ codes "g " ++ text.now
States (Resolve k) line = StatesNumber (codes "r ") k line
States (Number n) line = StatesNumber (codes "n ") n line
States Len line = line ≡ codes "len"
States Shrink line = line ≡ codes "shrink"
States (InternStatic _) line = ⊥
States (Truncate _) line = ⊥
States (Extend _) line = ⊥

-- the text of a reply, without its newline
abbrev pub reply_text : Reply → List ℕ
reply_text (Symbol n) = codes "symbol " ++ decimal n
reply_text Nothing = codes "none"
reply_text (Text text) = codes "text " ++ string_bytes text
reply_text (LenReply n) = codes "len " ++ decimal n
reply_text Done = codes "ok"
reply_text NoReply = codes "no reply"
reply_text NoSymbol = codes "no symbol"
reply_text NoMemory = codes "no memory"

-- the line of a reply, with its newline
abbrev pub reply_line : Reply → List ℕ
reply_line reply = reply_text reply ++ (10 ∷ [])
