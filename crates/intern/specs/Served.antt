-- What a whole run of the program writes.
-- Cited by `serve`.
use Rattle.std.specs.Prelude.{ℕ, ◌-◌, ◌^◌, List, [], flat_map, Option}
use Rattle.std.specs.Io.KnownBytes.{Appends}
use Rattle.std.specs.List.{AllZip}
use Rattle.intern.specs.Line.{States, reply_line}
use Rattle.intern.specs.Lines.{lines_of}
use Rattle.intern.specs.declared.serve.Choice.{Choice}
use Rattle.intern.specs.declared.serve.Choice.TheVariants.{String as StringChoice, Bucket, Buffer}
use Rattle.string_interner.specs.BufferBackend.{buffer_numbering}
use Rattle.string_interner.specs.Numbering.{Numbering}
use Rattle.string_interner.specs.StringBackend.{string_numbering}
use Rattle.string_interner.specs.BucketBackend.{bucket_numbering}
use Rattle.string_interner.specs.declared.run.Command.{Command}
use Rattle.string_interner.specs.declared.run.Reply.{Reply}
use Rattle.string_interner.specs.Symbol.{number_below}
use Rattle.string_interner.specs.Run.{Run}
use Rattle.string_interner.specs.Text.{Text}

-- the symbol with a number, which is that number: those below 2 ^ 32 - 1 have one
abbrev pub symbol_of : ℕ → Option ℕ
symbol_of = number_below (2 ^ 32 - 1)

-- how the chosen backend numbers texts
abbrev pub numbering_over : Choice → Numbering ℕ
numbering_over StringChoice = string_numbering symbol_of (λ symbol. symbol)
numbering_over Bucket = bucket_numbering symbol_of (λ symbol. symbol)
numbering_over Buffer = buffer_numbering symbol_of (λ symbol. symbol)

-- For the bytes of an input, the known bytes of the output grow by the lines of the replies of an empty interner over
-- the chosen backend to the commands that the input's lines state.
pub record WritesReplies (choice : Choice) (bytes : List ℕ) (old new : Option (List ℕ)) : Type 0 where
  pub commands : List Command
  pub replies : List Reply
  pub texts : List Text
  pub stated : AllZip States commands (lines_of bytes)
  pub ran : Run (numbering_over choice) [] [] commands replies texts
  pub written : Appends old new (flat_map reply_line replies)
