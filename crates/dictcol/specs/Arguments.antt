-- What the words of a command ask for: nothing that was chosen is lost.
-- Cited by `given`.
use Rattle.std.specs.Prelude.{◌≡◌, ⊤, true, false, [], Option, Some, None}
use Rattle.std.specs.Borrow.{Bor}
use Rattle.std.specs.Option.{option_flatten, unwrap_or}
use Rattle.string_interner.specs.Text.{Text}
use Rattle.dictcol.specs.Names.{Names}
use Rattle.dictcol.specs.declared.arguments.given.Given.{Given}
use Rattle.dictcol.specs.declared.arguments.options.CommandName.{CommandName}
use Rattle.dictcol.specs.declared.arguments.options.CommandName.TheVariants as named
use Rattle.dictcol.specs.declared.command.BackendKind.TheVariants.{String as StringKind}
use Rattle.dictcol.specs.declared.command.Command.{Command}
use Rattle.dictcol.specs.declared.command.Command.TheVariants.{Encode, WriteColumns, Decode, Count, CountEncoded, Distinct, Merge, Shard}
use Rattle.dictcol.specs.declared.command.Files.{Files}
use Rattle.dictcol.specs.declared.command.Files.TheVariants.{Named, Listed}
use Rattle.dictcol.specs.declared.command.Invocation.{Invocation}
use Rattle.dictcol.specs.declared.command.Invocation.TheVariants.{Get, Run}
use Rattle.dictcol.specs.declared.command.Order.{Order}
use Rattle.dictcol.specs.declared.command.Order.TheVariants.{Appearance, Frequency, Top}
use Rattle.dictcol.specs.declared.command.Rows.{Rows}
use Rattle.dictcol.specs.declared.get.Asked.{Asked}
use Rattle.dictcol.specs.declared.get.Asked.TheVariants as asked
use Rattle.dictcol.specs.declared.get.Get.{Get as Got}
use Rattle.dictcol.specs.declared.input.field.Field.{Field}
use Rattle.dictcol.specs.declared.reader.Reading.{Reading}

-- the field that the words say, behind tabs unless they say another byte
abbrev pub IsField : Given → Option Field → Type 0
IsField given None = given.field ≡ None
IsField given (Some field) = (given.field ≡ Some field.number) × (field.separator ≡ unwrap_or given.separator 9)

-- lines are read as the words say
pub record IsReading (given : Given) (reading : Reading) : Type 0 where
  pub mending : reading.mending ≡ option_flatten given.mending
  pub ends : reading.is_zero_ended ≡ given.is_zero_ended
  pub field : IsField given reading.field

-- Counted lines are written in this order: `--top` asks for the most frequent by itself.
abbrev pub IsOrderOf : Given → Order → Type 0
IsOrderOf given Appearance = (given.top ≡ None) × (given.is_sorted ≡ false)
IsOrderOf given Frequency = (given.top ≡ None) × (given.is_sorted ≡ true)
IsOrderOf given (Top n) = given.top ≡ Some n

-- these counted lines are written, which are all if the words do not say how often each occurs at least
pub record AreRowsOf (given : Given) (rows : Rows) : Type 0 where
  pub order : IsOrderOf given rows.order
  pub at_least : rows.at_least ≡ unwrap_or given.at_least 1

-- the command of this name, with all that the words say of it
abbrev pub IsCommand : Given → CommandName → Command → Type 0
IsCommand given named.Encode (WriteColumns columns) = (given.folder ≡ Some columns.folder) × (columns.onto ≡ given.onto) × (columns.appends ≡ given.appends)
IsCommand given named.Encode Encode = given.folder ≡ None
IsCommand given named.Decode Decode = ⊤
IsCommand given named.Count (Count rows) = (given.is_encoded ≡ false) × AreRowsOf given rows
IsCommand given named.Count (CountEncoded rows) = (given.is_encoded ≡ true) × AreRowsOf given rows
IsCommand given named.Distinct Distinct = ⊤
IsCommand given named.Merge Merge = ⊤
IsCommand given named.Shard (Shard shards) = given.shards ≡ Some shards
IsCommand given other command = ⊥

-- the files are those that the words name, or the list is
abbrev pub AreFiles : Given → Files → Type 0
AreFiles given (Named files) = (given.list ≡ None) × (files ≡ given.files)
AreFiles given (Listed source) = (path : Bor Text) × (given.list ≡ Some path) × Names path.now source × (given.files.items ≡ [])

-- the numbers of these texts are asked for, or these rows and no texts
abbrev pub IsAsked : Given → Asked → Type 0
IsAsked given (asked.Texts texts) = (given.range ≡ None) × (texts ≡ given.texts)
IsAsked given (asked.Rows range) = (given.range ≡ Some range) × (given.texts.items ≡ [])

-- of this folder is written what the words say
pub record IsGet (given : Given) (got : Got) : Type 0 where
  pub folder : given.columns ≡ Some got.folder
  pub asked : IsAsked given got.asked
  pub is_checked : got.is_checked ≡ given.is_checked

-- what all the words ask for
abbrev pub IsInvocation : Given → Invocation → Type 0
IsInvocation given (Run command backend reading files) =
    ((name : CommandName) × (given.command ≡ Some name) × IsCommand given name command)
    × (backend ≡ unwrap_or given.backend StringKind) × IsReading given reading × AreFiles given files
IsInvocation given (Get got) = (given.command ≡ Some named.Get) × IsGet given got
IsInvocation given other = ⊥
