-- What is written of an input, and how reading it may fail.
use Rattle.std.proofs.Common.{◌≡◌, List, Option, None, Some, Result, Ok, Err, sym, subst, inl, inr}
use Rattle.std.specs.Prelude.{⊤, IfSome, OnOk}
use Rattle.std.proofs.lemmas.Option.{IfSome_then}
use Rattle.string_interner.specs.Text.{Text}
use Rattle.dictcol.specs.Blocks.{IsLinesFault}
use Rattle.dictcol.specs.Fault.{IsTakeFault}
use Rattle.dictcol.specs.File.{IsFileFault}
use Rattle.dictcol.specs.Lines.{lines_of}
use Rattle.dictcol.specs.TooMany.{HasRefused}
use Rattle.dictcol.specs.declared.fault.Fault.{Fault}
use Rattle.dictcol.proofs.ParseFault.{parse-weaker}
use Rattle.dictcol.proofs.TooMany.{take-weaker}

-- a line of what an input yields is refused
pub text-fault : (Refuses : List Text → Text → Type 0) (input : Option Text) (text : Text) (fault : Fault) → IfSome input (λ all. all ≡ text)
    → IsTakeFault (HasRefused Refuses (lines_of text)) fault → IsLinesFault Refuses input fault
text-fault Refuses input text fault whole taking =
    inr (inl (take-weaker fault (λ refused. IfSome_then input whole (λ all is. subst (λ t. HasRefused Refuses (lines_of t)) (sym is) refused)) taking))

-- what is written of each text of which this is true is written of an input
pub input-written : (input : Option Text) (result : Result (Unit {0}) Fault) (Is Written : Text → Type 0) → IfSome input Is → ((text : Text) → Is text → OnOk result (Written text))
    → OnOk result (IfSome input Written)
input-written None (Ok done) Is Written is written = tt
input-written None (Err fault) Is Written is written = tt
input-written (Some text) result Is Written is written = written text is

-- the bytes that are a bad file are those that an input yields
pub file-fault : (Crowds : Text → Type 0) (input : Option Text) (bytes : Text) (fault : Fault) → IfSome input (λ all. bytes ≡ all) → IsFileFault Crowds (Some bytes) fault → IsFileFault Crowds input fault
file-fault Crowds None bytes fault whole (inl (line, is, bad)) = inl (line, is, tt)
file-fault Crowds None bytes fault whole (inr (text, is, parse)) = inr (text, tt, parse)
file-fault Crowds (Some all) bytes fault whole why = subst (λ known. IsFileFault Crowds (Some known) fault) whole why

-- one reason for too many texts has another one behind it
pub file-weaker : (Crowds Crowds' : Text → Type 0) (input : Option Text) (fault : Fault) → ((text : Text) → Crowds text → Crowds' text) → IsFileFault Crowds input fault → IsFileFault Crowds' input fault
file-weaker Crowds Crowds' input fault more (inl bad) = inl bad
file-weaker Crowds Crowds' input fault more (inr (text, is, parse)) = inr (text, is, parse-weaker fault (more text) (λ damage. damage) parse)
