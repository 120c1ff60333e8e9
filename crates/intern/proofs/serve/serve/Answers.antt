use Rattle.std.proofs.Common.{◌≡◌, ℕ, List, [], ◌∷◌, All, Option, Some, None, Result, Ok, Err, IfSome, OnOk, subst, string_bytes, rules}
use Rattle.std.specs.List.{AllZip}
use Rattle.std.proofs.lemmas.List.Elements.{All-cons, All-nil}
use Rattle.intern.specs.Arguments.{Names}
use Rattle.intern.specs.Fault.{IsLineFault}
use Rattle.intern.specs.declared.serve.Choice.{Choice}
use Rattle.intern.specs.Line.{States}
use Rattle.intern.specs.Lines.{IsFirstBadLine, IsStated, lines_of}
use Rattle.intern.specs.Served.{WritesReplies}
use Rattle.intern.specs.declared.fault.Fault.{Fault}
use Rattle.intern.specs.declared.fault.Fault.TheVariants.{BadLine}
use Rattle.string_interner.specs.declared.run.Command.{Command}
use Rattle.intern.proofs.serve.serve.Goals as goal

-- the text that was read is the known input
IfSome-input : (P : List ℕ → Type 0) (input : Option (List ℕ)) (text : List ℕ) → IfSome input (λ bytes. text ≡ bytes) → P text → IfSome input P
IfSome-input P None text e h = search rules
IfSome-input P (Some bytes) text e h = subst P e h

OnOk-map : {T E P Q : Type 0} (r : Result T E) → (P → Q) → OnOk r P → OnOk r Q
OnOk-map (Ok x) f h = f h
OnOk-map (Err e) f h = h

IsFirstBadLine-from_fault : (lines : List (List ℕ)) (fault : Fault) (n : ℕ) → IsLineFault lines fault → fault ≡ BadLine n → IsFirstBadLine lines n
IsFirstBadLine-from_fault lines fault n h e = subst (λ f. IsLineFault lines f) e h

All-IsStated : (commands : List Command) (lines : List (List ℕ)) → AllZip States commands lines → All IsStated lines
All-IsStated [] [] h = All-nil IsStated
All-IsStated (c ∷ cs) (l ∷ ls) h = All-cons IsStated l ls (c, h.0) (All-IsStated cs ls h.1)
All-IsStated [] (l ∷ ls) h = search rules
All-IsStated (c ∷ cs) [] h = search rules

pub returns-in_err-commands-clause-bad_line : goal.returns-in_err-commands-clause-bad_line
returns-in_err-commands-clause-bad_line g c = λ n e.
    let same : c.in_err-commands.field-0.0 ≡ BadLine n = search rules in
    let fault = rw c.deref.ensures at c.in_err-commands.ensures.fault in
    let number = IsFirstBadLine-from_fault (lines_of (string_bytes c.in_ok-text.text)) c.in_err-commands.field-0.0 n fault same in
    IfSome-input (λ bytes. IsFirstBadLine (lines_of bytes) n) (g.R.Read.remaining c.args.input.now) (string_bytes c.in_ok-text.text) c.in_ok-text.ensures.whole number

pub returns-clause-answered : goal.returns-clause-answered
returns-clause-answered g c =
    let stated = rw c.deref.ensures at c.in_ok-commands.ensures.stated in
    let ran = c.in_ok-replies.ensures.ran in
    let ran_on = rw c.deref-2.ensures.value at ran.1 in
    OnOk-map c.write_replies.result
    (λ told. IfSome-input (λ bytes. (choice : Choice) × Names c.args.arguments.now choice × WritesReplies choice bytes (g.W.Write.contents c.args.output.now) (g.W.Write.contents c.write_replies.new.output))
    (g.R.Read.remaining c.args.input.now) (string_bytes c.in_ok-text.text) c.in_ok-text.ensures.whole
    (c.in_ok-choice.choice, search rules, record { commands = c.in_ok-commands.commands.items; replies = c.in_ok-replies.replies.items; texts = ran.0; stated = stated; ran = ran_on; written = rw c.deref-3.ensures.value at told }))
    c.write_replies.ensures.written

pub returns-clause-output : goal.returns-clause-output
returns-clause-output g c = λ e.
    let stated = rw c.deref.ensures at c.in_ok-commands.ensures.stated in
    let all = All-IsStated c.in_ok-commands.commands.items (lines_of (string_bytes c.in_ok-text.text)) stated in
    IfSome-input (λ bytes. All IsStated (lines_of bytes)) (g.R.Read.remaining c.args.input.now) (string_bytes c.in_ok-text.text) c.in_ok-text.ensures.whole all
