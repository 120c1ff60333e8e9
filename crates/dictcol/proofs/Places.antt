-- Where a file ends early.
use Rattle.std.proofs.Common.{◌≡◌, ℕ, ◌+◌, ◌-◌, ◌^◌, [], ◌∷◌, ◌++◌, length, take, drop, Some, None, refl, sym, ap, ap₂, subst, ◌∙◌, arith}
use Rattle.std.specs.Prelude.{min, count_by}
use Rattle.std.proofs.lemmas.List.{append_assoc, append-nil}
use Rattle.memchr.specs.Find.{is_byte, IsLastByte}
use Rattle.string_interner.specs.Text.{Text}
use Rattle.dictcol.specs.Blocks.{EndsAtNewline}
use Rattle.dictcol.specs.Lines.{is_newline}
use Rattle.dictcol.specs.Places.{IsEarlyEnd, IsLastLine}
use Rattle.dictcol.specs.declared.fault.Fault.TheVariants.{EndsEarly}
use Rattle.dictcol.proofs.Taken.{last-none, last-some}

-- the last line is behind the last newline
pub line_behind : (text : Text) (at : ℕ) → IsLastByte (is_byte 10) text (Some at) → IsLastLine text (at + 1)
line_behind text at last =
    let from_start : 0 + at ≡ at = omega arith in
    let ends = subst (λ end. EndsAtNewline text end) from_start (last-some text 0 at last) in
    let behind = drop (at + 1) text in (
      take at text ∷ [],
      ends.0 ∙ sym (append_assoc (take at text) (10 ∷ []) behind) ∙ sym (ap (λ front. front ++ behind) (append-nil (take at text ++ 10 ∷ []))),
      ends.1,
    )

-- a text without a newline is one line
pub line_of_all : (text : Text) → IsLastByte (is_byte 10) text None → IsLastLine text 0
line_of_all text none = ([], refl, last-none text none)

-- the place behind the end of a text
pub early_end : (text : Text) (begin line column : ℕ) → IsLastLine text begin → line ≡ min (count_by is_newline text + 1) (2 ^ 64 - 1) → column ≡ min (length (drop begin text) + 1) (2 ^ 64 - 1)
    → IsEarlyEnd text (EndsEarly line column)
early_end text begin line column is line-is column-is = (begin, is, ap₂ EndsEarly line-is column-is)
