-- What an input is once what is not UTF-8 is mended.
-- Cited by `mend`.
use Rattle.std.specs.Prelude.{◌++◌, Option, Some, None, drop, if◌then◌else◌}
use Rattle.std.specs.Option.{option_map}
use Rattle.std.specs.declared.io.traits.Read.{Ghosts}
use Rattle.std.specs.Str.Lossy.{utf8_lossy}
use Rattle.string_interner.specs.Text.{Text}
use Rattle.dictcol.specs.Lines.{utf8_lines}
use Rattle.dictcol.specs.declared.input.mend.Mending.{Mending}
use Rattle.dictcol.specs.declared.input.mend.Mending.TheVariants as mending
use Rattle.dictcol.specs.declared.input.mend.Mended.{Mended}

-- a text, mended in this way
abbrev pub mend_text : Mending → Text → Text
mend_text mending.Replace text = utf8_lossy text
mend_text mending.Skip text = utf8_lines text

-- what an input gives: all as it is, or mended
abbrev pub mended_text : Option Mending → Option Text → Option Text
mended_text None input = input
mended_text (Some mending) input = option_map (mend_text mending) input

-- ---- within the input

module _ {R : Type 0} {reads : Ghosts R} where
  -- what is ready and was not given
  abbrev pub ready_left : Mended R reads → Text
  ready_left mended = drop mended.given mended.ready.items

  -- what is ready, and then what is held and left of the input, mended. Nothing is behind the end.
  abbrev pub left_by : Option Mending → Mended R reads → Option Text
  left_by None mended = reads.remaining mended.input
  left_by (Some mending) mended = if mended.is_ended then Some (ready_left mended)
      else option_map (λ rest. ready_left mended ++ mend_text mending (mended.held.items ++ rest)) (reads.remaining mended.input)

  -- what is left to read
  abbrev pub mended_left : Mended R reads → Option Text
  mended_left mended = left_by mended.mending mended
