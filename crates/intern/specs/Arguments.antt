-- Which backend the arguments name.
-- Cited by `serve`.
use Rattle.std.specs.Prelude.{◌≡◌, List, [], ◌∷◌, codes}
use Rattle.std.specs.declared.alloc.Global.{Global}
use Rattle.std.specs.declared.string.String.{String}
use Rattle.std.specs.String.{string_bytes}
use Rattle.intern.specs.declared.serve.Choice.{Choice}
use Rattle.intern.specs.declared.serve.Choice.TheVariants.{String as StringChoice, Bucket, Buffer}

-- the arguments are exactly one word, which is this backend's
abbrev pub Names : List (String Global) → Choice → Type 0
Names (word ∷ []) StringChoice = string_bytes word ≡ codes "string"
Names (word ∷ []) Bucket = string_bytes word ≡ codes "bucket"
Names (word ∷ []) Buffer = string_bytes word ≡ codes "buffer"
Names _ _ = ⊥
