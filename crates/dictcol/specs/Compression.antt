-- How input begins that is compressed, and what reads it.
-- Cited by `compression`, `inputs` and `command`.
use Rattle.std.specs.Prelude.{Bool, ◌==◌, ◌&&◌, [], ◌∷◌, codes, drop, Option, Some, None, if◌then◌else◌}
use Rattle.std.specs.List.{starts_with}
use Rattle.string_interner.specs.Text.{Text}
use Rattle.dictcol.specs.declared.fault.Fault.{Fault}
use Rattle.dictcol.specs.declared.fault.Fault.TheVariants.{NotUtf8, Compressed}
use Rattle.dictcol.specs.declared.input.compression.Compression.{Compression}
use Rattle.dictcol.specs.declared.input.compression.Compression.TheVariants.{Gzip, Zstd, Xz, Bzip2}

abbrev pub begins_with : Text → Text → Bool
begins_with bytes front = starts_with (λ a b. a == b) bytes front

-- by the bytes with which the format of each begins; bzip2 has a digit, for the size of its blocks, between two parts of its own
abbrev pub compression_of : Text → Option Compression
compression_of bytes =
    if begins_with bytes (31 ∷ 139 ∷ []) then Some Gzip
    else if begins_with bytes (40 ∷ 181 ∷ 47 ∷ 253 ∷ []) then Some Zstd
    else if begins_with bytes (253 ∷ codes "7zXZ") then Some Xz
    else if begins_with bytes (codes "BZh") && begins_with (drop 4 bytes) (codes "1AY&SY") then Some Bzip2
    else None

-- the command that writes what was compressed
abbrev pub reader_of : Compression → Text
reader_of Gzip = codes "zcat"
reader_of Zstd = codes "zstdcat"
reader_of Xz = codes "xzcat"
reader_of Bzip2 = codes "bzcat"

-- A line that is not UTF-8 is told as one of compressed input, if the input looks like that.
abbrev pub explained : Option Compression → Fault → Fault
explained (Some compression) (NotUtf8 line) = Compressed line compression
explained compression fault = fault
