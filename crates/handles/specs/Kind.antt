-- The kinds of interner: their codes in C, and what each means for the symbols of texts.
-- Cited by `Kind` and by all that speaks of an interner of any kind.
use Rattle.std.specs.Prelude.{◌≡◌, ℕ, ◌-◌, ◌*◌, ◌^◌, List, [], Option, Result, Ok, Err}
use Rattle.string_interner.specs.Text.{Text}
use Rattle.string_interner.specs.Backend.{Bucket as BucketOfBytes}
use Rattle.string_interner.specs.BucketBackend.{CopiesBuckets, bucket_numbering}
use Rattle.string_interner.specs.Symbol.{number_below}
use Rattle.string_interner.specs.Numbering.{Numbering}
use Rattle.string_interner.specs.StringBackend.{string_numbering}
use Rattle.string_interner.specs.BufferBackend.{buffer_numbering}
use Rattle.handles.specs.declared.kind.Kind.{Kind}
use Rattle.handles.specs.declared.status.Status.{Status}
use Rattle.handles.specs.declared.status.Status.TheVariants.{BadKind}
use Rattle.handles.specs.declared.kind.Kind.TheVariants.{String, Bucket, Buffer}

-- the code of a kind in C
abbrev pub code_of_kind : Kind → ℕ
code_of_kind String = 0
code_of_kind Bucket = 1
code_of_kind Buffer = 2

-- The kind has this code, or no kind has it.
abbrev pub HasCode : ℕ → Result Kind Status → Type 0
HasCode code (Ok kind) = code_of_kind kind ≡ code
HasCode code (Err BadKind) = (kind : Kind) → ¬ (code_of_kind kind ≡ code)
HasCode code (Err _) = ⊥

-- the symbol with a number, which is that number: those below 2 ^ 32 - 1 have one
abbrev pub symbol_of : ℕ → Option ℕ
symbol_of = number_below (2 ^ 32 - 1)

-- how an interner of a kind numbers its texts: a symbol is its number
abbrev pub numbering_in : Kind → Numbering ℕ
numbering_in String = string_numbering symbol_of (λ n. n)
numbering_in Bucket = bucket_numbering symbol_of (λ n. n)
numbering_in Buffer = buffer_numbering symbol_of (λ n. n)

-- the room that a capacity grants
abbrev pub grant_in : Kind → ℕ → ℕ
grant_in String capacity = 5 * capacity
grant_in Bucket capacity = capacity
grant_in Buffer capacity = 13 * capacity

-- what the buckets of a copy are, by the texts and the buckets that are copied
abbrev pub copies_in : Kind → List Text → List BucketOfBytes → List BucketOfBytes → Type 0
copies_in String texts old copy = copy ≡ []
copies_in Bucket texts old copy = CopiesBuckets texts old copy
copies_in Buffer texts old copy = copy ≡ []
