-- What a handle owns.
-- Cited by the model of `Handle`.
use mir.Syntax.{Ty}
use base.Fml.{Fml}
use denote.RattleType.{RattleType}
use denote.RawPtr.{Ptr}
use Rattle.std.specs.declared.alloc.Global.{Global}
use Rattle.std.specs.contracts.impls.GlobalAllocator.TheImpl as heap
use Rattle.handles.specs.contracts.any.AnyInterner as any

-- an interner of any kind, as the logic knows its type
abbrev pub Inner : RattleType
Inner = any.the_row

-- the right to free a block
abbrev pub freed : Global → Ty → Ptr → Fml
freed alloc = heap.ghosts.dealloc_token alloc
