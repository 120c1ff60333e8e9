-- A `&` to a `Lasting` may go to another thread, since it only reads.
use mathlib.Core.List.{[]}
use denote.Builtin.{u8}
use denote.Param.Send.{IsSync, array_sync, sendable, struct_sync}
use denote.RawPtr.{block_of, count_of}
use denote.Struct.Owning.{shape}
use Rattle.string_interner.specs.contracts.backend.bucket.lasting.Lasting as C

u8-sync : IsSync u8
u8-sync = search sendable

pub sync : IsSync C.the_row
sync = record { shared = λ l b o κ. ((struct_sync (shape C.the_type) tt).shared tt b o κ, ((array_sync u8 0 u8-sync).shared l.bytes (block_of l.at) (count_of l.at) []).1) }
