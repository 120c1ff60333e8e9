-- A `Lasting` may go to another thread, since it only reads.
use mathlib.Core.List.{[]}
use denote.Builtin.{u8}
use denote.Param.Send.{IsSend, IsSync, array_sync, owning_send, sendable}
use denote.RawPtr.{block_of, count_of}
use Rattle.string_interner.specs.contracts.backend.bucket.lasting.Lasting as C

u8-sync : IsSync u8
u8-sync = search sendable

pub send : IsSend C.the_row
send = owning_send C.the_type tt (λ l. ((array_sync u8 0 u8-sync).shared l.bytes (block_of l.at) (count_of l.at) []).1) (λ k x w. tt)
