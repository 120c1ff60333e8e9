-- A handle may go to another thread, as the interner that it holds may.
use mir.Raw.{raw}
use base.Shift.{Keyless}
use denote.Memory.{lone}
use denote.RawPtr.{Ptr}
use denote.Param.Send.{IsSend, enum_send, owning_send, recorded_send, struct_send, sendable}
use denote.Enum.Enum.{Enum}
use denote.Enum.Declared.{shape as shape_of}
use denote.Builtin.{RawPtr}
use denote.Struct.Struct.{exits_of}
use denote.Struct.Owning.{shape, fields, to}
use Rattle.std_alloc.proofs.SendSync.{quiet, lies}
use Rattle.std.proofs.Crossing as crossing
use Rattle.std.proofs.Crossing.{crosses}
use Rattle.std.specs.contracts.alloc.Global as heap
use Rattle.std.specs.Box.Ownership.{box_owns}
use Rattle.string_interner.proofs.backend.bucket.entries.Packed.TheSendSync.{the_send as packed}
use Rattle.handles.specs.Owns.{Inner, freed}
use Rattle.handles.specs.contracts.any.AnyInterner as any
use Rattle.handles.specs.contracts.handle.Handle.{the_row, the_type}

inner : IsSend Inner
inner = recorded_send (Enum (shape_of any.the_type)) _ _ any.the_type.to_one (enum_send (shape_of any.the_type)
    ((search (sendable, crosses) depth 60 fits 5000, tt), ((search (sendable, crosses, packed) depth 60 fits 5000, tt), ((search (sendable, crosses) depth 60 fits 5000, tt), tt))))

keyless : (a : heap.the_row.Denot) (p : Ptr) (x : Inner.Denot) → Keyless (box_owns (freed a) Inner p x)
keyless a p x = (lies Inner inner p x, crossing.frees.frees a (raw (lone Inner.mir)) p)

pub send : IsSend the_row
send = let O = the_type in let ps : IsSend RawPtr = search sendable in let gs : IsSend (heap.the_field).row = search sendable depth 20 in
    owning_send O (ps, (gs, tt)) (λ d. keyless d.alloc d.at d.value)
    (λ k. quiet (to O) (exits_of k (fields O)) ((struct_send (shape O) (ps, (gs, tt))).leaving k))
