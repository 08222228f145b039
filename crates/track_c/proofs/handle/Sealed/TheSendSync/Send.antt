-- A seal may go to another thread, since what a handle can hold may.
use Rattle.std.specs.Prelude.{Option, Some, None}
use base.Shift.{Keyless}
use denote.RawPtr.{Ptr}
use Rattle.std.specs.Global.{Global}
use Rattle.track_c.specs.Owned.{owned_at}
use mir.Raw.{raw}
use denote.Memory.{lone}
use denote.Struct.Struct.{exits_of}
use denote.Struct.Owning.{shape, fields, to}
use denote.Param.Send.{IsSend, AllSend, owning_send, struct_send, sendable}
use Rattle.std.proofs.Crossing as heap
use Rattle.std_alloc.proofs.SendSync.{quiet, lies}
use Rattle.std_heap.proofs.Global.TheSendSync as handle
use Rattle.track_c.specs.contracts.object.Object as Object
use Rattle.track_c.proofs.object.Object.TheSendSync.{the_send as object}
use Rattle.track_c.specs.contracts.handle.Sealed.{the_row, the_type}

-- what is behind the pointer names no thread
keyless : (held : Option Object.the_row.Denot) (alloc : Global) (p : Ptr) → Keyless (owned_at held alloc p)
keyless None alloc p = tt
keyless (Some x) alloc p = (lies Object.the_row object p x, heap.frees.frees alloc (raw (lone Object.the_row.mir)) p)

pub send : IsSend the_row
send =
    let all : AllSend (fields the_type) = (search sendable, (handle.the_field_send, tt)) in
    owning_send the_type all (λ d. keyless d.held d.alloc d.at)
    (λ k. quiet (to the_type) (exits_of k (fields the_type)) ((struct_send (shape the_type) all).leaving k))
