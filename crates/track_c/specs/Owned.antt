-- What a handle owns. Key laws: `Sealed::of_box` and `into_box`, by their clauses (what was put in
-- comes out).
use Rattle.std.specs.Prelude.{Option, Some, None}
use base.Fml.{Fml, ftrue}
use base.Stored.{Coded}
use denote.RawPtr.{Ptr}
use Rattle.std.specs.Box.Ownership.{box_owns}
use Rattle.std.specs.Coded.{coded_option}
use Rattle.std.specs.Global.{Global}
use Rattle.std_heap.specs.contracts.GlobalAllocator.TheImpl.{ghosts}
use Rattle.track_c.specs.contracts.object.Object.{the_row}

-- the block at a pointer and the right to free it, where there is something in it
abbrev pub owned_at : Option the_row.Denot → Global → Ptr → Fml
owned_at None alloc p = ftrue
owned_at (Some object) alloc p = box_owns (ghosts.dealloc_token alloc) the_row p object

abbrev pub held_coded : Coded (Option the_row.Denot)
held_coded = coded_option the_row.coded
