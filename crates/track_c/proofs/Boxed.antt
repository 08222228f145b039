-- A box of what a handle holds, as the steps over boxes want it; and the rows of what stands for it
-- with its pointer in sight.
use mathlib.Core.List.{[]}
use mir.Syntax.{impl, tnil, dnil}
use denote.Signature.{Slot, plain}
use Rattle.std_alloc.proofs.BoxSteps.Form.{Bx}
use Rattle.std_heap.specs.contracts.Global as Heap
use Rattle.std_heap.specs.contracts.GlobalAllocator.TheImpl.{ghosts, dict}
use Rattle.std_heap.proofs.Global.TheLaws as heap
use Rattle.track_c.specs.contracts.handle.Sealed as Sealed
use Rattle.track_c.specs.contracts.handle.parts.BoxParts as Parts
use Rattle.track_c.specs.contracts.object.Object as Object
use Rattle.track_c.proofs.object.Object.TheLaws as object

-- the box
abbrev pub boxed : Bx
boxed =
    record {
      row = Object.the_row;
      laws = object.the_row_laws;
      al = record {
        row = Heap.the_row;
        laws = heap.the_row_laws;
        g = ghosts;
        d = dict;
        drops = impl [] tnil dnil;
      };
    }

-- a parameter that is its parts
abbrev pub parts_slot : Slot 0
parts_slot = plain (λ _. Parts.the_row Object.the_row Heap.the_row ghosts)

-- and one that is its seal
abbrev pub seal_slot : Slot 0
seal_slot = plain (λ _. Sealed.the_row)
