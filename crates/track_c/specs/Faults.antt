-- The codes that C is told, and what a call leaves in the place of its answer: with the code 0 the
-- answer, with any other what was there before. Key laws: `tell`, `done` and `TrackHandle::fill`,
-- by their clauses.
use Rattle.std.specs.Prelude.{◌≡◌, ◌⊎◌, ℕ, Result, Ok, Err}
use Rattle.track_c.specs.declared.fault.Fault.{Fault}
use Rattle.track_c.specs.declared.fault.Fault.TheVariants.{NoMemory, EmptyHandle, OtherKind, FullHandle, BadNetwork, NoNode, NoSubscriber, SamePlace, UnderWay, IsOff, NumbersSpent, Already, AtRest, Ended, Looking, PastEnd, BadWord, BadFields, NoRoom, ShortState, GarbledState, MixedState, CountTooLarge, Unreserved, Held}

-- the code of a fault
abbrev pub code_of : Fault → ℕ
code_of NoMemory = 1
code_of EmptyHandle = 2
code_of OtherKind = 3
code_of FullHandle = 4
code_of BadNetwork = 5
code_of NoNode = 6
code_of NoSubscriber = 7
code_of SamePlace = 8
code_of UnderWay = 9
code_of IsOff = 10
code_of NumbersSpent = 11
code_of Already = 12
code_of AtRest = 13
code_of Ended = 14
code_of Looking = 15
code_of PastEnd = 16
code_of BadWord = 17
code_of BadFields = 18
code_of NoRoom = 19
code_of ShortState = 20
code_of GarbledState = 21
code_of MixedState = 22
code_of CountTooLarge = 23
code_of Unreserved = 24
code_of Held = 25

-- an answer, or why there is none
abbrev pub Answer : Type 0 → Type 0
Answer T = Result T Fault

-- a call with this answer told this code, and left what was before as what is now
abbrev pub Tells : {T : Type 0} → Answer T → ℕ → T → T → Type 0
Tells (Ok value) code before now = (code ≡ 0) × (now ≡ value)
Tells (Err fault) code before now = (code ≡ code_of fault) × (now ≡ before)

-- so did a call that may want memory, or it had none, and changed nothing
abbrev pub TellsWithMemory : {T : Type 0} → Answer T → ℕ → T → T → Type 0
TellsWithMemory answer code before now =
    Tells answer code before now ⊎ ((code ≡ code_of NoMemory) × (now ≡ before))

-- goes on with an answer, if there is one
abbrev pub and_then : {A B : Type 0} → Answer A → (A → Answer B) → Answer B
and_then (Ok value) next = next value
and_then (Err fault) next = Err fault
