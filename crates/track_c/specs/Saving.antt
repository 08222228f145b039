-- The state of a mover as words, so that it outlives its process: how many there are, which they
-- are, and the mover that is made of them.
-- Key laws: `track_mover_save` (its words are those of the handset, and are loaded as the mover that
-- was saved), `track_mover_load` and `track_mover_length`, by their clauses.
use Rattle.std.specs.Prelude.{◌≡◌, ◌⊎◌, ℕ, ◌==◌, if◌then◌else◌, List, length, MatchResult, Result, Ok, Err}
use Rattle.handset.specs.Condition.{HandsetData}
use Rattle.handset.specs.States.{state_of, words_of}
use Rattle.handset.specs.declared.fault.StateFault.{StateFault}
use Rattle.handset.specs.declared.fault.StateFault.TheVariants as states
use Rattle.track_c.specs.Faults.{Answer}
use Rattle.track_c.specs.Held.{Held, MoverHeld, PlanHeld, a_mover}
use Rattle.track_c.specs.declared.fault.Fault.{Fault}
use Rattle.track_c.specs.declared.fault.Fault.TheVariants.{GarbledState, MixedState, NoMemory, NoNode, NoRoom, ShortState}

-- why words are no state
abbrev pub state_refusal : StateFault → Fault
state_refusal states.Short = ShortState
state_refusal states.Garbled = GarbledState
state_refusal states.NoNode = NoNode
state_refusal states.Mixed = MixedState

-- how many words the state of a mover has
abbrev pub length_told : MoverHeld → Answer ℕ
length_told mover = Ok (length (words_of mover.handset))

-- the words of a mover's state, where there is room for just so many
abbrev pub saved : ℕ → MoverHeld → Answer (List ℕ)
saved room mover =
    if room == length (words_of mover.handset) then Ok (words_of mover.handset) else Err NoRoom

-- a mover over a plan, unless the words are no state for it
abbrev pub unless_no_state : PlanHeld → Result HandsetData StateFault → Answer Held
unless_no_state held (Ok handset) = Ok (a_mover (record { plan = held.plan; handset = handset }))
unless_no_state held (Err fault) = Err (state_refusal fault)

-- the mover over a plan whose state these words are
abbrev pub loaded : List ℕ → PlanHeld → Answer Held
loaded words held = unless_no_state held (state_of held.plan words)

-- the words of a mover's state are loaded as that mover, over its plan
abbrev pub ComesBack : MoverHeld → Type 0
ComesBack mover =
    (starts : List ℕ)
    → loaded (words_of mover.handset) (record { plan = mover.plan; starts = starts })
    ≡ Ok (a_mover mover)

-- what an answer was written over words: they are its value; or else they are as before, and the
-- refusal is the answer's, or memory was wanting
abbrev pub IsWritten : Answer (List ℕ) → Result (Unit {0}) Fault → List ℕ → List ℕ → Type 0
IsWritten answer told before now =
    MatchResult told (λ _. answer ≡ Ok now)
    (λ fault. ((fault ≡ NoMemory) ⊎ (answer ≡ Err fault)) × (now ≡ before))
