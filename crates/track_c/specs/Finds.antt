-- What a finder answers: the find of the directory, look by look. A word that is read must be one
-- that its cell may hold: a mark's or an entry's, which names no other node than the plan's.
-- Key laws: `track_finder_new`, `track_finder_next`, `track_finder_saw` and `track_finder_answer`,
-- by their clauses.
use Rattle.std.specs.Prelude.{ℕ, Bool, true, false, nat_lt, if◌then◌else◌, [], Option, Some, None, Result, Ok, Err}
use Rattle.entry_word.specs.Addresses.{address_of}
use Rattle.entry_word.specs.Marks.{mark_of}
use Rattle.entry_word.specs.declared.address.Address.{Address}
use Rattle.entry_word.specs.declared.mark.PresenceMark.{PresenceMark}
use Rattle.entry_word.specs.declared.mark.PresenceMark.TheVariants.{Empty, Here, Gone, Coming, Off}
use Rattle.entry_word.specs.declared.visit.Key.{Key}
use Rattle.entry_word.specs.declared.visit.Key.TheVariants.{Presence, Entry}
use Rattle.directory.specs.Finds.{after_word, answer_of, key_of}
use Rattle.directory.specs.declared.answers.Found.{Found}
use Rattle.region_plan.specs.Plan.{PlanData, nodes_of}
use Rattle.region_plan.specs.Settings.{setting_of}
use Rattle.walk.specs.Walks.{WalkData, call_of, pursuit_of, walk_or_fault}
use Rattle.walk.specs.declared.walk.WalkFault.{WalkFault}
use Rattle.walk.specs.declared.walk.WalkFault.TheVariants as walks
use Rattle.track_c.specs.Faults.{Answer}
use Rattle.track_c.specs.Held.{FinderHeld, Held, PlanHeld, a_finder}
use Rattle.track_c.specs.Told.{answer_told, cell_told}
use Rattle.track_c.specs.declared.cells.TrackAnswer.{TrackAnswer}
use Rattle.track_c.specs.declared.cells.TrackCell.{TrackCell}
use Rattle.track_c.specs.declared.fault.Fault.TheVariants.{BadWord, Ended, Looking, NoNode, NoSubscriber}

-- whether there is a mark, and it names no node from so many on
abbrev pub mark_fits : ℕ → Option PresenceMark → Bool
mark_fits nodes None = false
mark_fits nodes (Some Empty) = true
mark_fits nodes (Some (Here number)) = true
mark_fits nodes (Some (Gone number to)) = nat_lt to nodes
mark_fits nodes (Some (Coming number from)) = nat_lt from nodes
mark_fits nodes (Some (Off number)) = true

-- whether there is an entry, and it names no node from so many on
abbrev pub entry_fits : ℕ → Option (Option Address) → Bool
entry_fits nodes None = false
entry_fits nodes (Some None) = true
entry_fits nodes (Some (Some address)) = nat_lt address.node nodes

-- whether a cell of a plan may hold this word
abbrev pub fits : ℕ → Key → ℕ → Bool
fits nodes (Presence node sub) word = mark_fits nodes (mark_of word)
fits nodes (Entry level cluster sub) word = entry_fits nodes (address_of word)

-- a find that may begin
abbrev pub begun : PlanData → Result WalkData WalkFault → Answer Held
begun plan (Ok walk) =
    Ok (a_finder (record {
      plan = plan;
      call = call_of walk;
      pursuit = pursuit_of plan walk;
    }))
begun plan (Err walks.NoNode) = Err NoNode
begun plan (Err walks.NoSubscriber) = Err NoSubscriber

-- a new find, of one of so many subscribers
abbrev pub new_finder : ℕ → ℕ → ℕ → PlanHeld → Answer Held
new_finder from sub subs held = begun held.plan (walk_or_fault held.plan from sub subs)

-- the cell that is looked at next, if one is
abbrev pub look_told : PlanData → Option Key → Answer TrackCell
look_told plan None = Err Ended
look_told plan (Some key) = Ok (cell_told plan key)

-- the cell that a find looks at next
abbrev pub next_look : FinderHeld → Answer TrackCell
next_look finder = look_told finder.plan (key_of finder.call finder.pursuit)

-- a find that has read this word of a cell, if there is one and it may hold it
abbrev pub read_on : FinderHeld → ℕ → Option Key → Answer Held
read_on finder word None = Err Ended
read_on finder word (Some key) =
    if fits (nodes_of finder.plan) key word
    then Ok (a_finder (record finder {
      pursuit = after_word (setting_of finder.plan []) finder.call finder.pursuit word;
    }))
    else Err BadWord

-- a find after its next look, which read this word
abbrev pub after_look : ℕ → FinderHeld → Answer Held
after_look word finder = read_on finder word (key_of finder.call finder.pursuit)

-- an answer, if there is one
abbrev pub found_told : Option Found → Answer TrackAnswer
found_told None = Err Looking
found_told (Some found) = Ok (answer_told found)

-- the answer of a find
abbrev pub answer_in : FinderHeld → Answer TrackAnswer
answer_in finder = found_told (answer_of finder.pursuit)
