-- The state of a handset as words of 64 bits, from which it is made again: eleven of its numbers,
-- its stage and its last move among them; then for each level the node of its address, and for each
-- level what it has gathered; and then the nodes of its trail, ascending. Words are read whatever
-- they are, and they are a state for a plan where the handset that was read has just these words
-- and goes with the plan.
-- Key laws: `states_come_back` (the words of a handset that goes with a plan are read as that
-- handset; and what is read of words is a handset that goes with the plan and has these words, so
-- that whatever is refused is no state).
use Rattle.std.specs.Prelude.{◌≡◌, ℕ, zero, suc, ◌+◌, ◌*◌, ◌^◌, ◌<◌, ◌==◌, ◌&&◌, Bool, true, false, not, nat_eq, nat_le, nat_lt, if◌then◌else◌, List, [], ◌∷◌, ◌++◌, drop, length, map, slice_index, slice_index_or, take, Option, Some, None, Result, Ok, Err}
use Rattle.std.specs.Cmp.Lexicographic.{pointwise}
use Rattle.std.specs.List.{list_all}
use Rattle.node_set.specs.Ascending.{has, sift}
use Rattle.directory.specs.Courses.{Move}
use Rattle.directory.specs.Writes.{numbers_from}
use Rattle.region_plan.specs.Kept.{IsKept}
use Rattle.region_plan.specs.Plan.{PlanData, levels_of, nodes_of}
use Rattle.handset.specs.declared.fault.StateFault.{StateFault}
use Rattle.handset.specs.declared.fault.StateFault.TheVariants.{Short, Garbled, NoNode, Mixed}
use Rattle.handset.specs.declared.fault.StateRefusal.{StateRefusal}
use Rattle.handset.specs.declared.fault.StateRefusal.TheVariants as refusals
use Rattle.handset.specs.declared.stage.Stage.{Stage}
use Rattle.handset.specs.declared.stage.Stage.TheVariants.{Resting, Coming, Renewing, Committing, Confirming, Erasing, Purging, Switching}
use Rattle.handset.specs.Condition.{GoesWith, HandsetData, begun_at}

-- a truth as a word
abbrev pub truth_word : Bool → ℕ
truth_word false = 0
truth_word true = 1

-- a stage as two words: its kind, and the level, the node or the switch that it names
abbrev pub stage_kind : Stage → ℕ
stage_kind Resting = 0
stage_kind Coming = 1
stage_kind (Renewing level) = 2
stage_kind Committing = 3
stage_kind Confirming = 4
stage_kind (Erasing level) = 5
stage_kind (Purging node) = 6
stage_kind (Switching off) = 7

abbrev pub stage_part : Stage → ℕ
stage_part Resting = 0
stage_part Coming = 0
stage_part (Renewing level) = level
stage_part Committing = 0
stage_part Confirming = 0
stage_part (Erasing level) = level
stage_part (Purging node) = node
stage_part (Switching off) = truth_word off

-- the words before those of the levels
abbrev pub head_of : HandsetData → List ℕ
head_of handset =
    handset.sub ∷ handset.place ∷ handset.number ∷ truth_word handset.is_off
    ∷ stage_kind handset.stage ∷ stage_part handset.stage ∷ handset.last.number
    ∷ handset.last.from ∷ handset.last.to ∷ handset.last.weight ∷ handset.last.renewed ∷ []

-- the nodes of a trail
abbrev pub nodes_on : List Bool → List ℕ
nodes_on trail = sift (λ node. slice_index_or trail node false) 0 (length trail)

-- the words of a handset
abbrev pub words_of : HandsetData → List ℕ
words_of handset =
    head_of handset ++ (handset.addresses ++ (handset.gathered ++ nodes_on handset.trail))

-- a number of 32 bits by its word; a word that is too large isn't one, and is read as 0
abbrev pub narrow : ℕ → ℕ
narrow word = if nat_lt word (2 ^ 32) then word else 0

-- the stage of this kind that names this; of a kind that there isn't Resting is read
abbrev pub stage_from : ℕ → ℕ → Stage
stage_from zero part = Resting
stage_from (suc zero) part = Coming
stage_from (suc (suc zero)) part = Renewing part
stage_from (suc (suc (suc zero))) part = Committing
stage_from (suc (suc (suc (suc zero)))) part = Confirming
stage_from (suc (suc (suc (suc (suc zero))))) part = Erasing part
stage_from (suc (suc (suc (suc (suc (suc zero)))))) part = Purging part
stage_from (suc (suc (suc (suc (suc (suc (suc zero))))))) part = Switching (part == 1)
stage_from (suc (suc (suc (suc (suc (suc (suc (suc more)))))))) part = Resting

-- the trail of nodes that have these words among some
abbrev pub trail_from : ℕ → List ℕ → List Bool
trail_from nodes words = map (λ node. has node words) (numbers_from 0 nodes)

-- the handset that is read of a head and what follows it
abbrev pub handset_from : PlanData → List ℕ → List ℕ → HandsetData
handset_from plan head rest =
    record {
      sub = narrow (slice_index head 0);
      place = narrow (slice_index head 1);
      number = narrow (slice_index head 2);
      is_off = slice_index head 3 == 1;
      stage = stage_from (slice_index head 4) (narrow (slice_index head 5));
      last = record {
        number = narrow (slice_index head 6);
        from = narrow (slice_index head 7);
        to = narrow (slice_index head 8);
        weight = slice_index head 9;
        renewed = narrow (slice_index head 10);
      };
      addresses = map narrow (take (levels_of plan) rest);
      gathered = take (levels_of plan) (drop (levels_of plan) rest);
      trail = trail_from (nodes_of plan) (drop (levels_of plan) (drop (levels_of plan) rest));
    }

-- whether the level or the node of a stage is one of its move, or of the plan
abbrev pub is_move_stage : ℕ → Move → Stage → Bool
is_move_stage nodes move Resting = true
is_move_stage nodes move Coming = true
is_move_stage nodes move (Renewing level) = nat_le level move.renewed
is_move_stage nodes move Committing = true
is_move_stage nodes move Confirming = true
is_move_stage nodes move (Erasing level) = nat_le level move.renewed
is_move_stage nodes move (Purging node) = nat_lt node nodes
is_move_stage nodes move (Switching off) = true

-- whether the nodes that a handset names are those of a plan
abbrev pub names_nodes : ℕ → HandsetData → Bool
names_nodes nodes handset =
    nat_lt handset.place nodes && nat_lt handset.last.from nodes && nat_lt handset.last.to nodes
    && list_all (λ node. nat_lt node nodes) handset.addresses

-- whether the levels, the numbers and the weights of a handset go with one another and the plan
abbrev pub goes_together : PlanData → HandsetData → Bool
goes_together plan handset =
    nat_lt handset.last.renewed (levels_of plan)
    && is_move_stage (nodes_of plan) handset.last handset.stage
    && handset.last.number == begun_at handset.stage handset.number
    && list_all (λ weight. nat_le weight (handset.last.number * 2 ^ 30)) handset.gathered

-- why a handset doesn't go with a plan, if it doesn't
abbrev pub state_fault : PlanData → HandsetData → Option StateFault
state_fault plan handset =
    if not (names_nodes (nodes_of plan) handset) then Some NoNode
    else if not (goes_together plan handset) then Some Mixed
    else None

-- what was read, unless it has a fault
abbrev pub or_fault : HandsetData → Option StateFault → Result HandsetData StateFault
or_fault handset None = Ok handset
or_fault handset (Some fault) = Err fault

-- what was read of words, unless these aren't its own or it has a fault
abbrev pub checked : PlanData → List ℕ → HandsetData → Result HandsetData StateFault
checked plan words handset =
    if not (pointwise nat_eq (words_of handset) words) then Err Garbled
    else or_fault handset (state_fault plan handset)

-- the handset of which words are the state, or why they are none for a plan
abbrev pub state_of : PlanData → List ℕ → Result HandsetData StateFault
state_of plan words =
    if nat_lt (length words) (11 + 2 * levels_of plan) then Err Short
    else checked plan words (handset_from plan (take 11 words) (drop 11 words))

-- words are the state of a handset that goes with a plan
pub record IsStateFor (plan : PlanData) (handset : HandsetData) (words : List ℕ) : Type 0 where
  pub same : words ≡ words_of handset
  pub goes : GoesWith plan handset
  pub sub : handset.sub < 2 ^ 32

-- a state is read as the handset that it is of (`states_come_back`)
abbrev pub StatesComeBack : Type 0
StatesComeBack =
    (plan : PlanData) (handset : HandsetData) (words : List ℕ) → IsKept plan
    → IsStateFor plan handset words → state_of plan words ≡ Ok handset

-- and words that are read as a handset are its state (`states_come_back`)
abbrev pub ReadWordsAreStates : Type 0
ReadWordsAreStates =
    (plan : PlanData) (words : List ℕ) (handset : HandsetData)
    → state_of plan words ≡ Ok handset → IsStateFor plan handset words

-- a refusal is an answer's own, unless memory was wanting
abbrev pub IsRefusalOf : Result HandsetData StateFault → StateRefusal → Type 0
IsRefusalOf answer (refusals.Fault fault) = answer ≡ Err fault
IsRefusalOf answer refusals.OutOfMemory = Unit {0}
