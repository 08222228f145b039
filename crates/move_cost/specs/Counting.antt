-- What the code follows, of which only the private functions of this crate speak: puts in place of
-- writes, read by their words; what fits a plan; and how far a handset is with its script.
-- Key law: `costs`, by its clause `lines` (what is counted so is what the writes cost).
use Rattle.std.specs.Prelude.{◌≡◌, ◌≢◌, ℕ, suc, ◌+◌, ◌-◌, ◌*◌, ◌^◌, ◌<◌, ◌≤◌, Bool, true, false, List, [], All, Option, Some, None, count_by, drop, length, map, sum_by, take}
use Rattle.node_set.specs.Ascending.{has}
use Rattle.entry_word.specs.Marks.{mark_in}
use Rattle.entry_word.specs.Addresses.{address_in}
use Rattle.entry_word.specs.declared.address.Address.{Address}
use Rattle.entry_word.specs.declared.mark.PresenceMark.{PresenceMark}
use Rattle.entry_word.specs.declared.mark.PresenceMark.TheVariants.{Empty, Here, Gone, Coming, Off}
use Rattle.entry_word.specs.declared.visit.Key.TheVariants.{Presence, Entry}
use Rattle.entry_word.specs.declared.visit.Act.{Act}
use Rattle.entry_word.specs.declared.visit.Act.TheVariants.{Look, Put, Census}
use Rattle.directory.specs.Settings.{Setting}
use Rattle.directory.specs.Courses.{Step}
use Rattle.directory.specs.Orders.{steps_of}
use Rattle.directory.specs.Writes.{Write, mark_at, entry_at, visit_of, visits}
use Rattle.net_reader.specs.Input.{Contents}
use Rattle.net_reader.specs.declared.said.Call.{Call}
use Rattle.net_reader.specs.declared.said.Call.TheVariants as calls
use Rattle.region_plan.specs.Plan.{PlanData, clusters_of, distance, levels_of, members_of, nodes_of}
use Rattle.region_plan.specs.Settings.{setting_of}
use Rattle.handset.specs.Condition.{GoesWith, HandsetData}
use Rattle.handset.specs.StepWrites.{due}
use Rattle.handset.specs.Stands.{StandsForSteps}
use Rattle.scripts.specs.Scripts.{scripts_of}
use Rattle.move_cost.specs.declared.line.CostLine.{CostLine}
use Rattle.move_cost.specs.Costs.{cost_line, entry_weight, is_purge, mark_weight, says_nothing, write_weight}

-- the weight of an act, by a subscriber that goes to a node
abbrev pub act_weight : Setting → ℕ → Act → ℕ
act_weight setting node (Look key) = 0
act_weight setting node (Put (Presence place sub) word) = mark_weight setting place (mark_in word)
act_weight setting node (Put (Entry level cluster sub) word) =
    entry_weight setting node level cluster (address_in word)
act_weight setting node (Census place) = 0

-- whether an act is a purge
abbrev pub act_purges : Act → Bool
act_purges (Look key) = false
act_purges (Put (Presence place sub) word) = says_nothing (mark_in word)
act_purges (Put (Entry level cluster sub) word) = false
act_purges (Census place) = false

-- the number of a mark fits into its word, and its node is one of the plan
abbrev pub IsFitMark : PlanData → PresenceMark → Type 0
IsFitMark plan Empty = Unit {0}
IsFitMark plan (Here number) = number < 2 ^ 32
IsFitMark plan (Gone number to) = (number < 2 ^ 32) × (to < nodes_of plan)
IsFitMark plan (Coming number from) = (number < 2 ^ 32) × (from < nodes_of plan)
IsFitMark plan (Off number) = number < 2 ^ 32

-- the number of an address fits into its word, and its node is in the cluster
abbrev pub IsFitEntry : PlanData → ℕ → ℕ → Option Address → Type 0
IsFitEntry plan level cluster None = Unit {0}
IsFitEntry plan level cluster (Some address) =
    (address.number < 2 ^ 32) × (address.node < nodes_of plan)
    × (has address.node (members_of plan level cluster) ≡ true)

-- what is written fits a plan
abbrev pub IsFit : PlanData → Write → Type 0
IsFit plan (mark_at place mark) = (place < nodes_of plan) × IsFitMark plan mark
IsFit plan (entry_at level cluster address) =
    (level < levels_of plan) × (cluster < clusters_of plan level)
    × IsFitEntry plan level cluster address

-- what is put fits a plan
abbrev pub IsFitAct : PlanData → Act → Type 0
IsFitAct plan (Look key) = Unit {0}
IsFitAct plan (Put (Presence place sub) word) =
    (place < nodes_of plan) × IsFitMark plan (mark_in word)
IsFitAct plan (Put (Entry level cluster sub) word) =
    (level < levels_of plan) × (cluster < clusters_of plan level)
    × IsFitEntry plan level cluster (address_in word)
IsFitAct plan (Census place) = Unit {0}

-- no write weighs more
abbrev pub most_weight : ℕ
most_weight = 2 ^ 36

-- a handset stands for these steps and so many visits made, and these writes, which fit, are left
pub record IsLeft (plan : PlanData) (starts : List ℕ) (handset : HandsetData) (steps : List Step)
    (made : ℕ) (later : List Write) : Type 0 where
  pub stands : StandsForSteps (setting_of plan starts) handset steps made
  pub left : drop made (visits (setting_of plan starts) handset.sub steps)
      ≡ map (visit_of handset.sub) later
  pub fit : All (IsFit plan) later

-- a line with what these writes cost, by a subscriber that goes to a node
abbrev pub with_writes : Setting → ℕ → CostLine → List Write → CostLine
with_writes setting node line later =
    record line {
      written = line.written + sum_by (write_weight setting node) later;
      purged = line.purged + count_by is_purge later;
    }

-- some writes are left of a handset, and a line has room for them
pub record HasRoom (plan : PlanData) (handset : HandsetData) (line : CostLine) : Type 0 where
  pub starts : List ℕ
  pub steps : List Step
  pub made : ℕ
  pub later : List Write
  pub left : IsLeft plan starts handset steps made later
  pub written : line.written + length later * most_weight < 2 ^ 64
  pub purged : line.purged + length later < 2 ^ 64

-- a handset may begin the step of a call
abbrev pub MayBegin : PlanData → HandsetData → Call → Type 0
MayBegin plan handset (calls.Move to) =
    (to < nodes_of plan) × (to ≢ handset.place) × (handset.is_off ≡ false)
    × (handset.number < 2 ^ 32 - 1)
MayBegin plan handset (calls.Find from sub) = ⊥
MayBegin plan handset calls.Off = handset.is_off ≡ false
MayBegin plan handset calls.On = handset.is_off ≡ true

-- the node that a handset goes to with a call
abbrev pub node_after : HandsetData → Call → ℕ
node_after handset (calls.Move to) = to
node_after handset (calls.Find from sub) = handset.place
node_after handset calls.Off = handset.place
node_after handset calls.On = handset.place

-- a line with a move of this weight
abbrev pub with_move : CostLine → ℕ → CostLine
with_move line weight =
    record line {
      moves = suc line.moves;
      moved = line.moved + weight;
    }

-- a line with the step of a call that a handset begins
abbrev pub with_call : PlanData → HandsetData → CostLine → Call → CostLine
with_call plan handset line (calls.Move to) =
    with_move line (distance plan handset.place to)
with_call plan handset line (calls.Find from sub) = line
with_call plan handset line calls.Off = line
with_call plan handset line calls.On = line

-- the first steps of a subscriber
abbrev pub first_steps : Contents → ℕ → ℕ → List Step
first_steps input sub count = take count (steps_of (scripts_of input) sub)

-- what a line says of so many steps is small
pub record IsSmallLine (count : ℕ) (line : CostLine) : Type 0 where
  pub moves : line.moves ≤ count
  pub moved : line.moved ≤ count * 2 ^ 30
  pub written : line.written ≤ count * (2 ^ 11 * most_weight)
  pub purged : line.purged ≤ count * 2 ^ 11

-- a handset has made its first steps, and a line says what they cost
pub record IsCounted (input : Contents) (plan : PlanData) (sub count : ℕ) (handset : HandsetData)
    (line : CostLine) : Type 0 where
  pub goes : GoesWith plan handset
  pub its : handset.sub ≡ sub
  pub rests : due (setting_of plan []) handset ≡ None
  pub stands : StandsForSteps (setting_of plan input.homes) handset (first_steps input sub count)
      (length (visits (setting_of plan input.homes) sub (first_steps input sub count)))
  pub told : line ≡ cost_line (setting_of plan input.homes) sub (first_steps input sub count)
  pub small : IsSmallLine count line
