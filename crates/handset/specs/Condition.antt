-- What contracts see of a handset: where its subscriber stands and the number of its moves, both
-- by the commits made; whether it is off; the stage of the step under way; the move that was
-- begun last; for each level the node whose address it has and the weight that it has gathered;
-- and for each node whether it is on the trail.
-- Key laws: `Handset::new`, `Handset::begin`, `Handset::switch` and `Handset::made`, by their
-- clauses `goes` (a handset goes with its plan, and stays so).
use Rattle.std.specs.Prelude.{◌≡◌, ℕ, suc, ◌*◌, ◌^◌, ◌<◌, ◌≤◌, Bool, List, length, slice_index}
use Rattle.directory.specs.Courses.{Move}
use Rattle.handset.specs.declared.stage.Journey.{Journey}
use Rattle.handset.specs.declared.stage.Stage.{Stage}
use Rattle.handset.specs.declared.stage.Stage.TheVariants.{Resting, Coming, Renewing, Committing, Confirming, Erasing, Purging, Switching}
use Rattle.region_plan.specs.Plan.{PlanData, nodes_of, levels_of}

-- what a handset keeps
pub record HandsetData : Type 0 where
  pub sub : ℕ
  pub place : ℕ
  pub number : ℕ
  pub is_off : Bool
  pub stage : Stage
  pub last : Move
  pub addresses : List ℕ
  pub gathered : List ℕ
  pub trail : List Bool

-- the move that a journey is
abbrev pub move_of : Journey → Move
move_of journey =
    record {
      number = journey.number;
      from = journey.from;
      to = journey.to;
      weight = journey.weight;
      renewed = journey.renewed;
    }

-- how many moves are begun at a stage, when this many are committed
abbrev pub begun_at : Stage → ℕ → ℕ
begun_at Resting number = number
begun_at Coming number = suc number
begun_at (Renewing level) number = suc number
begun_at Committing number = suc number
begun_at Confirming number = number
begun_at (Erasing level) number = number
begun_at (Purging node) number = number
begun_at (Switching off) number = number

-- the level or the node of a stage is one of its move, or of the plan
abbrev pub IsMoveStage : ℕ → Move → Stage → Type 0
IsMoveStage nodes move Resting = Unit {0}
IsMoveStage nodes move Coming = Unit {0}
IsMoveStage nodes move (Renewing level) = level ≤ move.renewed
IsMoveStage nodes move Committing = Unit {0}
IsMoveStage nodes move Confirming = Unit {0}
IsMoveStage nodes move (Erasing level) = level ≤ move.renewed
IsMoveStage nodes move (Purging node) = node < nodes
IsMoveStage nodes move (Switching off) = Unit {0}

-- a handset goes with a plan: its parts are those of the plan's levels and nodes, and no weight
-- is too great
pub record GoesWith (plan : PlanData) (handset : HandsetData) : Type 0 where
  pub addresses : length handset.addresses ≡ levels_of plan
  pub gathered : length handset.gathered ≡ levels_of plan
  pub trail : length handset.trail ≡ nodes_of plan
  pub place : handset.place < nodes_of plan
  pub from : handset.last.from < nodes_of plan
  pub to : handset.last.to < nodes_of plan
  pub renewed : handset.last.renewed < levels_of plan
  pub inside : (level : ℕ) → level < levels_of plan
      → slice_index handset.addresses level < nodes_of plan
  pub light : (level : ℕ) → level < levels_of plan
      → slice_index handset.gathered level ≤ handset.last.number * 2 ^ 30
  pub counted : handset.last.number ≡ begun_at handset.stage handset.number
  pub numbered : handset.last.number < 2 ^ 32
  pub stage : IsMoveStage (nodes_of plan) handset.last handset.stage
