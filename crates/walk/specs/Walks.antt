-- What a walk keeps of its find: where it began, its subscriber, and how far it is. A walk keeps
-- no list of its looks; its progress tells the pursuit of the find.
-- Key laws: `Walk::new`, `saw`, `next` and `answer`, by their clauses (a walk stands for the
-- words that it saw).
use Rattle.std.specs.Prelude.{◌≡◌, ℕ, suc, ◌+◌, ◌-◌, ◌*◌, ◌^◌, ◌<◌, ◌≤◌, List, [], ◌++◌, drop, flat_map, length, map, slice_index, nat_le, if◌then◌else◌, Result, Ok, Err, Option, Some, None}
use Rattle.entry_word.specs.Marks.{mark_in}
use Rattle.entry_word.specs.Addresses.{address_in}
use Rattle.entry_word.specs.declared.mark.PresenceMark.{PresenceMark}
use Rattle.entry_word.specs.declared.mark.PresenceMark.TheVariants.{Empty, Here, Gone, Coming, Off}
use Rattle.entry_word.specs.declared.address.Address.{Address}
use Rattle.directory.specs.Settings.{Setting, levels}
use Rattle.directory.specs.Writes.{numbers_from}
use Rattle.directory.specs.Finds.{Chase, FindCall, Reader, Pursuit, at_origin, chases, climb, ended, find}
use Rattle.region_plan.specs.Plan.{PlanData, levels_of, nodes_of, readers}
use Rattle.region_plan.specs.Settings.{setting_of}
use Rattle.walk.specs.declared.progress.Chase.{Chase as WalkChase}
use Rattle.walk.specs.declared.walk.WalkFault.{WalkFault}
use Rattle.walk.specs.declared.walk.WalkFault.TheVariants.{NoNode, NoSubscriber}
use Rattle.walk.specs.declared.progress.Progress.{Progress}
use Rattle.walk.specs.declared.progress.Progress.TheVariants.{AtOrigin, Climbing, Chasing, Ended}

-- what contracts see of a walk
pub record WalkData : Type 0 where
  pub from : ℕ
  pub sub : ℕ
  pub progress : Progress

-- the find of a walk
abbrev pub call_of : WalkData → FindCall
call_of walk = record { from = walk.from; sub = walk.sub }

-- the readers of a node at a level
abbrev pub readers_at : Setting → ℕ → ℕ → List Reader
readers_at setting node level =
    map (λ cluster. record { level = level; cluster = cluster }) (setting.readers level node)

-- the readers of a node at a level and at all above it
abbrev pub readers_above : Setting → ℕ → ℕ → List Reader
readers_above setting node level =
    flat_map (readers_at setting node) (numbers_from level (levels setting - level))

-- one of them, by its place
abbrev pub reader_in : PlanData → ℕ → ℕ → ℕ → Reader
reader_in plan node level index =
    record { level = level; cluster = slice_index (readers plan level node) index }

-- what a chase keeps
abbrev pub chase_of : WalkChase → Chase
chase_of chase =
    record {
      known = chase.known;
      level = chase.level;
      weight = chase.weight;
      hops_left = chase.hops_left;
    }

-- the pursuit of a find from a node that is so far
abbrev pub pursuit_at : Setting → ℕ → Progress → Pursuit
pursuit_at setting from AtOrigin = at_origin
pursuit_at setting from (Climbing known weight level index) =
    climb known weight (drop index (readers_at setting from level) ++ readers_above setting from
    (suc level))
pursuit_at setting from (Chasing chase node) =
    chases (chase_of chase) node
pursuit_at setting from (Ended found) = ended found

-- the pursuit of a walk
abbrev pub pursuit_of : PlanData → WalkData → Pursuit
pursuit_of plan walk = pursuit_at (setting_of plan []) walk.from walk.progress

-- a walk stands for the words that it saw
abbrev pub StandsForWords : PlanData → WalkData → List ℕ → Type 0
StandsForWords plan walk words =
    pursuit_of plan walk ≡ find (setting_of plan []) (call_of walk) words

-- the progress is within the plan, and the weight so far isn't too great
abbrev pub IsProgressWithin : PlanData → ℕ → Progress → Type 0
IsProgressWithin plan from AtOrigin = Unit {0}
IsProgressWithin plan from (Climbing known weight level index) =
    (level < levels_of plan) × (index < length (readers plan level from))
    × (weight ≤ (level * 1024 + index) * 2 ^ 36)
IsProgressWithin plan from (Chasing chase node) =
    (node < nodes_of plan) × (chase.hops_left ≤ nodes_of plan + 2)
    × (chase.weight ≤ 2 ^ 52 + (nodes_of plan + 2 - chase.hops_left) * 2 ^ 30)
IsProgressWithin plan from (Ended found) = Unit {0}

-- a walk goes with a plan
pub record IsWalkOver (plan : PlanData) (walk : WalkData) : Type 0 where
  pub from : walk.from < nodes_of plan
  pub progress : IsProgressWithin plan walk.from walk.progress

-- the node that a mark names is one of so many nodes
abbrev pub IsMarkBelow : ℕ → PresenceMark → Type 0
IsMarkBelow nodes Empty = Unit {0}
IsMarkBelow nodes (Here number) = Unit {0}
IsMarkBelow nodes (Gone number to) = to < nodes
IsMarkBelow nodes (Coming number from) = from < nodes
IsMarkBelow nodes (Off number) = Unit {0}

-- the node of an address, if there is one, is one of so many nodes
abbrev pub IsAddressBelow : ℕ → Option Address → Type 0
IsAddressBelow nodes None = Unit {0}
IsAddressBelow nodes (Some address) = address.node < nodes

-- a word that is read names a node of the plan, if any
abbrev pub IsWordBelow : ℕ → Progress → ℕ → Type 0
IsWordBelow nodes AtOrigin word = IsMarkBelow nodes (mark_in word)
IsWordBelow nodes (Climbing known weight level index) word = IsAddressBelow nodes (address_in word)
IsWordBelow nodes (Chasing chase node) word = IsMarkBelow nodes (mark_in word)
IsWordBelow nodes (Ended found) word = Unit {0}

-- a walk that has seen nothing, or why it can't begin
abbrev pub walk_or_fault : PlanData → ℕ → ℕ → ℕ → Result WalkData WalkFault
walk_or_fault plan from sub subs =
    if nat_le (nodes_of plan) from then Err NoNode else if nat_le subs sub then Err NoSubscriber
    else Ok (record { from = from; sub = sub; progress = AtOrigin })
