-- What a find pays where its climb ends at or below a level, told by the readers of its origin
-- alone, which may be far less than the stretch says: the reading, over the leader that has an
-- address to the farthest node that is homed there, and back.
-- Key law: `finds_end_by_level`.
use Rattle.std.specs.Prelude.{◌≡◌, ◌≢◌, ◌⊎◌, ℕ, zero, suc, nat_le, ◌+◌, ◌-◌, ◌*◌, ◌<◌, ◌≤◌, ◌==◌, ◌^◌, if◌then◌else◌, List, [], ◌∷◌, max}
use Rattle.directory.specs.Settings.{Setting}
use Rattle.directory.specs.Histories.{before, History}
use Rattle.directory.specs.Courses.{Move}
use Rattle.directory.specs.Legal.{IsLegal}
use Rattle.directory.specs.Finds.{FindCall, found_weight, Reader}
use Rattle.directory.specs.Looks.{first_of, IsFind, last_of}
use Rattle.directory.specs.Standing.{number, passage, standing}
use Rattle.directory.specs.Writes.{numbers_from}
use Rattle.directory.specs.declared.answers.Found.{Found}
use Rattle.stretch_laws.specs.Costs.{readers_up_to}
use Rattle.stretch_laws.specs.Tracking.{IsTracking, radius}
use Rattle.busy_finds.specs.Prices.{greatest_threshold, moves_within, weight_of}
use Rattle.busy_finds.specs.Within.{IsWithin}

-- how far the farthest node whose home is a cluster of a level is from the cluster's leader, of the
-- nodes in a list
abbrev pub farthest_of : Setting → ℕ → ℕ → List ℕ → ℕ
farthest_of setting level cluster [] = 0
farthest_of setting level cluster (node ∷ later) =
    if setting.home level node == cluster
    then max (setting.distance (setting.leader level cluster) node)
    (farthest_of setting level cluster later)
    else farthest_of setting level cluster later

-- of all nodes
abbrev pub farthest : Setting → Reader → ℕ
farthest setting reader =
    farthest_of setting reader.level reader.cluster (numbers_from 0 setting.nodes)

-- the weight from a reader's leader to a node
abbrev pub inside_of : Setting → ℕ → Reader → ℕ
inside_of setting node reader = setting.inside reader.level reader.cluster node

-- the most that a find from a node pays with these readers, beside its distance, the passage and
-- the moves within, when those before weighed so much: where one of them has an address, twice the
-- way to its leader, twice the way on to the farthest node, and less than twice the threshold; and
-- where none has, the reading
abbrev pub dearest : Setting → ℕ → ℕ → List Reader → ℕ
dearest setting node passed [] = passed
dearest setting node passed (reader ∷ later) =
    max (passed + 2 * inside_of setting node reader + 2 * farthest setting reader
    + 2 * setting.threshold reader.level - 2)
    (dearest setting node (passed + 2 * inside_of setting node reader) later)

-- with the readers up to a level
abbrev pub cost_up_to : Setting → ℕ → ℕ → ℕ
cost_up_to setting node level = dearest setting node 0 (readers_up_to setting node level)

-- the climb of a find ends at or below a level: it is the top level; or its radius reaches as far as
-- the distance, told before the first look, and what the level may have gathered, and no move that
-- renews it is committed within the find
abbrev pub EndsBy : Setting → History → FindCall → ℕ → ℕ → ℕ → Type 0
EndsBy setting history call first last level =
    (level ≡ setting.top)
    ⊎ ((setting.distance call.from (standing setting call.sub (before first history))
    + setting.threshold level ≤ radius level + 1)
    × ((move : Move) → IsWithin setting call.sub history first last move → move.renewed < level))

-- a find whose climb ends at or below a level weighs at most the cost up to that level, its
-- distance, twice the passage that was open before its first look, and what the moves within weigh
-- (`finds_end_by_level`)
abbrev pub FindsEndByLevel : Type 0
FindsEndByLevel =
    (setting : Setting) (width most_readers : ℕ) (history : History) (actor : ℕ) (call : FindCall)
    (found : Found) (tickets : List ℕ) (level : ℕ) → setting.nodes ≤ 2 ^ 16
    → IsTracking setting width most_readers → call.from < setting.nodes
    → IsLegal setting call.sub history → IsFind setting history actor call found tickets
    → level ≤ setting.top
    → EndsBy setting history call (first_of tickets) (last_of tickets) level
    → found_weight found ≤ cost_up_to setting call.from level
    + setting.distance call.from
    (standing setting call.sub (before (first_of tickets) history))
    + 2 * passage setting call.sub (before (first_of tickets) history)
    + weight_of (moves_within setting call.sub history (first_of tickets) (last_of tickets))

-- the level at which a climb ends at the latest for a distance, where no move renews levels within:
-- the least one whose radius and one are at least twice the distance, and the top level where there
-- is none
unfoldable pub reaching : ℕ → ℕ → ℕ → ℕ
reaching distance level zero = level
reaching distance level (suc more) =
    if nat_le (2 * distance) (radius level + 1) then level
    else reaching distance (suc level) more

abbrev pub level_for : Setting → ℕ → ℕ
level_for setting distance = reaching distance 0 setting.top

-- so many times its distance bounds what a find from any node pays up to the level for it
abbrev pub IsOwnStretch : Setting → ℕ → Type 0
IsOwnStretch setting own =
    (from to : ℕ) → from < setting.nodes → to < setting.nodes → from ≢ to
    → cost_up_to setting from (level_for setting (setting.distance from to))
    + setting.distance from to ≤ own * setting.distance from to

-- and so many times a threshold what it pays up to the level above, or up to the top level
pub record IsAnyStretch (setting : Setting) (most : ℕ) : Type 0 where
  pub own : IsOwnStretch setting most
  pub above : (from level : ℕ) → from < setting.nodes → level < setting.top
      → cost_up_to setting from (suc level) + setting.threshold level
      ≤ most * setting.threshold level
  pub top : (from : ℕ) → from < setting.nodes
      → cost_up_to setting from setting.top + setting.threshold setting.top
      ≤ most * setting.threshold setting.top

-- a find with no commit within weighs at most a setting's own stretch times its distance, and twice
-- the passage that was open before its first look (`finds_end_by_level`)
abbrev pub FindsKeepOwnStretch : Type 0
FindsKeepOwnStretch =
    (setting : Setting) (width most_readers own : ℕ) (history : History) (actor : ℕ)
    (call : FindCall) (found : Found) (tickets : List ℕ) → setting.nodes ≤ 2 ^ 16
    → IsTracking setting width most_readers → IsOwnStretch setting own
    → call.from < setting.nodes → IsLegal setting call.sub history
    → IsFind setting history actor call found tickets
    → number call.sub (before (last_of tickets) history)
    ≡ number call.sub (before (first_of tickets) history)
    → found_weight found ≤ own
    * setting.distance call.from
    (standing setting call.sub (before (first_of tickets) history))
    + 2 * passage setting call.sub (before (first_of tickets) history)

-- each find is within its price by such a stretch in place of that of all settings
-- (`finds_end_by_level`)
abbrev pub FindsKeepAnyStretch : Type 0
FindsKeepAnyStretch =
    (setting : Setting) (width most_readers most : ℕ) (history : History) (actor : ℕ)
    (call : FindCall) (found : Found) (tickets : List ℕ) → setting.nodes ≤ 2 ^ 16
    → IsTracking setting width most_readers → IsAnyStretch setting most
    → call.from < setting.nodes → IsLegal setting call.sub history
    → IsFind setting history actor call found tickets
    → found_weight found ≤ most
    * max (setting.distance call.from
    (standing setting call.sub (before (first_of tickets) history)))
    (greatest_threshold setting
    (moves_within setting call.sub history (first_of tickets) (last_of tickets)))
    + 2 * passage setting call.sub (before (first_of tickets) history)
    + weight_of (moves_within setting call.sub history (first_of tickets) (last_of tickets))
