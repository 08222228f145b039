-- What a find pays, part by part: the reading, up to the level at which its climb ends; and beyond
-- the reading the way from the leader that has an address to the address's node, and the chase
-- from there, in each phase of a move.
-- Key laws: `climb_ends_early`, `reading_is_bounded`, `old_address_before_commit`,
-- `new_address_before_commit`, `address_in_passage`, `address_after_confirm`,
-- `current_address_after_confirm`, `address_at_rest`.
use Rattle.std.specs.Prelude.{◌≡◌, ◌≢◌, ℕ, suc, ◌+◌, ◌*◌, ◌<◌, ◌≤◌, ◌^◌, true, List, map, flat_map, Option, Some}
use Rattle.node_set.specs.Ascending.{has}
use Rattle.entry_word.specs.declared.address.Address.{Address}
use Rattle.directory.specs.Settings.{Setting}
use Rattle.directory.specs.Histories.{History}
use Rattle.directory.specs.Legal.{IsLegal}
use Rattle.directory.specs.Finds.{FindCall, Reader}
use Rattle.directory.specs.Parts.{climb_weight}
use Rattle.directory.specs.Standing.{number, passage, standing}
use Rattle.directory.specs.Writes.{numbers_from}
use Rattle.trail_laws.specs.Phases.{IsAtRest, IsBeforeCommit, IsCurrent, IsPassingFrom, IsSettled}
use Rattle.trail_laws.specs.Trail.{entry_seen, IsLed, KnowsAtMost, mark_seen}
use Rattle.stretch_laws.specs.Tracking.{IsTracking, radius}

-- the clusters that a node reads up to a level
abbrev pub readers_up_to : Setting → ℕ → ℕ → List Reader
readers_up_to setting node last =
    flat_map (λ level. map (λ cluster. record { level = level; cluster = cluster })
    (setting.readers level node))
    (numbers_from 0 (suc last))

-- after a legal history a find from a node, at a cluster of a level that it reads, meets an address
pub record IsMet (setting : Setting) (width most_readers sub : ℕ) (history : History)
    (from level cluster : ℕ) (address : Address) : Type 0 where
  pub few : setting.nodes ≤ 2 ^ 16
  pub tracking : IsTracking setting width most_readers
  pub legal : IsLegal setting sub history
  pub inside : from < setting.nodes
  pub low : level ≤ setting.top
  pub read : has cluster (setting.readers level from) ≡ true
  pub held : entry_seen setting sub history level cluster ≡ Some address

-- from the leader of the cluster to the address's node and from there along the marks to where the
-- subscriber stands is at most so far, when no more is known than its number
abbrev pub Costs : Setting → ℕ → History → ℕ → ℕ → Address → ℕ → Type 0
Costs setting sub history level cluster address most =
    (known : Option ℕ) → KnowsAtMost (number sub history) known
    → (hops : ℕ) × (way : ℕ) × (hops ≤ setting.nodes)
    × IsLed setting (mark_seen setting sub history) known address.node
    (standing setting sub history) hops way
    × (setting.distance (setting.leader level cluster) address.node + way ≤ most)

-- a find that isn't where its subscriber stands meets an address at a level whose radius is less
-- than four times the distance (`climb_ends_early`)
abbrev pub ClimbsEndEarly : Type 0
ClimbsEndEarly =
    (setting : Setting) (width most_readers sub : ℕ) (history : History) (from : ℕ)
    → setting.nodes ≤ 2 ^ 16 → IsTracking setting width most_readers → from < setting.nodes
    → IsLegal setting sub history → from ≢ standing setting sub history
    → (level : ℕ) × (cluster : ℕ) × (address : Address)
    × (radius level < 4 * setting.distance from (standing setting sub history))
    × IsMet setting width most_readers sub history from level cluster address

-- the reading up to a level weighs at most four times its radius, times the width and the most
-- readers (`reading_is_bounded`)
abbrev pub ReadingIsBounded : Type 0
ReadingIsBounded =
    (setting : Setting) (width most_readers : ℕ) (call : FindCall) (last : ℕ)
    → IsTracking setting width most_readers → call.from < setting.nodes → last ≤ setting.top
    → climb_weight setting call (readers_up_to setting call.from last)
    ≤ 4 * (most_readers * (width * radius last))

-- before the commit, an old address (`old_address_before_commit`)
abbrev pub OldBeforeCommit : Type 0
OldBeforeCommit =
    (setting : Setting) (width most_readers sub : ℕ) (history : History) (from level cluster : ℕ)
    (address : Address) → IsMet setting width most_readers sub history from level cluster address
    → IsBeforeCommit setting sub history → address.number ≤ number sub history
    → Costs setting sub history level cluster address (width * radius level + radius level)

-- before the commit, the new address (`new_address_before_commit`)
abbrev pub NewBeforeCommit : Type 0
NewBeforeCommit =
    (setting : Setting) (width most_readers sub : ℕ) (history : History) (from level cluster : ℕ)
    (address : Address) → IsMet setting width most_readers sub history from level cluster address
    → IsBeforeCommit setting sub history → address.number ≡ suc (number sub history)
    → Costs setting sub history level cluster address
    (3 * (width * radius level) + setting.distance from (standing setting sub history))

-- between commit and confirm (`address_in_passage`)
abbrev pub InPassage : Type 0
InPassage =
    (setting : Setting) (width most_readers sub : ℕ) (history : History) (from level cluster : ℕ)
    (address : Address) (left : ℕ)
    → IsMet setting width most_readers sub history from level cluster address
    → IsPassingFrom setting sub history left
    → Costs setting sub history level cluster address
    (width * radius level + radius level + 2 * passage setting sub history)

-- after the confirm, any address, an old one that isn't erased yet too (`address_after_confirm`)
abbrev pub AfterConfirm : Type 0
AfterConfirm =
    (setting : Setting) (width most_readers sub : ℕ) (history : History) (from level cluster : ℕ)
    (address : Address) → IsMet setting width most_readers sub history from level cluster address
    → IsSettled setting sub history
    → Costs setting sub history level cluster address
    (3 * (width * radius level) + radius level
    + setting.distance from (standing setting sub history))

-- after the confirm, an address that stays: the new one, or that of a level that the move doesn't
-- renew (`current_address_after_confirm`)
abbrev pub CurrentAfterConfirm : Type 0
CurrentAfterConfirm =
    (setting : Setting) (width most_readers sub : ℕ) (history : History) (from level cluster : ℕ)
    (address : Address) → IsMet setting width most_readers sub history from level cluster address
    → IsSettled setting sub history → IsCurrent setting sub history level address
    → Costs setting sub history level cluster address (width * radius level + radius level)

-- at rest (`address_at_rest`)
abbrev pub AtRest : Type 0
AtRest =
    (setting : Setting) (width most_readers sub : ℕ) (history : History) (from level cluster : ℕ)
    (address : Address) → IsMet setting width most_readers sub history from level cluster address
    → IsAtRest setting sub history
    → Costs setting sub history level cluster address (width * radius level + radius level)
