-- What has come within a find that is to be made again, since the look at which its chase began.
-- Where it read that a node is empty, a move has purged that node; the moves up to it weren't past at
-- that look, and are before the find's last: so no earlier find is to be charged to the move. Where
-- the chase took too many hops, moves were committed.
-- Key laws: `empty_meets_a_purge`, `chased_meets_commits`.
use Rattle.std.specs.Prelude.{◌≡◌, ◌⊎◌, ℕ, ◌+◌, ◌-◌, ◌<◌, ◌≤◌, ◌^◌, List, Some, slice_get}
use Rattle.entry_word.specs.declared.address.Address.{Address}
use Rattle.entry_word.specs.declared.mark.PresenceMark.TheVariants.{Coming, Empty}
use Rattle.entry_word.specs.declared.visit.Key.TheVariants.{Entry}
use Rattle.directory.specs.Settings.{Setting}
use Rattle.directory.specs.Courses.{Move}
use Rattle.directory.specs.Finds.{FindCall}
use Rattle.directory.specs.Histories.{before, History}
use Rattle.directory.specs.Legal.{IsLegal}
use Rattle.directory.specs.Looks.{first_of, IsFind, last_of, look_by}
use Rattle.directory.specs.Standing.{number}
use Rattle.directory.specs.declared.answers.Found.TheVariants.{Again}
use Rattle.directory.specs.declared.answers.Why.TheVariants.{Chased, Empty as EmptyAt}
use Rattle.trail_laws.specs.Trail.{entry_seen, mark_seen}
use Rattle.busy_finds.specs.Within.{ArePast, IsPurge, moves_of}

-- a find's chase begins at a ticket: at its first look, where its origin says that the subscriber
-- is coming, or at its look at an entry that has an address
abbrev pub BeginsChase : Setting → History → ℕ → FindCall → ℕ → ℕ → Type 0
BeginsChase setting history actor call first ticket =
    ((ticket ≡ first) × ((p : ℕ) × (from : ℕ)
    × (mark_seen setting call.sub (before ticket history) call.from ≡ Coming p from)))
    ⊎ ((level : ℕ) × (cluster : ℕ) × (address : Address)
    × (slice_get history ticket ≡ Some (look_by actor (Entry level cluster call.sub)))
    × (entry_seen setting call.sub (before ticket history) level cluster ≡ Some address))

-- a move that renews the top level has purged a node between a ticket and a later one, and the node
-- stayed empty; the moves up to it were past before the later ticket, but not before the earlier
pub record HasPurged (setting : Setting) (sub : ℕ) (history : History) (move : Move)
    (node since last : ℕ) : Type 0 where
  pub is : slice_get (moves_of setting sub history) (move.number - 1) ≡ Some move
  pub top : move.renewed ≡ setting.top
  pub ticket : ℕ
  pub after : since ≤ ticket
  pub by : ticket < last
  pub purges : IsPurge setting sub history move node ticket
  pub stays : (later : ℕ) → ticket < later → later ≤ last
      → mark_seen setting sub (before later history) node ≡ Empty
  pub past : ArePast setting sub (before last history) move.number
  pub not_yet : ArePast setting sub (before since history) move.number → ⊥

-- where a find read that a node is empty, a move has purged it after the look at which the find's
-- chase began (`empty_meets_a_purge`)
abbrev pub EmptyMeetsPurge : Type 0
EmptyMeetsPurge =
    (setting : Setting) (history : History) (actor : ℕ) (call : FindCall) (node weight : ℕ)
    (tickets : List ℕ) → setting.nodes ≤ 2 ^ 16 → call.from < setting.nodes
    → IsLegal setting call.sub history
    → IsFind setting history actor call (Again (EmptyAt node) weight) tickets
    → (move : Move) × (since : ℕ) × (first_of tickets ≤ since)
    × BeginsChase setting history actor call (first_of tickets) since
    × HasPurged setting call.sub history move node since (last_of tickets)

-- where a find's chase took too many hops, at least three moves were committed since the look at
-- which it began (`chased_meets_commits`)
abbrev pub ChasedMeetsCommits : Type 0
ChasedMeetsCommits =
    (setting : Setting) (history : History) (actor : ℕ) (call : FindCall) (weight : ℕ)
    (tickets : List ℕ) → setting.nodes ≤ 2 ^ 16 → call.from < setting.nodes
    → IsLegal setting call.sub history
    → IsFind setting history actor call (Again Chased weight) tickets
    → (since : ℕ) × (first_of tickets ≤ since)
    × BeginsChase setting history actor call (first_of tickets) since
    × (number call.sub (before since history) + 3
    ≤ number call.sub (before (last_of tickets) history))
