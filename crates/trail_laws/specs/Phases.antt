-- In which phase of a move a subscriber is after a history, and how far the marks lead from its
-- addresses then. Before the commit a move is begun that isn't committed; the passage is open from
-- the commit to the confirm; after that the subscriber is settled, and it rests when it has nothing
-- left to put. An address is current where the moves that are begun leave it to its level.
-- Key laws: `marks_lead_by_phase`, `rest_is_settled`, `phases_cover`, `coming_stands` (a move that
-- isn't committed has its Coming where it goes).
use Rattle.std.specs.Prelude.{◌≡◌, ◌≢◌, ◌⊎◌, ℕ, suc, ◌+◌, ◌*◌, ◌<◌, ◌≤◌, ◌^◌, [], length, Option, Some}
use Rattle.entry_word.specs.declared.address.Address.{Address}
use Rattle.entry_word.specs.declared.mark.PresenceMark.TheVariants.{Coming, Here, Off}
use Rattle.directory.specs.Settings.{Setting}
use Rattle.directory.specs.Histories.{History, puts_to}
use Rattle.directory.specs.Courses.{base, last_stop, Move}
use Rattle.directory.specs.Puts.{course_in, last_move, puts_left}
use Rattle.directory.specs.Legal.{IsLegal}
use Rattle.directory.specs.Standing.{number, off, standing}
use Rattle.trail_laws.specs.Trail.{entry_seen, IsLed, HasMetric, KnowsAtMost, mark_seen}
use Rattle.trail_laws.specs.Ways.{GathersSome}

-- how many moves a subscriber has begun
abbrev pub moves_begun : Setting → ℕ → History → ℕ
moves_begun setting sub history = length (course_in setting sub (puts_to sub history)).moves

-- a move is begun that isn't committed
abbrev pub IsBeforeCommit : Setting → ℕ → History → Type 0
IsBeforeCommit setting sub history = moves_begun setting sub history ≡ suc (number sub history)

-- the last commit came from this node and isn't confirmed
abbrev pub IsPassingFrom : Setting → ℕ → History → ℕ → Type 0
IsPassingFrom setting sub history from =
    mark_seen setting sub history (standing setting sub history) ≡ Coming (number sub history) from

-- all moves that are begun are committed, and the last one is confirmed
abbrev pub IsSettled : Setting → ℕ → History → Type 0
IsSettled setting sub history =
    (moves_begun setting sub history ≡ number sub history)
    × ((from : ℕ) → mark_seen setting sub history (standing setting sub history)
    ≢ Coming (number sub history) from)

-- nothing is left to put
abbrev pub IsAtRest : Setting → ℕ → History → Type 0
IsAtRest setting sub history = puts_left setting sub (puts_to sub history) ≡ []

-- an address of a level is the one that the moves leave to it
abbrev pub IsCurrent : Setting → ℕ → History → ℕ → Address → Type 0
IsCurrent setting sub history level address =
    address.number ≡ base level (course_in setting sub (puts_to sub history)).moves

-- how long the way from the node of an address of a level is in each phase: before the commit from
-- an old address and from the new one; while the passage is open; and once settled, from any
-- address and from a current one
pub record IsShortByPhase (setting : Setting) (sub : ℕ) (history : History) (level : ℕ)
    (address : Address) (way : ℕ) : Type 0 where
  pub before_old : IsBeforeCommit setting sub history → address.number ≤ number sub history
      → way < setting.threshold level
  pub before_new : IsBeforeCommit setting sub history
      → address.number ≡ suc (number sub history)
      → way ≤ setting.distance address.node (standing setting sub history)
  pub passing : (from : ℕ) → IsPassingFrom setting sub history from
      → way < setting.threshold level
      + 2 * setting.distance from (standing setting sub history)
  pub settled : IsSettled setting sub history
      → way + 2 ≤ 2 * setting.threshold level
      + setting.distance address.node (standing setting sub history)
  pub current : IsSettled setting sub history → IsCurrent setting sub history level address
      → way < setting.threshold level

-- from each address the marks lead to where the subscriber stands, on a way that is short in each
-- phase (`marks_lead_by_phase`)
abbrev pub AddressesLeadByPhase : Type 0
AddressesLeadByPhase =
    (setting : Setting) (sub : ℕ) (history : History) → setting.nodes ≤ 2 ^ 16 → HasMetric setting
    → GathersSome setting → IsLegal setting sub history
    → (level cluster : ℕ) (address : Address) (known : Option ℕ) → level ≤ setting.top
    → entry_seen setting sub history level cluster ≡ Some address
    → KnowsAtMost (number sub history) known
    → (hops : ℕ) × (way : ℕ) × (hops ≤ setting.nodes)
    × IsLed setting (mark_seen setting sub history) known address.node
    (standing setting sub history) hops way
    × IsShortByPhase setting sub history level address way

-- the mark where a subscriber stands says that it is there or off, since its last move
abbrev pub IsMarked : Setting → ℕ → History → Type 0
IsMarked setting sub history =
    (mark_seen setting sub history (standing setting sub history) ≡ Here (number sub history))
    ⊎ (mark_seen setting sub history (standing setting sub history) ≡ Off (number sub history))

-- a subscriber that rests is settled, all its addresses are current, and its mark says that it is
-- there or off (`rest_is_settled`)
abbrev pub RestIsSettled : Type 0
RestIsSettled =
    (setting : Setting) (sub : ℕ) (history : History) → setting.nodes ≤ 2 ^ 16
    → IsLegal setting sub history → IsAtRest setting sub history → IsSettled setting sub history
    × ((level cluster : ℕ) (address : Address) → level ≤ setting.top
    → entry_seen setting sub history level cluster ≡ Some address
    → IsCurrent setting sub history level address)
    × IsMarked setting sub history

-- and it stands where its course ends, and is off where the course is (`rest_is_settled`)
abbrev pub RestEndsItsCourse : Type 0
RestEndsItsCourse =
    (setting : Setting) (sub : ℕ) (history : History) → setting.nodes ≤ 2 ^ 16
    → IsLegal setting sub history → IsAtRest setting sub history
    → (standing setting sub history ≡ last_stop (course_in setting sub (puts_to sub history)))
    × (off sub history ≡ (course_in setting sub (puts_to sub history)).is_off)

-- a subscriber is before a commit, in a passage, or settled (`phases_cover`)
abbrev pub PhasesCover : Type 0
PhasesCover =
    (setting : Setting) (sub : ℕ) (history : History) → setting.nodes ≤ 2 ^ 16
    → IsLegal setting sub history
    → IsBeforeCommit setting sub history
    ⊎ (((from : ℕ) × IsPassingFrom setting sub history from) ⊎ IsSettled setting sub history)

-- from when a move has put its Coming until its commit, that Coming stands where the move goes
-- (`coming_stands`)
abbrev pub ComingStands : Type 0
ComingStands =
    (setting : Setting) (sub : ℕ) (history : History) (move : Move) → setting.nodes ≤ 2 ^ 16
    → IsLegal setting sub history → IsBeforeCommit setting sub history
    → last_move setting sub (puts_to sub history) ≡ Some move
    → mark_seen setting sub history move.to ≡ Coming move.number move.from
