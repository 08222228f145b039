-- What a find can be sure of: while its subscriber makes no visit of a move, the first address that
-- the climb meets leads to an answer at no more than a bound. So does the Coming that its origin
-- holds.
-- Key laws: `quiet_finds_stay_within`, `front_of_history_is_legal`, `quiet_finds_stand_still`.
use Rattle.std.specs.Prelude.{◌≡◌, ◌≢◌, ℕ, ◌+◌, ◌*◌, ◌<◌, ◌≤◌, ◌^◌, List, [], ◌∷◌, Option, Some, None}
use Rattle.entry_word.specs.declared.address.Address.{Address}
use Rattle.entry_word.specs.declared.mark.PresenceMark.TheVariants.{Here, Coming, Off}
use Rattle.directory.specs.Settings.{Setting}
use Rattle.directory.specs.Histories.{before, History, through}
use Rattle.directory.specs.Legal.{IsLegal}
use Rattle.directory.specs.Finds.{all_readers, FindCall, Reader, way_in, found_weight}
use Rattle.directory.specs.Looks.{first_of, IsFind, IsQuiet, last_of}
use Rattle.directory.specs.Standing.{number, passage, standing}
use Rattle.directory.specs.declared.answers.Found.{Found}
use Rattle.trail_laws.specs.Trail.{entry_seen, IsLed, KnowsAtMost, mark_seen}
use Rattle.trail_laws.specs.Rightness.{IsAnswered}
use Rattle.trail_laws.specs.Ways.{IsOpenAtMost}

-- what a chase costs from the node of an address, which the reader of an entry found, is within
-- what is allowed
abbrev pub AffordsAddress : Setting → ℕ → History → FindCall → (ℕ → Type 0) → ℕ → Reader → Address
    → Type 0
AffordsAddress setting sub seen call Within weight reader address =
    (known : Option ℕ) → KnowsAtMost (number sub seen) known
    → (hops : ℕ) × (way : ℕ) × (hops ≤ setting.nodes)
    × IsLed setting (mark_seen setting sub seen) known address.node (standing setting sub seen)
    hops way
    × Within (weight + way_in setting call reader
    + setting.distance (setting.leader reader.level reader.cluster) address.node + way)

-- what an entry asks for: nothing, or an address
abbrev pub EntryAsks : Option Address → Type 0 → (Address → Type 0) → Type 0
EntryAsks None on there = on
EntryAsks (Some address) on there = there address

-- one of these readers has an address, and the first that has one leads to an answer within what is
-- allowed
unfoldable pub Affords : Setting → ℕ → History → FindCall → (ℕ → Type 0) → ℕ → List Reader → Type 0
Affords setting sub seen call Within weight [] = ⊥
Affords setting sub seen call Within weight (reader ∷ later) =
    EntryAsks (entry_seen setting sub seen reader.level reader.cluster)
    (Affords setting sub seen call Within (weight + 2 * way_in setting call reader) later)
    (λ address. AffordsAddress setting sub seen call Within weight reader address)

-- what the mark at the origin makes sure of
pub record Begins (setting : Setting) (seen : History) (call : FindCall) (Within : ℕ → Type 0)
    : Type 0 where
  pub here : Within 0
  pub climbing : ((p from : ℕ) → mark_seen setting call.sub seen call.from ≢ Coming p from)
      → ((p : ℕ) → mark_seen setting call.sub seen call.from ≢ Here p)
      → ((p : ℕ) → mark_seen setting call.sub seen call.from ≢ Off p)
      → Affords setting call.sub seen call Within 0 (all_readers setting call.from)
  pub chasing : (p from : ℕ) → mark_seen setting call.sub seen call.from ≡ Coming p from
      → (hops : ℕ) × (way : ℕ) × (hops ≤ setting.nodes)
      × IsLed setting (mark_seen setting call.sub seen) None from (standing setting call.sub seen)
      hops way
      × Within (setting.distance call.from from + way)

-- a weight is at most this one
abbrev pub WeighsAtMost : ℕ → ℕ → Type 0
WeighsAtMost most weight = weight ≤ most

-- a quiet find whose beginning is sure of this bound has an answer within it
-- (`quiet_finds_stay_within`)
abbrev pub QuietFindsStayWithin : Type 0
QuietFindsStayWithin =
    (setting : Setting) (history : History) (actor : ℕ) (call : FindCall) (found : Found)
    (tickets : List ℕ) (most : ℕ) → setting.nodes ≤ 2 ^ 16 → call.from < setting.nodes
    → IsLegal setting call.sub history
    → Begins setting (before (first_of tickets) history) call (WeighsAtMost most)
    → IsFind setting history actor call found tickets
    → IsQuiet history call.sub (first_of tickets) (last_of tickets)
    → IsAnswered found × (found_weight found ≤ most)

-- a front of a legal history is legal (`front_of_history_is_legal`)
abbrev pub HistoryFrontsAreLegal : Type 0
HistoryFrontsAreLegal =
    (setting : Setting) (sub : ℕ) (history : History) (ticket : ℕ) → setting.nodes ≤ 2 ^ 16
    → IsLegal setting sub history → IsLegal setting sub (before ticket history)

-- while a find is quiet its subscriber stands still, and a passage that is open at its first look
-- weighs at most what is open at its last (`quiet_finds_stand_still`)
abbrev pub QuietFindsStandStill : Type 0
QuietFindsStandStill =
    (setting : Setting) (history : History) (actor : ℕ) (call : FindCall) (found : Found)
    (tickets : List ℕ) → setting.nodes ≤ 2 ^ 16 → IsLegal setting call.sub history
    → IsFind setting history actor call found tickets
    → IsQuiet history call.sub (first_of tickets) (last_of tickets)
    → (standing setting call.sub (through (last_of tickets) history)
    ≡ standing setting call.sub (before (first_of tickets) history))
    × IsOpenAtMost setting call.sub (before (first_of tickets) history)
    (passage setting call.sub (through (last_of tickets) history))
