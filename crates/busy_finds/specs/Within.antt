-- What falls within a find: the moves of its subscriber whose commits come between its first look
-- and its last, and the visits by which a move erases old addresses and purges the nodes that were
-- passed. A move renews the levels up to its highest, and it is past once its traces have taken the
-- place of those of all earlier moves.
-- Key laws: `no_entry_meets_the_top`, `quiet_finds_meet_no_commit`.
use Rattle.std.specs.Prelude.{◌≡◌, ℕ, ◌-◌, ◌<◌, ◌≤◌, ◌^◌, List, None, Some, slice_get}
use Rattle.directory.specs.Settings.{Setting}
use Rattle.directory.specs.Histories.{before, History, puts_to, through}
use Rattle.directory.specs.Courses.{Move}
use Rattle.directory.specs.Puts.{course_in}
use Rattle.directory.specs.Legal.{IsLegal}
use Rattle.directory.specs.Finds.{FindCall}
use Rattle.directory.specs.Looks.{first_of, IsFind, IsQuiet, last_of}
use Rattle.directory.specs.Standing.{number}
use Rattle.directory.specs.declared.answers.Found.{Found}
use Rattle.directory.specs.declared.answers.Found.TheVariants.{Again}
use Rattle.directory.specs.declared.answers.Why.TheVariants.{NoEntry}
use Rattle.directory.specs.Writes.{entry_at, mark_at, visit_of}
use Rattle.entry_word.specs.declared.address.Address.{Address}
use Rattle.entry_word.specs.declared.mark.PresenceMark.TheVariants.{Coming, Empty}
use Rattle.trail_laws.specs.Phases.{moves_begun}
use Rattle.trail_laws.specs.Rightness.{ReadsTop}
use Rattle.trail_laws.specs.Trail.{entry_seen, mark_seen}

-- the moves that a subscriber has begun, in order
abbrev pub moves_of : Setting → ℕ → History → List Move
moves_of setting sub history = (course_in setting sub (puts_to sub history)).moves

-- a move of a subscriber is committed between two tickets: its number is above the count of commits
-- before the first, and at most that before the last
pub record IsWithin (setting : Setting) (sub : ℕ) (history : History) (first last : ℕ) (move : Move)
    : Type 0 where
  pub after : number sub (before first history) < move.number
  pub by : move.number ≤ number sub (before last history)
  pub is : slice_get (moves_of setting sub history) (move.number - 1) ≡ Some move

-- the visit with this ticket erases an address of a level, while this move is the last that is begun
abbrev pub IsErasure : Setting → ℕ → History → Move → ℕ → ℕ → Type 0
IsErasure setting sub history move level ticket =
    (cluster : ℕ) × (slice_get history ticket ≡ Some (visit_of sub (entry_at level cluster None)))
    × (moves_begun setting sub (through ticket history) ≡ move.number)

-- the visit with this ticket empties a node's mark, while this move is the last that is begun
abbrev pub IsPurge : Setting → ℕ → History → Move → ℕ → ℕ → Type 0
IsPurge setting sub history move node ticket =
    (slice_get history ticket ≡ Some (visit_of sub (mark_at node Empty)))
    × (moves_begun setting sub (through ticket history) ≡ move.number)

-- the moves up to one with this number are past: they are committed, no node says that the
-- subscriber is coming by one of them, and each address is that move's or a later one's
pub record ArePast (setting : Setting) (sub : ℕ) (seen : History) (latest : ℕ) : Type 0 where
  pub committed : latest ≤ number sub seen
  pub addresses : (level cluster : ℕ) (address : Address) → level ≤ setting.top
      → entry_seen setting sub seen level cluster ≡ Some address → latest ≤ address.number
  pub comings : (node p from : ℕ) → node < setting.nodes
      → mark_seen setting sub seen node ≡ Coming p from → latest < p

-- where a find met no address at all, a move that renews the top level was committed within it, and
-- erased an address of that level; with that the moves up to it are past (`no_entry_meets_the_top`)
abbrev pub NoEntryMeetsTop : Type 0
NoEntryMeetsTop =
    (setting : Setting) (history : History) (actor : ℕ) (call : FindCall) (weight : ℕ)
    (tickets : List ℕ) → setting.nodes ≤ 2 ^ 16 → ReadsTop setting → call.from < setting.nodes
    → IsLegal setting call.sub history
    → IsFind setting history actor call (Again NoEntry weight) tickets
    → (move : Move) × (move.renewed ≡ setting.top)
    × IsWithin setting call.sub history (first_of tickets) (last_of tickets) move
    × ((ticket : ℕ) × (first_of tickets ≤ ticket) × (ticket < last_of tickets)
    × IsErasure setting call.sub history move setting.top ticket
    × ArePast setting call.sub (through ticket history) move.number)

-- while a find is quiet none of its subscriber's moves is committed (`quiet_finds_meet_no_commit`)
abbrev pub QuietFindsMeetNoCommit : Type 0
QuietFindsMeetNoCommit =
    (setting : Setting) (history : History) (actor : ℕ) (call : FindCall) (found : Found)
    (tickets : List ℕ) → IsFind setting history actor call found tickets
    → IsQuiet history call.sub (first_of tickets) (last_of tickets)
    → number call.sub (before (last_of tickets) history)
    ≡ number call.sub (before (first_of tickets) history)
