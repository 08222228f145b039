-- Where a subscriber stands after a history: at the node that its last commit went to, or at its
-- start node before any. Its number is the count of its commits. From a commit to its confirm the
-- passage is open, and weighs the distance of the move. It is off where its last put is an Off.
-- Key laws: `commits_after` (a commit is listed, and nothing else is), `last_commit_tells`, and
-- `commits_are_moves` (the commits of a legal history are the first moves of its course).
use Rattle.std.specs.Prelude.{ℕ, ◌==◌, ◌&&◌, Bool, false, if◌then◌else◌, List, length, fold, filter_map, Option, Some, None}
use Rattle.std.specs.List.{last_or, list_any}
use Rattle.entry_word.specs.declared.mark.PresenceMark.{PresenceMark}
use Rattle.entry_word.specs.declared.mark.PresenceMark.TheVariants.{Empty, Here, Gone, Coming, Off}
use Rattle.directory.specs.Settings.{Setting, start}
use Rattle.directory.specs.Histories.{History, puts_to}
use Rattle.directory.specs.Courses.{Move}
use Rattle.directory.specs.Puts.{mark_put, node_put, ends_off}

-- a commit: the number of its move, and the two nodes
pub record Commit : Type 0 where
  pub number : ℕ
  pub from : ℕ
  pub to : ℕ

-- the commit of a move
abbrev pub commit_by : Move → Commit
commit_by move = record { number = move.number; from = move.from; to = move.to }

-- the commit that a mark at a node is, if it is one
abbrev pub commit_of : ℕ → PresenceMark → Option Commit
commit_of node Empty = None
commit_of node (Here number) = None
commit_of node (Gone number to) = Some (record { number = number; from = node; to = to })
commit_of node (Coming number from) = None
commit_of node (Off number) = None

-- the commits of a subscriber, the oldest first
abbrev pub commits : ℕ → History → List Commit
commits sub history =
    filter_map (λ visit. commit_of (node_put visit.act) (mark_put visit.act)) (puts_to sub history)

-- where a subscriber stands
abbrev pub standing : Setting → ℕ → History → ℕ
standing setting sub history =
    fold (λ node commit. commit.to) (start setting sub) (commits sub history)

-- the number of a subscriber: how many commits it has made
abbrev pub number : ℕ → History → ℕ
number sub history = length (commits sub history)

-- whether a subscriber is off
abbrev pub off : ℕ → History → Bool
off sub history = ends_off (puts_to sub history)

-- whether a mark at a node confirms a commit
abbrev pub confirms : Commit → ℕ → PresenceMark → Bool
confirms commit node Empty = false
confirms commit node (Here number) = node == commit.to && number == commit.number
confirms commit node (Gone number to) = false
confirms commit node (Coming number from) = false
confirms commit node (Off number) = false

-- the weight of a passage, when the last commit is this one and these puts went before
abbrev pub passage_of : Setting → History → Option Commit → ℕ
passage_of setting puts None = 0
passage_of setting puts (Some commit) =
    if list_any (λ visit. confirms commit (node_put visit.act) (mark_put visit.act)) puts then 0
    else setting.distance commit.from commit.to

-- the weight of a subscriber's open passage after a history, 0 where none is open
abbrev pub passage : Setting → ℕ → History → ℕ
passage setting sub history =
    passage_of setting (puts_to sub history) (last_or None (commits sub history))
