-- When a report of an input is sound, in the words of the report: its lines are those of the
-- input's calls; the tickets of each actor fall into the runs of its lines; an answer names where
-- its subscriber stood, with how many moves, and whether it was off; a find that is to be made
-- again met a move; and moves and finds weigh what they may. A text is sound where it is such a
-- report, in the input's order, completed, and what it says of weights holds of the network's own
-- distances and of a stretch that nodes and k alone bound. No level, cluster or cell is named, nor
-- how a tracker came to its answers.
-- Key laws: `command` and `command_with_threads` of track, by their clause `sound` (what `replay`
-- and `run` write is so); `own_reports_are_sound_texts` of own_reports; `sound_reports` and
-- `unsound_reports` (computed).
use Rattle.std.specs.Prelude.{◌≡◌, ℕ, ◌+◌, ◌-◌, ◌*◌, ◌^◌, ◌<◌, ◌≤◌, All, List}
use Rattle.net_graph.specs.Walks.{IsLeastWeight, everywhere}
use Rattle.net_reader.specs.Input.{Contents}
use Rattle.directory.specs.Outcomes.{Outcome}
use Rattle.directory.specs.declared.answers.Done.{Done}
use Rattle.report_text.specs.ReportText.{report_of}
use Rattle.soundness.specs.Lines.{AreLinesFrom}
use Rattle.soundness.specs.Places.{HasCause, NamesPlace}
use Rattle.soundness.specs.Turns.{Follows, TakeTurns, lines_of, tickets_of}
use Rattle.soundness.specs.Weights.{IsWeighed}

-- lines and an order are a sound report of an input, by these distances and this stretch
pub record IsSound (contents : Contents) (distance : ℕ → ℕ → ℕ) (stretch : ℕ)
    (lines : List Done) (order : List ℕ) : Type 0 where
  pub lines_are : AreLinesFrom contents.homes 0 contents.scripts lines
  pub tickets : (actor : ℕ) → TakeTurns (tickets_of actor order) 0 (lines_of actor lines)
  pub places : All (NamesPlace contents.homes lines) lines
  pub again : All (HasCause lines order) lines
  pub weights : All (IsWeighed distance stretch lines order) lines

-- these are the distances of an input's network: the least weights of walks between its nodes
abbrev pub AreDistances : Contents → (ℕ → ℕ → ℕ) → Type 0
AreDistances contents distance =
    (u v : ℕ) → u < contents.nodes → v < contents.nodes
    → IsLeastWeight contents.edges everywhere u v (distance u v)

-- the stretch of finds, where no node is in more clusters than the degree
abbrev pub stretch_for : ℕ → ℕ → ℕ
stretch_for degree k = 16 * degree * (2 * k - 1) + 24 * k

-- what became of an input's calls is a sound report, in the input's order, completed, and with
-- what its network promises
pub record IsSoundReport (contents : Contents) (outcome : Outcome) : Type 0 where
  pub follows : Follows contents.order outcome.order
  pub distance : ℕ → ℕ → ℕ
  pub distances : AreDistances contents distance
  pub degree : ℕ
  pub few : degree ^ contents.k ≤ contents.k ^ contents.k * contents.nodes
  pub sound : IsSound contents distance (stretch_for degree contents.k) outcome.calls
      outcome.order

-- a text is a sound report of an input
pub record IsSoundText (contents : Contents) (text : List ℕ) : Type 0 where
  pub outcome : Outcome
  pub text_is : text ≡ report_of outcome
  pub report : IsSoundReport contents outcome

-- a text is a sound report of an input's calls, under the order that the text itself prints
pub record IsSoundRun (contents : Contents) (text : List ℕ) : Type 0 where
  pub outcome : Outcome
  pub text_is : text ≡ report_of outcome
  pub report : IsSoundReport (record contents { order = outcome.order }) outcome
