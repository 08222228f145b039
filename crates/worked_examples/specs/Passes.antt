-- A tracker's passes on the line of four: one subscriber that starts at node 3, and one caller.
-- Key laws: `worked_words`, `wrong_passes`, `wrong_turns`, `wrong_censuses`, `wrong_notes`,
-- `wrong_orders`, `wrong_causes`.
use Rattle.std.specs.Prelude.{◌≡◌, ℕ, List, [], ◌∷◌}
use Rattle.entry_word.specs.declared.visit.Act.TheVariants.{Census}
use Rattle.entry_word.specs.declared.visit.Visit.{Visit}
use Rattle.plan_laws.specs.Examples.{line_of_four}
use Rattle.station.specs.Passes.{NoteData, PassData}
use Rattle.station.specs.Setup.{Setup}

-- the setup of the line
abbrev pub line_setup : Setup
line_setup = record { plan = line_of_four; homes = 3 ∷ []; actors = 2 }

-- and with three subscribers
abbrev pub three_on_line : Setup
three_on_line = record { plan = line_of_four; homes = 3 ∷ 0 ∷ 2 ∷ []; actors = 4 }

-- an actor counts who is at a node
abbrev pub count_by : ℕ → ℕ → Visit
count_by actor node = record { actor = actor; act = Census node }

-- a pass of an actor that has seen these visits
pub record HasPass (pass : PassData) (actor : ℕ) (seen : List Visit) : Type 0 where
  pub low : pass.view.low ≡ actor
  pub setup : pass.view.setup ≡ line_setup
  pub seen_is : pass.view.seen ≡ seen

-- a note of these visits
pub record HasNote (note : NoteData) (seen : List Visit) : Type 0 where
  pub seen_is : note.view.seen ≡ seen
