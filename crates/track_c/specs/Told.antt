-- How C is told a cell, a put, an answer and a place. Key laws: `tell_cell` and `tell_answer`, by
-- their clauses.
use Rattle.std.specs.Prelude.{ℕ, [], Option, Some, None}
use Rattle.entry_word.specs.declared.visit.Key.{Key}
use Rattle.entry_word.specs.declared.visit.Key.TheVariants.{Presence, Entry}
use Rattle.directory.specs.Keys.{key_node}
use Rattle.directory.specs.declared.answers.Found.{Found}
use Rattle.directory.specs.declared.answers.Found.TheVariants.{At, Off, Again}
use Rattle.directory.specs.declared.answers.Why.TheVariants.{Empty, NoEntry, Chased}
use Rattle.region_plan.specs.Plan.{PlanData}
use Rattle.region_plan.specs.Settings.{setting_of}
use Rattle.track_c.specs.declared.cells.TrackCell.{TrackCell}
use Rattle.track_c.specs.declared.cells.TrackAnswer.{TrackAnswer}

-- a cell: what it is, and the node at which it lies
abbrev pub cell_told : PlanData → Key → TrackCell
cell_told plan (Presence node sub) =
    record { kind = 0; node = node; level = 0; cluster = 0; sub = sub }
cell_told plan (Entry level cluster sub) =
    record {
      kind = 1;
      node = key_node (setting_of plan []) (Entry level cluster sub);
      level = level;
      cluster = cluster;
      sub = sub;
    }

-- whether a find climbed
abbrev pub climbed_told : Option ℕ → ℕ
climbed_told None = 0
climbed_told (Some level) = 1

-- and to which level
abbrev pub level_told : Option ℕ → ℕ
level_told None = 0
level_told (Some level) = level

-- an answer that has a node, and one that says to look again
abbrev pub node_told : ℕ → ℕ → ℕ → Option ℕ → ℕ → TrackAnswer
node_told kind node number level weight =
    record {
      kind = kind;
      why = 0;
      node = node;
      number = number;
      climbed = climbed_told level;
      level = level_told level;
      weight = weight;
    }

abbrev pub again_told : ℕ → ℕ → ℕ → TrackAnswer
again_told why node weight =
    record {
      kind = 2;
      why = why;
      node = node;
      number = 0;
      climbed = 0;
      level = 0;
      weight = weight;
    }

-- an answer
abbrev pub answer_told : Found → TrackAnswer
answer_told (At node number level weight) = node_told 0 node number level weight
answer_told (Off node number level weight) = node_told 1 node number level weight
answer_told (Again (Empty node) weight) = again_told 1 node weight
answer_told (Again NoEntry weight) = again_told 2 0 weight
answer_told (Again Chased weight) = again_told 3 0 weight
