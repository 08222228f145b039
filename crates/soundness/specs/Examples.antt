-- Worked examples: the report of a tracker that tells each move to all nodes, on the line of four
-- nodes, and how it is broken.
-- Key laws, computed: `sound_reports`, `unsound_reports`.
use Rattle.std.specs.Prelude.{ℕ, ◌+◌, ◌-◌, List, [], ◌∷◌, None}
use Rattle.directory.specs.declared.answers.Done.{Done}
use Rattle.directory.specs.declared.answers.Done.TheVariants.{Moved, Found}
use Rattle.net_graph.specs.Walks.{make_edge}
use Rattle.net_reader.specs.declared.said.Call.TheVariants.{Move, Find}
use Rattle.net_reader.specs.Input.{Contents}
use Rattle.soundness.specs.Sound.{IsSound}

-- the line of four nodes, with a subscriber at node 3 that goes to the other end and back a step,
-- and two callers
abbrev pub line_input : Contents
line_input =
    record {
      format = 1;
      nodes = 4;
      k = 2;
      edges = make_edge 0 1 1 ∷ make_edge 1 2 1 ∷ make_edge 2 3 1 ∷ [];
      homes = 3 ∷ [];
      callers = 2;
      scripts = (Move 0 ∷ Move 1 ∷ []) ∷ (Find 0 0 ∷ Find 1 0 ∷ []) ∷ (Find 3 0 ∷ []) ∷ [];
      order = [];
    }

-- how far its nodes are apart
abbrev pub line_distance : ℕ → ℕ → ℕ
line_distance u v = (u - v) + (v - u)

-- the lines of the subscriber
abbrev pub first_move : Done
first_move = Moved 0 1 3 0 3 0 1 4

abbrev pub second_move : Done
second_move = Moved 0 2 0 1 1 5 6 11

-- the lines of the callers
abbrev pub find_amid : Done
find_amid = Found 1 0 0 0 1 None 0 2 3

abbrev pub find_there : Done
find_there = Found 1 1 0 1 2 None 0 9 10

abbrev pub find_far : Done
find_far = Found 2 3 0 1 2 None 2 7 8

-- the lines of the report
abbrev pub told_lines : List Done
told_lines = first_move ∷ second_move ∷ find_amid ∷ find_there ∷ find_far ∷ []

-- its order
abbrev pub told_order : List ℕ
told_order = 0 ∷ 0 ∷ 1 ∷ 1 ∷ 0 ∷ 0 ∷ 0 ∷ 2 ∷ 2 ∷ 1 ∷ 1 ∷ 0 ∷ []

-- lines and an order are a sound report of this input, with the stretch of two clusters
abbrev pub IsSoundHere : List Done → List ℕ → Type 0
IsSoundHere lines order = IsSound line_input line_distance 144 lines order

-- the same where one line is another
abbrev pub IsSoundWith : Done → Done → Done → Done → Done → Type 0
IsSoundWith one two three four five =
    IsSoundHere (one ∷ two ∷ three ∷ four ∷ five ∷ []) told_order
