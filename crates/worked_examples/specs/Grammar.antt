-- What the lines of an input have said, and a text of a network in two parts. Key laws:
-- `worked_lines`, `worked_calls`, `worked_bytes`, `worked_limits`, `worked_apart`.
use Rattle.std.specs.Prelude.{ℕ, List, [], ◌∷◌, codes, map, Result, Err}
use Rattle.net_graph.specs.declared.edge.Edge.{Edge}
use Rattle.net_graph.specs.Walks.{make_edge}
use Rattle.net_reader.specs.declared.fault.InputFault.{InputFault}
use Rattle.net_reader.specs.declared.fault.InputCause.TheVariants.{Apart}
use Rattle.net_reader.specs.declared.said.Call.{Call}
use Rattle.net_reader.specs.declared.said.Call.TheVariants.{Move, Off, On}
use Rattle.net_reader.specs.Input.{Contents}
use Rattle.net_reader.specs.Said.{Said}
use Rattle.net_reader.specs.Shown.{◌then◌}

-- what was said up to a line of a place, in a format: four nodes, a subscriber at node 3, a caller
abbrev pub said_up_to : ℕ → ℕ → Said
said_up_to place format =
    record {
      place = place;
      format = format;
      nodes = 4;
      k = 2;
      edges = [];
      homes = 3 ∷ [];
      callers = 1;
      calls = [];
      order = [];
    }

-- the words that begin lines
abbrev pub line_words : List (List ℕ)
line_words =
    codes "track" ∷ codes "nodes" ∷ codes "k" ∷ codes "edge" ∷ codes "sub" ∷ codes "callers"
    ∷ codes "move" ∷ codes "find" ∷ codes "off" ∷ codes "on" ∷ codes "order" ∷ []

-- in the second format, what was said up to these calls of the subscriber
abbrev pub by_sub : List Call → Said
by_sub calls = record (said_up_to 7 2) {
  calls = map (λ call. record { actor = 0; call = call }) calls;
}

-- up to a move
abbrev pub moved_once : Said
moved_once = by_sub (Move 2 ∷ [])

-- up to a switch off
abbrev pub switched_off : Said
switched_off = by_sub (Off ∷ [])

-- up to a switch on again
abbrev pub switched_on : Said
switched_on = by_sub (Off ∷ On ∷ [])

-- nodes 0 and 1 are joined, nodes 2 and 3 are apart from them and from one another
abbrev pub first_edge : List Edge
first_edge = make_edge 0 1 1 ∷ []

-- the text of such an input, with a comment and a blank behind the last line that says something
abbrev pub apart_text : List ℕ
apart_text =
    codes "track 1" then codes "nodes 4" then codes "k 2" then codes "edge 0 1 1"
    then codes "sub 3" then codes "callers 1" then codes "# the end" then codes " "

-- it is refused at its last line, with this node
abbrev pub apart_at : ℕ → ℕ → Result Contents InputFault
apart_at line node = Err (record { line = line; cause = Apart node })
