-- Worked examples: reports of the line of four nodes by several programs, sound and unsound.
-- Key laws, computed: `worked_reports`, `flaws_of_form`, `flaws_of_tickets`, `flaws_of_place`,
-- `moves_by_tickets`, `switches_by_tickets`, `moves_of_nobody`,
-- `moves_by_commits`, `finds_of_off`, `moves_within_finds`, `first_flaws`, `lines_of_orders`.
use Rattle.std.specs.Prelude.{ℕ, List, [], ◌∷◌, ◌++◌, codes, replicate}
use Rattle.net_reader.specs.declared.said.Call.{Call}
use Rattle.net_reader.specs.declared.said.Call.TheVariants.{Move, Find, Off, On}
use Rattle.net_reader.specs.Input.{Contents}
use Rattle.outside.specs.Texts.{fields}
use Rattle.plan_laws.specs.Examples.{line_of_four}
use Rattle.report_check.specs.declared.verdict.Verdict.{Verdict}
use Rattle.report_check.specs.Verdicts.{verdict_of}

infixr 65 ◌then◌
-- a line, and what stands behind it
abbrev pub ◌then◌ : List ℕ → List ℕ → List ℕ
line then rest = line ++ 10 ∷ rest

-- the line of four nodes with a subscriber at node 3 and a caller, whose calls these are
abbrev pub contents_with : List Call → List Call → Contents
contents_with steps finds =
    record {
      format = 2;
      nodes = 4;
      k = 2;
      edges = [];
      homes = 3 ∷ [];
      callers = 1;
      scripts = steps ∷ finds ∷ [];
      order = [];
    }

-- a move to node 2, and a find from node 3
abbrev pub one_move : Contents
one_move = contents_with (Move 2 ∷ []) (Find 3 0 ∷ [])

-- a move to node 2, and a find from node 2
abbrev pub near_find : Contents
near_find = contents_with (Move 2 ∷ []) (Find 2 0 ∷ [])

-- moves to node 2 and to node 0, and a find from node 3
abbrev pub two_moves : Contents
two_moves = contents_with (Move 2 ∷ Move 0 ∷ []) (Find 3 0 ∷ [])

-- the same moves, and a find from node 0
abbrev pub two_moves_near : Contents
two_moves_near = contents_with (Move 2 ∷ Move 0 ∷ []) (Find 0 0 ∷ [])

-- off and on again, and a find from node 3
abbrev pub switches : Contents
switches = contents_with (Off ∷ On ∷ []) (Find 3 0 ∷ [])

-- off, on and off again, a move to node 2, and a find from node 3
abbrev pub off_then_move : Contents
off_then_move = contents_with (Off ∷ On ∷ Off ∷ Move 2 ∷ []) (Find 3 0 ∷ [])

-- a find from node 3, of a subscriber that makes no call
abbrev pub lone_find : Contents
lone_find = contents_with ([]) (Find 3 0 ∷ [])

-- three finds from node 3, of a subscriber that makes no call
abbrev pub three_finds : Contents
three_finds = contents_with ([]) (Find 3 0 ∷ Find 3 0 ∷ Find 3 0 ∷ [])

-- two subscribers, at nodes 3 and 0, and a caller, whose calls these are
abbrev pub contents_of_two : List Call → List Call → List Call → Contents
contents_of_two steps others finds =
    record (contents_with steps finds) {
      homes = 3 ∷ 0 ∷ [];
      scripts = steps ∷ others ∷ finds ∷ [];
    }

-- a move of each to the node beside it, and a find of the first from node 3
abbrev pub both_move : Contents
both_move = contents_of_two (Move 2 ∷ []) (Move 1 ∷ []) (Find 3 0 ∷ [])

-- the second switches off, and a find of the first from node 3
abbrev pub other_off : Contents
other_off = contents_of_two ([]) (Off ∷ []) (Find 3 0 ∷ [])

-- a find from node 3 of the second, and neither makes a call
abbrev pub second_found : Contents
second_found = contents_of_two ([]) ([]) (Find 3 1 ∷ [])

-- a line of the order with so many tickets of actor 0
abbrev pub order_of_zeros : ℕ → List ℕ
order_of_zeros tickets = codes "order" ++ fields (replicate tickets 0)

-- the verdict on a report of these calls
abbrev pub verdict_for : Contents → List ℕ → Verdict
verdict_for contents report = verdict_of line_of_four contents report
