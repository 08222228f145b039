-- A find on the line of four that meets a move: its subscriber is committed between the find's
-- second look and its third, at the level below the top.
-- Key law: `line_price`.
use Rattle.std.specs.Prelude.{ℕ, List, [], ◌∷◌, ◌++◌, replicate}
use Rattle.directory.specs.Courses.{move_to}
use Rattle.directory.specs.Finds.{FindCall}
use Rattle.directory.specs.Histories.{History}
use Rattle.directory.specs.Orders.{history_of, Scripts}
use Rattle.plan_laws.specs.Examples.{line_scripts, line_setting}

-- a find of the subscriber from node 0
abbrev pub line_call : FindCall
line_call = record { from = 0; sub = 0 }

-- a move from node 3 to node 2, and this find
abbrev pub line_meeting : Scripts
line_meeting = line_scripts (move_to 2 ∷ []) (line_call ∷ [])

-- two looks, then the move up to its commit, then the other looks
abbrev pub meeting_order : List ℕ
meeting_order = replicate 2 1 ++ (replicate 4 0 ++ replicate 4 1)

-- all visits
abbrev pub meeting_history : History
meeting_history = history_of line_setting line_meeting meeting_order
