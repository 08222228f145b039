-- A run on the line of four with two callers: the subscriber moves from node 3 to node 2; one caller
-- finds it from node 0 before the move and after its confirm, and the other from node 2 while the
-- passage is open.
-- Key law: `line_run`.
use Rattle.std.specs.Prelude.{ℕ, List, [], ◌∷◌, ◌++◌, drop, replicate, Some, None, take}
use Rattle.busy_finds.specs.Altogether.{MadeFind}
use Rattle.directory.specs.Courses.{move_to}
use Rattle.directory.specs.Finds.{FindCall}
use Rattle.directory.specs.Histories.{History}
use Rattle.directory.specs.Looks.{look_by}
use Rattle.directory.specs.Orders.{Scripts}
use Rattle.directory.specs.Writes.{visits}
use Rattle.directory.specs.declared.answers.Found.TheVariants.{At}
use Rattle.entry_word.specs.declared.visit.Key.TheVariants.{Entry, Presence}
use Rattle.entry_word.specs.declared.visit.Visit.{Visit}
use Rattle.plan_laws.specs.Examples.{line_setting}

-- a find of the subscriber from a node
abbrev pub find_from : ℕ → FindCall
find_from node = record { from = node; sub = 0 }

-- the move, and the finds of the two callers, which are actors 1 and 2
abbrev pub run_scripts : Scripts
run_scripts = record {
  steps = (move_to 2 ∷ []) ∷ [];
  finds = (find_from 0 ∷ find_from 0 ∷ []) ∷ (find_from 2 ∷ []) ∷ [];
}

-- who makes each visit
abbrev pub run_order : List ℕ
run_order =
    replicate 4 1 ++ (replicate 4 0 ++ (replicate 3 2
    ++ (replicate 1 0 ++ (replicate 3 1 ++ replicate 1 0))))

-- the puts of the move
abbrev pub run_puts : List Visit
run_puts = visits line_setting 0 (move_to 2 ∷ [])

-- all visits
abbrev pub run_history : History
run_history =
    look_by 1 (Presence 0 0) ∷ look_by 1 (Entry 0 0 0) ∷ look_by 1 (Entry 1 0 0)
    ∷ look_by 1 (Presence 3 0) ∷ take 4 run_puts
    ++ (look_by 2 (Presence 2 0) ∷ look_by 2 (Presence 3 0) ∷ look_by 2 (Presence 2 0)
    ∷ take 1 (drop 4 run_puts)
    ++ (look_by 1 (Presence 0 0) ∷ look_by 1 (Entry 0 0 0) ∷ look_by 1 (Presence 2 0)
    ∷ drop 5 run_puts))

-- the find at rest, which weighs its distance of 3; the one after the confirm, which weighs its
-- distance of 2; and the one in the passage, which goes to node 3 and back
abbrev pub find_at_rest : MadeFind
find_at_rest = record {
  actor = 1;
  call = find_from 0;
  found = At 3 0 (Some 1) 3;
  tickets = 0 ∷ 1 ∷ 2 ∷ 3 ∷ [];
}

abbrev pub find_after : MadeFind
find_after = record {
  actor = 1;
  call = find_from 0;
  found = At 2 1 (Some 0) 2;
  tickets = 12 ∷ 13 ∷ 14 ∷ [];
}

abbrev pub find_in_passage : MadeFind
find_in_passage = record {
  actor = 2;
  call = find_from 2;
  found = At 2 1 None 2;
  tickets = 8 ∷ 9 ∷ 10 ∷ [];
}

-- the finds by caller
abbrev pub run_callers : List (List MadeFind)
run_callers = (find_at_rest ∷ find_after ∷ []) ∷ (find_in_passage ∷ []) ∷ []
