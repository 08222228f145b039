-- What the worked examples speak of: the line of four nodes with its plan for k of 2, where one
-- subscriber starts at node 3, and three nodes in a row with theirs for k of 1.
-- Key laws: `worked_orders`, `worked_finds` and `worked_puts` (what the definitions give there),
-- `worked_scripts` (the scripts of these rows are valid).
use Rattle.std.specs.Prelude.{ℕ, All, List, [], ◌∷◌, slice_get, slice_index, slice_index_or}
use Rattle.std.specs.Option.{option_map_or}
use Rattle.entry_word.specs.declared.visit.Act.{Act}
use Rattle.entry_word.specs.declared.visit.Act.TheVariants.{Census}
use Rattle.entry_word.specs.declared.visit.Visit.{Visit}
use Rattle.directory.specs.Settings.{Setting}
use Rattle.directory.specs.Courses.{Step, move_to, switch_off, switch_on}
use Rattle.directory.specs.Finds.{FindCall}
use Rattle.directory.specs.Orders.{AreValid, IsFindCall, Scripts}
use Rattle.plan_laws.specs.Examples.{line_scripts, line_setting}

-- a find of the subscriber from a node
abbrev pub find_from : ℕ → FindCall
find_from node = record { from = node; sub = 0 }

-- a number of a table, by row and column
abbrev pub number_in : List (List ℕ) → ℕ → ℕ → ℕ
number_in rows i j = slice_index (slice_index_or rows i []) j

-- a list of a table, by row and column
abbrev pub list_in : List (List (List ℕ)) → ℕ → ℕ → List ℕ
list_in rows i j = slice_index_or (slice_index_or rows i []) j []

-- three nodes in a row, 0 and 1 at distance 3, 1 and 2 at distance 1, with their plan for k of 1.
-- Each level has three clusters. One subscriber starts at node 0.
abbrev pub pairs_of_three : List (List ℕ)
pairs_of_three = (0 ∷ []) ∷ (1 ∷ 2 ∷ []) ∷ (1 ∷ 2 ∷ []) ∷ []

-- all three nodes in each cluster
abbrev pub all_of_three : List (List ℕ)
all_of_three = (0 ∷ 1 ∷ 2 ∷ []) ∷ (0 ∷ 1 ∷ 2 ∷ []) ∷ (0 ∷ 1 ∷ 2 ∷ []) ∷ []

-- the distances of the three nodes
abbrev pub three_distances : List (List ℕ)
three_distances = (0 ∷ 3 ∷ 4 ∷ []) ∷ (3 ∷ 0 ∷ 1 ∷ []) ∷ (4 ∷ 1 ∷ 0 ∷ []) ∷ []

-- the weights inside the clusters of the lower levels
abbrev pub near_weights : List (List ℕ)
near_weights = (0 ∷ 0 ∷ 0 ∷ []) ∷ (0 ∷ 0 ∷ 1 ∷ []) ∷ (0 ∷ 1 ∷ 0 ∷ []) ∷ []

-- the setting of the three nodes
abbrev pub three : Setting
three =
    record {
      nodes = 3;
      top = 2;
      starts = 0 ∷ [];
      distance = λ u v. number_in three_distances u v;
      threshold = λ level. slice_index (1 ∷ 1 ∷ 2 ∷ []) level;
      home = λ level node. node;
      readers = λ level node.
          list_in (pairs_of_three ∷ pairs_of_three ∷ all_of_three ∷ []) level node;
      leader = λ level cluster. cluster;
      inside = λ level cluster node. slice_index
          (list_in (near_weights ∷ near_weights ∷ three_distances ∷ []) level cluster) node;
    }

-- what holds of the first of a list, whichever value stands for one that is missing
abbrev pub OfFirst : {A : Type 0} → List A → (A → Type 0) → Type 0
OfFirst {A} items P = (d : A) → P (slice_index_or items 0 d)

-- the act of the visit with a ticket
abbrev pub act_at : List Visit → ℕ → Act
act_at history ticket = option_map_or (λ visit. visit.act) (slice_get history ticket) (Census 0)

-- the steps of the worked orders and puts on the line
abbrev pub worked_steps : List (List Step)
worked_steps =
    [] ∷ (move_to 2 ∷ []) ∷ (move_to 2 ∷ move_to 0 ∷ []) ∷ (move_to 2 ∷ move_to 3 ∷ [])
    ∷ (switch_off ∷ []) ∷ (switch_off ∷ switch_on ∷ [])
    ∷ (move_to 2 ∷ switch_off ∷ switch_on ∷ []) ∷ (move_to 2 ∷ move_to 3 ∷ move_to 2 ∷ [])
    ∷ (switch_off ∷ switch_on ∷ move_to 2 ∷ [])
    ∷ (switch_off ∷ switch_on ∷ move_to 2 ∷ switch_off ∷ []) ∷ []

-- the scripts of these steps are valid, with whatever finds of the subscriber from nodes of the
-- line
abbrev pub MakeValidScripts : List Step → Type 0
MakeValidScripts steps =
    (finds : List FindCall) → All (IsFindCall line_setting) finds
    → AreValid line_setting (line_scripts steps finds)

-- the steps of the worked puts on the three nodes, and their script
abbrev pub three_steps : List Step
three_steps = move_to 1 ∷ move_to 2 ∷ move_to 0 ∷ move_to 1 ∷ []

-- the script of the worked puts on the three nodes
abbrev pub three_scripts : Scripts
three_scripts = record { steps = three_steps ∷ []; finds = [] }
