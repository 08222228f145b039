-- The measures of a plan: how many clusters a node reads at most, and the bound on a find's weight
-- by its distance.
-- Key laws: `degree_bounds` (no node reads more clusters of a level than the degree), `plan_counts`
-- (the most looks and the most writes of the directory, from the plan's own data), and the
-- accessors' clauses.
use Rattle.std.specs.Prelude.{ℕ, ◌+◌, ◌*◌, List, [], ◌∷◌, length, map, max}
use Rattle.region_plan.specs.Plan.{PlanData, Level}

-- the greatest of the numbers, 0 where there is none
abbrev pub most : List ℕ → ℕ
most [] = 0
most (x ∷ xs) = max x (most xs)

-- the largest number of clusters that a node reads at this level
abbrev pub degree_in : Level → ℕ
degree_in level = most (map length level.readers)

-- the largest number of clusters that a node reads at a level
abbrev pub degree_of : PlanData → ℕ
degree_of plan = most (map degree_in plan.levels)

-- how many times its distance a quiet find may travel, but for twice an open passage
abbrev pub stretch_of : PlanData → ℕ
stretch_of plan = 16 * degree_of plan * plan.reach + 12 * plan.reach + 12
