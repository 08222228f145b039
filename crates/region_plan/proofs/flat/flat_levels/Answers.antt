use Rattle.std.proofs.Common.{◌≡◌, ◌∷◌, [], rules}
use Rattle.std.proofs.lemmas.List.Elements.{All-cons, All-nil}
use Rattle.region_plan.specs.Kept.{IsSized, level_of}
use Rattle.region_plan.proofs.flat.flat_levels.Goals as goal

pub returns-clause-level : goal.returns-clause-level
returns-clause-level c =
    let levels : c.push_table.new.self ≡ level_of c.top_for-top.result 1 c.in_ok-table.table ∷ [] = search rules in
    rw levels (c.in_ok-table.ensures.level c.top_for-top.result c.top_for-top.ensures.top)

pub returns-clause-sized : goal.returns-clause-sized
returns-clause-sized c =
    let levels : c.push_table.new.self ≡ level_of c.top_for-top.result 1 c.in_ok-table.table ∷ [] = search rules in
    rw levels
    (All-cons (IsSized c.args.distances.now.nodes) (level_of c.top_for-top.result 1 c.in_ok-table.table) []
    (c.in_ok-table.ensures.sized c.top_for-top.result c.top_for-top.ensures.few)
    (All-nil (IsSized c.args.distances.now.nodes)))
