use Rattle.std.proofs.Common.{◌≡◌, ◌+◌, ◌-◌, ◌++◌, ◌∷◌, [], false, length, arith, sym, ◌∙◌}
use Rattle.std.proofs.lemmas.List.{get_or_default}
use Rattle.std.proofs.lemmas.Result.{IfOk-weaker}
use Rattle.region_plan.specs.Plan.{level_in}
use Rattle.region_plan.specs.Kept.{AreLevelsOf, level_of, level_with}
use Rattle.region_plan.proofs.Exponents.{levels_shared}
use Rattle.region_plan.proofs.Levels.{levels_tabled}
use Rattle.region_plan.proofs.building.push_level.Goals as goal

pub returns-then-not-index-clause-levels : goal.returns-then-not-index-clause-levels
returns-then-not-index-clause-levels c =
    IfOk-weaker c.push_shared.result
    (λ done. c.push_shared.new.self ≡ c.args.levels.now
    ++ level_with c.args.i c.threshold_for.result (level_in c.args.levels.now (length c.args.levels.now - 1)) ∷ [])
    (λ done. AreLevelsOf c.args.graph.now c.args.distances.now c.args.covering (c.args.i + 1) c.push_shared.new.self)
    (λ done pushed. levels_shared c.args.i c.args.spread.now.in_use.items c.requires.spread.marked c.if-i-gt0.true
    c.requires.few (get_or_default c.args.spread.now.in_use.items c.args.i false c.index.result.now
    (omega (arith, c.requires.few, c.requires.spread.count)) ∙ sym c.index.ensures ∙ c.if-not-index.true)
    c.requires.below c.threshold_for.ensures pushed)
    c.push_shared.ensures

pub returns-in_ok-table-clause-levels : goal.returns-in_ok-table-clause-levels
returns-in_ok-table-clause-levels c =
    IfOk-weaker c.push_table.result
    (λ done. c.push_table.new.self ≡ c.args.levels.now
    ++ level_of c.args.i c.threshold_for-else-i-gt0.result c.in_ok-table.table ∷ [])
    (λ done. AreLevelsOf c.args.graph.now c.args.distances.now c.args.covering (c.args.i + 1) c.push_table.new.self)
    (λ done pushed. levels_tabled c.in_ok-table.table c.requires.below c.in_ok-table.ensures.level
    c.in_ok-table.ensures.sized c.threshold_for-else-i-gt0.ensures pushed)
    c.push_table.ensures
