use Rattle.std.proofs.Common.{rules, ◌≡◌, ◌≤◌, ◌∙◌, ℕ, length, replicate, ap, arith}
use Rattle.std.proofs.lemmas.List.{length-replicate}
use Rattle.std.proofs.lemmas.Result.{IfOk-weaker}
use Rattle.region_plan.specs.Plan.{PlanCluster}
use Rattle.region_plan.specs.Flat.{IsFlatLevel}
use Rattle.region_plan.specs.Kept.{IsSized, level_of, shape_with}
use Rattle.region_plan.specs.Meanings.{IsTop}
use Rattle.region_plan.proofs.Making.{flat_level_is, level_sized}
use Rattle.region_plan.proofs.flat.flat_table.Goals as goal
use Rattle.region_plan.proofs.flat.flat_table.Goals.{After-new}

zeros : (c : After-new) → c.in_ok-homes.homes.items ≡ replicate {A = ℕ} c.args.distances.now.nodes 0
zeros c = search rules

pub returns-clause-level : goal.returns-clause-level
returns-clause-level c =
    IfOk-weaker c.new.result (λ table. table ≡ shape_with 1 c.in_ok-clusters.clusters c.in_ok-homes.homes.items)
    (λ table. (top : ℕ) → IsTop c.args.distances.now top → IsFlatLevel c.args.distances.now (level_of top 1 table))
    (λ table is top highest. flat_level_is highest c.in_ok-clusters.ensures (zeros c) (ap (level_of top 1) is))
    c.new.ensures

pub returns-clause-sized : goal.returns-clause-sized
returns-clause-sized c =
    IfOk-weaker c.new.result (λ table. table ≡ shape_with 1 c.in_ok-clusters.clusters c.in_ok-homes.homes.items)
    (λ table. (top : ℕ) → top ≤ 30 → IsSized c.args.distances.now.nodes (level_of top 1 table))
    (λ table is top few. level_sized top 1 1 c.in_ok-clusters.clusters c.in_ok-homes.homes.items
    (ap (level_of top 1) is)
    (ap (length {A = ℕ}) (zeros c) ∙ length-replicate {A = ℕ} c.args.distances.now.nodes 0)
    (omega (arith, ap (length {A = PlanCluster}) c.in_ok-clusters.ensures.alone, c.nodes.ensures.metric.some)) few)
    c.new.ensures
