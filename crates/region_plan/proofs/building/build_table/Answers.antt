use Rattle.std.proofs.Common.{rules, ◌≡◌, arith}
use Rattle.std.proofs.lemmas.Result.{IfOk-weaker}
use Rattle.region_plan.proofs.Levels.{balls_few, balls_rooms, balls_centred, balls_inside, balls_turned, balls_work, cover_spanned, nodes_work, homes_count, rows_few, level_built, level_fits}
use Rattle.region_plan.specs.Kept.{IsSized, level_of, shape_with}
use Rattle.region_plan.specs.Meanings.{IsLevelOf}
use Rattle.region_plan.specs.Regions.{threshold_of}
use Rattle.region_plan.proofs.building.build_table.Goals as goal

pub cover-requires : goal.cover-requires
cover-requires c = search (rules, balls_few, balls_rooms, balls_centred, balls_turned, balls_inside, balls_work)

pub of_cover-requires-clause-spanned : goal.of_cover-requires-clause-spanned
of_cover-requires-clause-spanned c =
    cover_spanned c.requires.metric c.args.i c.fill_balls.new.balls c.fill_balls.ensures.balls c.args.covering
    c.in_ok-made.ensures.exact c.requires.belongs c.requires.network c.requires.low c.covering_shape.ensures

pub of_cover-requires-clause-work : goal.of_cover-requires-clause-work
of_cover-requires-clause-work c =
    nodes_work c.requires.metric c.args.i c.fill_balls.new.balls c.fill_balls.ensures.balls c.requires.belongs
    c.cover.ensures.work

pub new-requires : goal.new-requires
new-requires c =
    let homes = homes_count c.requires.metric c.args.i c.fill_balls.new.balls c.fill_balls.ensures.balls c.args.covering
    c.in_ok-made.ensures.exact in
    let rows = rows_few c.requires.metric c.args.i c.fill_balls.new.balls c.fill_balls.ensures.balls c.args.covering
    c.in_ok-made.ensures.exact c.args.graph.now c.in_ok-clusters.clusters c.in_ok-clusters.ensures.clusters
    c.in_ok-made.ensures.few in
    omega (arith, c.requires.metric.few, homes, rows)

pub returns-clause-level : goal.returns-clause-level
returns-clause-level c =
    IfOk-weaker c.new.result
    (λ shape. shape ≡ shape_with c.in_ok-made.field-0.phases c.in_ok-clusters.clusters c.in_ok-made.field-0.home.items)
    (λ shape. IsLevelOf c.args.graph.now c.args.distances.now c.args.covering c.args.i
    (level_of c.args.i (threshold_of c.args.i) shape))
    (level_built c.requires.metric c.args.i c.fill_balls.new.balls c.fill_balls.ensures.balls c.args.covering
    c.in_ok-made.ensures.exact c.args.graph.now c.in_ok-clusters.clusters c.in_ok-clusters.ensures.clusters
    c.in_ok-made.ensures.few)
    c.new.ensures

pub returns-clause-sized : goal.returns-clause-sized
returns-clause-sized c =
    IfOk-weaker c.new.result
    (λ shape. shape ≡ shape_with c.in_ok-made.field-0.phases c.in_ok-clusters.clusters c.in_ok-made.field-0.home.items)
    (λ shape. IsSized c.args.distances.now.nodes (level_of c.args.i (threshold_of c.args.i) shape))
    (λ shape. level_fits c.requires.metric c.args.i c.fill_balls.new.balls c.fill_balls.ensures.balls c.args.covering
    c.in_ok-made.ensures.exact c.args.graph.now c.in_ok-clusters.clusters c.in_ok-clusters.ensures.clusters
    c.in_ok-made.ensures.few shape c.requires.few)
    c.new.ensures

pub returns-clause-work : goal.returns-clause-work
returns-clause-work c =
    rw c.requires.belongs.nodes c.of_cover.ensures.work
