use Rattle.std.proofs.Common.{◌<◌, ◌∙◌, ap₂, arith, sym}
use Rattle.std.proofs.lemmas.Grind.{get_or_default_zero}
use Rattle.distances.specs.Table.{dist}
use Rattle.region_plan.specs.Plan.{clusters_of, leader, nodes_of}
use Rattle.own_stretch.proofs.Filling.{filled-more}
use Rattle.own_stretch.proofs.Small.{its-distance, leader-inside}
use Rattle.own_stretch.proofs.costs.farthest_of_level.Goals as goal

pub loop-node-preserved : goal.loop-node-preserved
loop-node-preserved c =
    let low : c.loop-node.node < nodes_of c.args.plan.now = omega (arith, c.loop-node-test.true, c.nodes-node-end.ensures.count) in
    let inside : c.home-home.result < clusters_of c.args.plan.now c.args.level = omega (
      arith,
      c.home-home.ensures,
      c.plan_is_sound.ensures.matched.homes c.args.level c.loop-node.node c.requires.level low,
    ) in
    filled-more c.args.plan.now c.args.level c.loop-node.node c.home-home.result c.loop-node.far.items low
    c.home-home.ensures c.loop-node.invariant inside
    (c.between-away.ensures
    ∙ (ap₂ (λ table u. dist table u c.loop-node.node) (sym c.requires.belongs) c.leader.ensures
    ∙ sym (its-distance c.args.plan.now (leader c.args.plan.now c.args.level c.home-home.result) c.loop-node.node
    (leader-inside c.args.plan.now c.args.level c.home-home.result c.plan_is_sound.ensures.matched c.requires.level
    inside) low)))
    (omega (
      arith,
      c.max.ensures,
      c.index.ensures,
      get_or_default_zero c.loop-node.far.items c.home-home.result c.index.result.now
          (omega (arith, inside, c.loop-node.invariant.count)),
    ))
