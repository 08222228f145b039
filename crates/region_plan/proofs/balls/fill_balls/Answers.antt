use Rattle.std.proofs.Common.{◌≡◌, ◌+◌, ◌*◌, List, ℕ, ap, ◌∙◌, arith}
use Rattle.std.specs.Prelude.{slice_range}
use Rattle.std.proofs.lemmas.List.Elements.{All-set}
use Rattle.node_set.specs.Nodes.{Nodes}
use Rattle.region_plan.proofs.Spreading.{ball_filled}
use Rattle.region_plan.proofs.balls.fill_balls.Goals as goal

pub loop-v-preserved : goal.loop-v-preserved
loop-v-preserved c =
    let n : ℕ = c.nodes-nodes.result in
    let row : List ℕ = slice_range c.args.exponents.now (c.loop-v.v * n) ((c.loop-v.v + 1) * n) in
    record {
      balls = ball_filled c.loop-v.v c.args.i c.loop-v.balls c.fill_within.new.self c.requires.exponents
          (omega (arith, c.loop-v-test.true, c.nodes-nodes.ensures.count)) (c.loop-v.auto.balls ∙ c.requires.count)
          (ap (λ m. slice_range c.args.exponents.now (c.loop-v.v * m) ((c.loop-v.v + 1) * m))
          c.nodes-nodes.ensures.count) c.loop-v.invariant.balls c.fill_within.ensures.members;
      rooms = All-set (λ (b : Nodes). b.room ≡ c.args.distances.now.nodes) c.loop-v.balls c.loop-v.v
          c.fill_within.new.self
          (c.fill_within.ensures.room
          ∙ c.loop-v.invariant.rooms c.loop-v.v c.index-balls-v.result
          (omega (arith, c.loop-v-test.true, c.nodes-nodes.ensures.count, c.loop-v.auto.balls, c.requires.count)))
          c.loop-v.invariant.rooms;
    }
