use Rattle.std.proofs.Common.{◌∙◌, ◌+◌, ap, arith, sym}
use Rattle.cluster_tree.proofs.Rounding.{within_takes, within_skips}
use Rattle.cluster_tree.proofs.round.count_within.Goals as goal
use Rattle.cluster_tree.proofs.round.count_within.Goals.{then-distance-far, else-distance-far}

pub overflow_add-count : goal.overflow_add-count
overflow_add-count c = omega (arith, c.loop-distance.invariant.0, c.loop-distance-test.true, c.requires)

pub loop-distance-preserved : goal.loop-distance-preserved
loop-distance-preserved c = elim c.if-distance-far.branch [
  | then-distance-far w ↦ (
    omega (arith, c.loop-distance.invariant.0, w.count-is),
    w.count-is ∙ ap (λ n. n + 1) c.loop-distance.invariant.1
        ∙ sym (within_takes c.args.row.now c.args.far c.loop-distance.distance-index w.if-distance-far.true),
  )
  | else-distance-far w ↦ (
    omega (arith, c.loop-distance.invariant.0, w.count-is),
    w.count-is ∙ c.loop-distance.invariant.1
        ∙ sym (search within_skips),
  )
]

pub returns : goal.returns
returns c = grind arith
