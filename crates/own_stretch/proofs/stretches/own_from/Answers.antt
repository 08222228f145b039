use Rattle.std.proofs.Common.{◌∙◌, ◌-◌, ap, arith, sym}
use Rattle.distances.specs.Table.{dist}
use Rattle.busy_finds.specs.Levels.{reaching}
use Rattle.own_stretch.specs.OwnStretch.{stretch_between}
use Rattle.own_stretch.specs.Tables.{bare}
use Rattle.own_stretch.proofs.Between.{between-apart, between-same}
use Rattle.own_stretch.proofs.Climbing.{reaching-low}
use Rattle.own_stretch.proofs.Greatest.{greatest-more, greatest-none}
use Rattle.own_stretch.proofs.Small.{its-distance}
use Rattle.own_stretch.proofs.stretches.own_from.Goals as goal
use Rattle.own_stretch.proofs.stretches.own_from.Goals.{else-to-from, then-to-from}

pub bounds-costs-level : goal.bounds-costs-level
bounds-costs-level c = omega (
  arith,
  c.level_for-level.ensures,
  reaching-low c.between-distance.result 0 (c.levels.result - 1),
  c.levels.ensures,
  c.requires.costs.count_is,
  c.plan_is_sound.ensures.sound.some,
)

pub loop-to-preserved : goal.loop-to-preserved
loop-to-preserved c = elim c.if-to-from.branch [
  | then-to-from w ↦
      rw w.own-is (greatest-more (stretch_between (bare c.args.plan.now) c.args.from) c.loop-to.to
      c.loop-to.invariant (between-apart (bare c.args.plan.now) c.args.from c.loop-to.to
      (λ e. w.if-to-from.true (sym e))
      (w.between-distance.ensures
      ∙ (ap (λ table. dist table c.args.from c.loop-to.to) (sym c.requires.belongs)
      ∙ sym (its-distance c.args.plan.now c.args.from c.loop-to.to c.requires.node
      (omega (arith, c.loop-to-test.true, c.nodes-to-end.ensures.count)))))
      (w.level_for-level.ensures
      ∙ ap (λ n. reaching w.between-distance.result 0 (n - 1)) w.levels.ensures)
      (c.requires.costs.each w.level_for-level.result (omega (
        arith,
        w.level_for-level.ensures,
        reaching-low w.between-distance.result 0 (w.levels.result - 1),
        w.levels.ensures,
        c.plan_is_sound.ensures.sound.some,
      ))) w.div_ceil.ensures) w.max-own.ensures)
  | else-to-from w ↦
      rw w.own-is (greatest-none (stretch_between (bare c.args.plan.now) c.args.from) c.loop-to.to
      c.loop-to.invariant (between-same (bare c.args.plan.now) c.args.from c.loop-to.to (sym w.if-to-from.false)))
]
