use Rattle.std.proofs.Common.{◌≡◌, ◌<◌, length, arith, ap, sym, ◌∙◌, []}
use Rattle.directory.specs.Finds.{climb}
use Rattle.directory.specs.Settings.{levels}
use Rattle.region_plan.specs.Plan.{readers}
use Rattle.region_plan.specs.Settings.{setting_of}
use Rattle.walk.proofs.Readers.{above-more, above-empty, empty-means}
use Rattle.walk.proofs.climb.climb_from.Goals as goal

pub returns-then-not-is_empty-clause-pursuit : goal.returns-then-not-is_empty-clause-pursuit
returns-then-not-is_empty-clause-pursuit c =
    let low : c.loop-level.level < levels (setting_of c.args.plan.now []) = grind arith in
    ap (climb c.args.known c.args.weight) (sym (grind (arith, above-more)) ∙ c.loop-level.invariant.same)

pub loop-level-preserved : goal.loop-level-preserved
loop-level-preserved c =
    let low : c.loop-level.level < levels (setting_of c.args.plan.now []) = grind arith in
    let none : length (readers c.args.plan.now c.loop-level.level c.args.from) ≡ 0 =
    grind (arith, empty-means) in
    record {
      high = omega (arith, c.loop-level.invariant.high);
      same = grind (arith, above-empty);
    }
