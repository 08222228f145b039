use Rattle.std.proofs.Common.{◌≡◌, ◌<◌, ℕ, List, length, ◌∙◌, ap, arith}
use Rattle.std.proofs.lemmas.List.{take_all}
use Rattle.region_plan.specs.Plan.{PlanData, Level, level_in, no_level}
use Rattle.region_plan.specs.Kept.{IsSized, Shape, shape_of}
use Rattle.region_plan.proofs.Counting.{looks_counted, looks_more}
use Rattle.region_plan.proofs.plan.Plan.most_looks.Goals as goal

pub loop-i-preserved : goal.loop-i-preserved
loop-i-preserved c =
    let levels : c.self.inside.levels ≡ c.args.self.now.levels = ap (λ (p : PlanData). p.levels) c.self.view_is in
    let shape : c.table.result.now ≡ shape_of (level_in c.args.self.now.levels c.loop-i.i) =
    c.table.ensures ∙ ap (λ (ls : List Level). shape_of (level_in ls c.loop-i.i)) levels in
    let below : c.loop-i.i < length c.args.self.now.levels =
    omega (arith, c.loop-i-test.true, c.levels-i-end.ensures) in
    let sized : IsSized c.self.inside.distances.nodes (level_in c.self.inside.levels c.loop-i.i) =
    c.self.invariant.kept.levels c.loop-i.i no_level (omega (arith, below, ap (length {A = Level}) levels)) in
    record {
      sum = looks_more c.args.self.now.levels c.args.from c.loop-i.i below c.loop-i.invariant.sum shape
          (ap (length {A = ℕ}) c.readers_at.ensures.numbers);
      few = omega (
        arith,
        c.loop-i.invariant.few,
        c.readers_at.ensures.few,
        ap (λ (s : Shape). length s.clusters) c.table.ensures,
        sized.clusters,
        c.self.invariant.kept.metric.few,
      );
    }

pub returns : goal.returns
returns c = grind (arith, take_all, looks_counted)
