use Rattle.std.proofs.Common.{◌-◌, take, drop, arith}
use Rattle.region_plan.specs.Plan.{level_at, no_level}
use Rattle.outside.specs.Texts.{fields}
use Rattle.report_text.proofs.Parts.{homes-more}
use Rattle.report_text.proofs.plan.push_homes.Goals as goal

pub loop-node-preserved : goal.loop-node-preserved
loop-node-preserved c =
    let homes = (level_at c.args.plan.now c.args.level).homes in
    let front = fields (take (c.loop-node.node - c.args.from) (drop c.args.from homes)) in
    let sized = (c.requires.kept.levels c.args.level no_level c.requires.level).homes in
    record {
      text = grind (arith, homes-more);
      long = omega (arith, c.number.ensures.long, c.loop-node.invariant.long, c.loop-node.auto.node);
    }
