use Rattle.std.proofs.lemmas.Grind.{common_steps}
use Rattle.std.proofs.Common.{◌+◌, arith}
use Rattle.region_plan.specs.Plan.{level_at, no_level}
use Rattle.report_text.proofs.Parts.{homes-cut, homes-some}
use Rattle.report_text.proofs.plan.write_homes.Goals as goal

pub returns-then-to-nodes : goal.returns-then-to-nodes
returns-then-to-nodes c =
    let plan = c.args.plan.now in
    let homes = (level_at plan c.args.level).homes in
    let from = c.args.from in
    let to = c.args.from + c.min.result in
    let sized = (c.requires.kept.levels c.args.level no_level c.requires.level).homes in
    record {
      text = grind (arith, homes-cut);
      some = grind (arith, homes-some);
      sound = (c.requires.level, omega (arith, c.if-to-nodes.true, c.requires.nodes));
    }

pub returns : goal.returns
returns c = grind (arith, common_steps)
