use Rattle.std.proofs.Common.{◌≡◌, ◌≤◌, ◌-◌, ◌*◌, length, take, drop}
use Rattle.region_plan.specs.Plan.{level_at}
use Rattle.outside.specs.Texts.{fields}
use Rattle.report_text.proofs.plan.push_homes.Given as goal

abbrev pub invariant-loop-node : goal.invariant-loop-node
invariant-loop-node l = record {
  text : l.line ≡ fields (take (l.node - l.from) (drop l.from (level_at l.plan l.level).homes));
  long : length l.line ≤ 41 * (l.node - l.from);
}
