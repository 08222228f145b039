use Rattle.std.proofs.Common.{rules}
use Rattle.region_plan.proofs.Counting.{looks_counted, writes_counted}
use Rattle.region_plan.proofs.laws.plan_counts.Goals as goal

pub returns : goal.returns
returns c = search (rules, looks_counted, writes_counted)
