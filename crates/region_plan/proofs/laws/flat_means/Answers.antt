use Rattle.std.proofs.Common.{rules}
use Rattle.region_plan.proofs.Flatness.{flat_home, flat_readers, flat_leader, flat_inside, flat_matched, flat_reached}
use Rattle.region_plan.proofs.laws.flat_means.Goals as goal

pub returns : goal.returns
returns c = search (rules, flat_home, flat_readers, flat_leader, flat_inside, flat_matched, flat_reached)
