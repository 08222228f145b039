use Rattle.std.proofs.Common.{rules, arith}
use Rattle.region_plan.proofs.Filling.{none_written, table_made}
use Rattle.region_plan.proofs.readers.fill_readers.Goals as goal

pub loop-number-init : goal.loop-number-init
loop-number-init c = search (rules, none_written)

pub fill_cluster-requires : goal.fill_cluster-requires
fill_cluster-requires c = search rules

pub returns : goal.returns
returns c = grind (arith, table_made)
