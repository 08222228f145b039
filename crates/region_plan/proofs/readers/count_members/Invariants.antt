use Rattle.std.proofs.Common.{take}
use Rattle.region_plan.specs.Readers.{IsCounted}
use Rattle.region_plan.proofs.readers.count_members.Given as goal

abbrev pub invariant-loop-member : goal.invariant-loop-member
invariant-loop-member l = IsCounted (take l.member-index l.members) l.fn.counts l.counts
