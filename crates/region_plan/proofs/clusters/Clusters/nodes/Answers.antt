use Rattle.std.proofs.lemmas.Grind.{common_steps}
use Rattle.std.proofs.Common.{rules, arith}
use Rattle.region_plan.proofs.Laying.{head_laid, head_read, head_short}
use Rattle.region_plan.proofs.clusters.Clusters.nodes.Goals as goal

pub index-head-requires : goal.index-head-requires
index-head-requires c = grind (arith, head_short c.self.inside.lists c.args.c c.self.view_is c.requires)

pub slice_bounds-result-count : goal.slice_bounds-result-count
slice_bounds-result-count c =
    (head_laid c.args.c c.self.invariant c.self.view_is c.requires c.index-head.ensures).order

pub returns : goal.returns
returns c = search (rules, head_read, head_laid)

pub offset_bounds-deref-head : goal.offset_bounds-deref-head
offset_bounds-deref-head c = grind (arith, common_steps)

pub slice_bounds-result-end : goal.slice_bounds-result-end
slice_bounds-result-end c = grind (arith, common_steps)
