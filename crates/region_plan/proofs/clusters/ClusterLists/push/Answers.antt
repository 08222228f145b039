use Rattle.std.proofs.lemmas.Grind.{common_steps}
use Rattle.std.proofs.Common.{arith}
use Rattle.region_plan.specs.declared.clusters.ClusterLists.{ClusterLists}
use Rattle.region_plan.proofs.Laying.{made_laid, made_pushed}
use Rattle.region_plan.proofs.Making.{range_behind}
use Rattle.region_plan.proofs.clusters.ClusterLists.push.Goals as goal
use Rattle.region_plan.proofs.clusters.ClusterLists.push.Goals.{In_ok-push}

abbrev new : (c : In_ok-push) → ClusterLists
new c = record { heads = c.push.new.self; nodes = c.push_members.new.list; weights = c.weigh_members.new.weights }

pub weigh_members-requires-clause-nodes : goal.weigh_members-requires-clause-nodes
weigh_members-requires-clause-nodes c = grind (arith, range_behind)

pub returns-clause-laid : goal.returns-clause-laid
returns-clause-laid c =
    made_laid c.args.cluster.now (new c) c.requires.laid c.in_ok-push_members.ensures.pushed c.in_ok-push.ensures.items
    (omega (arith, c.len-start.ensures, c.args.self.now.nodes.ok.0))
    (omega (arith, c.len.ensures, c.push_members.new.list.ok.0)) c.in_ok-depth.ensures
    c.in_ok-push_members.ensures.sound.ascending

pub returns-clause-pushed : goal.returns-clause-pushed
returns-clause-pushed c =
    made_pushed c.args.cluster.now (new c) c.requires.laid c.in_ok-push_members.ensures.pushed
    c.in_ok-push.ensures.items (omega (arith, c.len-start.ensures, c.args.self.now.nodes.ok.0))
    (omega (arith, c.len.ensures, c.push_members.new.list.ok.0)) c.in_ok-depth.ensures

pub offset_bounds-deref-start : goal.offset_bounds-deref-start
offset_bounds-deref-start c = grind (arith, common_steps)

pub slice_bounds-nodes-count : goal.slice_bounds-nodes-count
slice_bounds-nodes-count c = grind (arith, common_steps)

pub slice_bounds-nodes-start : goal.slice_bounds-nodes-start
slice_bounds-nodes-start c = grind (arith, common_steps)
