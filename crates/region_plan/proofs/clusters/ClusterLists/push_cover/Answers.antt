use Rattle.std.proofs.Common.{rules}
use Rattle.std.proofs.lemmas.List.{append_assoc}
use Rattle.region_plan.specs.Kept.{IsSpanned}
use Rattle.region_plan.proofs.Lists.{next_holds}
use Rattle.region_plan.proofs.Making.{more_clusters}
use Rattle.region_plan.proofs.clusters.ClusterLists.push_cover.Goals as goal

pub push-requires-clause-spanned : goal.push-requires-clause-spanned
push-requires-clause-spanned c =
    next_holds (IsSpanned c.args.graph.now) c.loop-cluster.yielded c.loop-cluster.invariant.all
    c.in-Some.ensures.steps.0 c.requires.spanned

pub loop-cluster-preserved : goal.loop-cluster-preserved
loop-cluster-preserved c = record {
  work =
      let spanned : IsSpanned c.args.graph.now c.in-Some.cluster =
      next_holds (IsSpanned c.args.graph.now) c.loop-cluster.yielded c.loop-cluster.invariant.all
      c.in-Some.ensures.steps.0 c.requires.spanned in
      c.give_back.ensures.sized c.args.graph.now.nodes c.loop-cluster.invariant.work spanned.room;
  laid = c.in_ok-push.ensures.laid;
  done = search (rules, more_clusters);
  all = search (rules, append_assoc);
}
