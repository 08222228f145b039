use Rattle.track_c.specs.Edges.{AreRefused, IsPlanOfEdges}
use Rattle.track_c.specs.Handles.{held}
use Rattle.track_c.proofs.Reading.{read-into}
use Rattle.track_c.proofs.edges.track_plan_build.Goals as goal

pub returns-clause-made : goal.returns-clause-made
returns-clause-made c empty =
    read-into (IsPlanOfEdges c.args.nodes c.args.k c.args.edges.now)
    (AreRefused c.args.nodes c.args.k c.args.edges.now) c.network_of_edges-network.result
    c.plan_or_refusal-made.result c.args.refusal.now c.plan_or_refusal-made.new.refusal
    c.fill.result (held c.args.plan.now) (held c.fill.new.self) empty
    c.network_of_edges-network.ensures c.plan_or_refusal-made.ensures c.fill.ensures.refused
    c.fill.ensures.filled
