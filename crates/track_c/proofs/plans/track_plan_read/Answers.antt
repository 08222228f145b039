use Rattle.track_c.specs.Handles.{held}
use Rattle.track_c.specs.Plans.{IsPlanOfText, IsTextRefusal}
use Rattle.track_c.proofs.Reading.{read-into}
use Rattle.track_c.proofs.plans.track_plan_read.Goals as goal

pub returns-clause-made : goal.returns-clause-made
returns-clause-made c empty =
    read-into (IsPlanOfText c.args.text.now) (IsTextRefusal c.args.text.now) c.read_network.result
    c.plan_or_refusal-made.result c.args.refusal.now c.plan_or_refusal-made.new.refusal
    c.fill.result (held c.args.plan.now) (held c.fill.new.self) empty c.read_network.ensures
    c.plan_or_refusal-made.ensures c.fill.ensures.refused c.fill.ensures.filled
