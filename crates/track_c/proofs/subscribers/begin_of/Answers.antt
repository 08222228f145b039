use Rattle.std.proofs.Common.{ap, subst, sym, ◌∙◌, ◌≡◌}
use Rattle.region_plan.specs.Plan.{PlanData}
use Rattle.station.specs.HandsetLaws.{begun-handset}
use Rattle.station.specs.Handsets.{IsHandsetOf}
use Rattle.station.specs.Setup.{Setup}
use Rattle.track_c.proofs.subscribers.begin_of.Goals as goal

pub returns-in-Ok-clause-own : goal.returns-in-Ok-clause-own
returns-in-Ok-clause-own c =
    let setup : Setup = c.args.shared.now.tracker.setup in
    let view = c.args.pass.now.view in
    let plan : PlanData = c.deref-network.result.now.plan in
    let is : plan ≡ setup.plan =
    ap (λ network. network.plan) c.deref-network.ensures ∙ c.args.shared.now.plan_is in
    let same : Setup = record setup { plan = plan } in
    let own : IsHandsetOf same view c.args.handset.now =
    subst (λ p. IsHandsetOf (record setup { plan = p }) view c.args.handset.now) (sym is)
    c.requires.own in
    subst (λ p. IsHandsetOf (record setup { plan = p }) view c.begin.new.self) is
    (begun-handset same view c.args.handset.now c.begin.new.self c.args.to own
    c.in-Ok.ensures.faults c.in-Ok.ensures.exact c.begin.ensures.goes
    (c.in-Ok.ensures.stands setup.homes)).0
