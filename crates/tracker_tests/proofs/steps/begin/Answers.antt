use Rattle.std.proofs.Common.{subst, sym}
use Rattle.station.specs.HandsetLaws.{begun-handset}
use Rattle.station.specs.Handsets.{IsHandsetOf}
use Rattle.station.specs.Setup.{Setup}
use Rattle.tracker_tests.proofs.steps.begin.Goals as goal

pub returns-in-Ok : goal.returns-in-Ok
returns-in-Ok c =
    let setup : Setup = c.args.tracker.now.setup in
    let view = c.args.own.now.view in
    let same : Setup = record setup { plan = c.args.plan.now } in
    let own : IsHandsetOf same view c.args.handset.now =
    subst (λ plan. IsHandsetOf (record setup { plan = plan }) view c.args.handset.now)
    (sym c.requires.plan) c.requires.own in record {
      own = subst (λ plan. IsHandsetOf (record setup { plan = plan }) view c.begin.new.self) c.requires.plan
          (begun-handset same view c.args.handset.now c.begin.new.self c.args.to own c.in-Ok.ensures.faults
          c.in-Ok.ensures.exact c.begin.ensures.goes (c.in-Ok.ensures.stands setup.homes)).0;
    }
