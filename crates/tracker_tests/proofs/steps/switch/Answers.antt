use Rattle.station.specs.HandsetLaws.{switched-handset}
use Rattle.station.specs.Setup.{setting_in}
use Rattle.tracker_tests.proofs.steps.switch.Goals as goal

pub returns-in-Ok : goal.returns-in-Ok
returns-in-Ok c =
    let setup = c.args.tracker.now.setup in
    let goes = c.switch.ensures.goes setup.plan c.requires.own.goes in record {
      own = (switched-handset setup c.args.own.now.view c.args.handset.now c.switch.new.self c.args.off c.requires.own
          c.in-Ok.ensures.faults c.in-Ok.ensures.exact goes (c.in-Ok.ensures.stands (setting_in setup))).0;
    }
