use Rattle.station.specs.HandsetLaws.{switched-handset}
use Rattle.station.specs.Setup.{setting_in}
use Rattle.track_c.proofs.subscribers.switch_of.Goals as goal

pub returns-in-Ok-clause-own : goal.returns-in-Ok-clause-own
returns-in-Ok-clause-own c =
    let setup = c.args.shared.now.tracker.setup in
    let goes = c.switch.ensures.goes setup.plan c.requires.own.goes in
    (switched-handset setup c.args.pass.now.view c.args.handset.now c.switch.new.self c.args.off
    c.requires.own c.in-Ok.ensures.faults c.in-Ok.ensures.exact goes
    (c.in-Ok.ensures.stands (setting_in setup))).0
