use Rattle.std.proofs.Common.{subst}
use Rattle.station.specs.Handsets.{HandsetStays}
use Rattle.station.specs.Setup.{Setup}
use Rattle.station.specs.StayLaws.{handset-heard}
use Rattle.tracker_tests.proofs.steps.hear.Goals as goal

pub returns-clause-keeps : goal.returns-clause-keeps
returns-clause-keeps c = λ handset.
    subst (λ (s : Setup). HandsetStays s c.args.pass.now.view c.hear.new.pass.view handset)
    c.requires.free.of.setup
    (handset-heard c.args.pass.now c.note-note.result c.hear.new.pass handset c.hear.ensures.heard)
