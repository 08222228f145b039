use Rattle.std.proofs.Common.{refl, subst}
use Rattle.entry_word.specs.declared.visit.Act.TheVariants.{Look}
use Rattle.entry_word.specs.declared.visit.Key.TheVariants.{Presence}
use Rattle.station.specs.Handsets.{HandsetStays}
use Rattle.station.specs.Setup.{Setup}
use Rattle.station.specs.StayLaws.{handset-held, handset-visited}
use Rattle.tracker_tests.proofs.steps.look.Goals as goal

pub returns-in-Ok-clause-keeps : goal.returns-in-Ok-clause-keeps
returns-in-Ok-clause-keeps c = λ handset.
    subst (λ (s : Setup). HandsetStays s c.args.pass.now.view c.visit_look.new.pass.view handset)
    c.requires.free.of.setup
    (handset-visited c.args.pass.now (Look (Presence c.args.node 0)) c.in-Ok.looked.ticket c.visit_look.new.pass
    handset refl c.in-Ok.ensures.looked.0)

pub returns-in-Err-clause-keeps : goal.returns-in-Err-clause-keeps
returns-in-Err-clause-keeps c = λ handset.
    subst (λ (s : Setup). HandsetStays s c.args.pass.now.view c.visit_look.new.pass.view handset)
    c.requires.free.of.setup
    (handset-held c.args.pass.now _ c.in-Err.held c.visit_look.new.pass handset c.in-Err.ensures.looked)

pub returns-then-node-nodes-clause-keeps : goal.returns-then-node-nodes-clause-keeps
returns-then-node-nodes-clause-keeps c = λ handset its. (its, refl)
