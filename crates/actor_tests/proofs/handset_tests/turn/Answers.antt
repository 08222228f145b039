use Rattle.actor_tests.proofs.handset_tests.turn.Goals as goal

pub returns : goal.returns
returns c = c.switch.ensures.goes c.args.plan.now c.requires
