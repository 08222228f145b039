use Rattle.std.proofs.Common.{arith}
use Rattle.handset.proofs.Loaded.{whole, whole-goes}
use Rattle.handset.proofs.handset.Handset.of_state.Goals as goal

pub returns-clause-exact : goal.returns-clause-exact
returns-clause-exact c =
    whole c.args.plan.now c.args.words.now _ _ _ _ (omega (arith, c.levels.ensures)) c.split_at.ensures.front
    c.split_at.ensures.back c.in_ok-handset.ensures c.checked.ensures

pub returns-clause-goes : goal.returns-clause-goes
returns-clause-goes c =
    whole-goes c.states_come_back.ensures.only c.args.plan.now c.args.words.now _ (returns-clause-exact c)
