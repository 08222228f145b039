use Rattle.std.proofs.Common.{rules, subst, sym}
use Rattle.handset.specs.Condition.{GoesWith}
use Rattle.handset.proofs.Begun.{new-goes}
use Rattle.handset.proofs.handset.Handset.at_home.Goals as goal

pub returns-clause-exact : goal.returns-clause-exact
returns-clause-exact c = search rules

pub returns-clause-goes : goal.returns-clause-goes
returns-clause-goes c =
    subst (GoesWith c.args.plan.now) (sym (returns-clause-exact c))
    (new-goes c.args.sub c.args.home c.nodes.ensures.sound c.requires.node)
