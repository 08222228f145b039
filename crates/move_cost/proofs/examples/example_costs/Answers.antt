use Rattle.std.proofs.Common.{refl}
use Rattle.directory.specs.Courses.{highest}
use Rattle.directory.specs.Writes.{writes}
use Rattle.move_cost.specs.Costs.{weight_of_steps}
use Rattle.move_cost.proofs.examples.example_costs.Goals as goal

pub returns-clause-erases : goal.returns-clause-erases
unfolding highest writes weight_of_steps
returns-clause-erases c = refl

pub returns-clause-purges : goal.returns-clause-purges
unfolding highest writes weight_of_steps
returns-clause-purges c = refl

pub returns-clause-both : goal.returns-clause-both
unfolding highest writes weight_of_steps
returns-clause-both c = refl

pub returns-clause-back : goal.returns-clause-back
unfolding highest writes weight_of_steps
returns-clause-back c = refl

pub returns-clause-switches : goal.returns-clause-switches
unfolding highest writes weight_of_steps
returns-clause-switches c = refl

pub returns-clause-two : goal.returns-clause-two
unfolding highest writes weight_of_steps
returns-clause-two c = refl

pub returns-clause-winding : goal.returns-clause-winding
unfolding highest writes weight_of_steps
returns-clause-winding c = refl
