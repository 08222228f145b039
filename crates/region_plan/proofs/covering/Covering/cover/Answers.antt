use Rattle.region_plan.proofs.Covered.{phased_cover}
use Rattle.region_plan.proofs.covering.Covering.cover.Goals as goal

pub returns-in_ok-in_one_phase-in-Mean-clause-exact :
    goal.returns-in_ok-in_one_phase-in-Mean-clause-exact
returns-in_ok-in_one_phase-in-Mean-clause-exact c =
    rw c.in-Mean.is
    (phased_cover c.in_ok-in_one_phase-in-Mean.field-0 c.in_ok-cover-in-Mean.ensures.exact
    c.in_ok-in_one_phase-in-Mean.ensures.clusters c.in_ok-in_one_phase-in-Mean.ensures.homes
    c.in_ok-in_one_phase-in-Mean.ensures.phases)
