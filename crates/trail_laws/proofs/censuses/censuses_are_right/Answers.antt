use Rattle.trail_laws.specs.Censuses.{CensusesEndByScripts, CensusesEndRight, ListedStandThere, RestingAreListed}
use Rattle.trail_laws.proofs.Listed.{end-right, listed-stand, resting-listed}
use Rattle.trail_laws.proofs.Ending.{end-by_scripts}
use Rattle.trail_laws.proofs.censuses.censuses_are_right.Goals as goal

pub returns : goal.returns
returns c =
    let listed : ListedStandThere = listed-stand (assumption) (assumption) in
    let resting : RestingAreListed = resting-listed (assumption) (assumption) (assumption) in
    let ends : CensusesEndRight = end-right listed resting (assumption) (assumption) (assumption) (assumption) in
    let scripts : CensusesEndByScripts = end-by_scripts ends (assumption) (assumption) (assumption) (assumption)
    (assumption) (assumption) in
    assumption
